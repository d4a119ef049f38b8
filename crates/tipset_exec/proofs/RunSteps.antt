-- What the messages and the blocks of a tipset do, one by one, and that they keep a state funded.
use Rattle.std.proofs.Common.{◌≡◌, ℕ, ◌+◌, ◌-◌, ◌<◌, ◌≤◌, List, [], ◌∷◌, ◌++◌, true, false, cond, length, map, take, get_or, min, refl, sym, ap, ◌∙◌, arith}
use Rattle.std.proofs.lemmas.List.{length-take, take_more}
use Rattle.std.proofs.lemmas.List.Sums.{sum_by-cons, sum_by-take-le, sum_by_more, sum-map}
use Rattle.std.specs.Prelude.{bytes_eq, sum}
use Rattle.std.specs.List.{list_any, sum_by}
use Rattle.fil_base.specs.CidParts.{CidParts}
use Rattle.fil_base.specs.declared.token.TheConstants.{GREATEST_AMOUNT}
use Rattle.fil_message.specs.Layout.{message_spelling}
use Rattle.fil_message.specs.declared.message.Message.{Message}
use Rattle.fil_message.specs.declared.tipset.TipBlock.{TipBlock}
use Rattle.fil_message.specs.declared.tipset.Tipset.{Tipset}
use Rattle.gas_prices.specs.declared.rules.Rules.{Rules}
use Rattle.state_model.specs.State.{State}
use Rattle.tipset_exec.specs.Balances.{burnt_funds_id, minted, moved, reward_id}
use Rattle.tipset_exec.specs.Funds.{IsFunded, IsWithin, held}
use Rattle.tipset_exec.specs.Messages.{Applied, applied}
use Rattle.tipset_exec.specs.Tipsets.{Run, awarded, payee, with_block, with_blocks, with_message, with_messages}
use Rattle.tipset_exec.proofs.Applying.{applied_funded}
use Rattle.tipset_exec.proofs.Funded.{mint_funded, reward_sent, tips_within, with_fewer, within_range}

-- ---- one message

-- a run to which what a message did is added
abbrev pub added : ℕ → Run → ℕ → Message → Applied → Run
added b run i m done = record {
  state = done.state;
  lines = run.lines ++ (record { block = b; message = i; receipt = done.receipt } ∷ []);
  came = message_spelling m ∷ run.came;
  invocations = run.invocations + done.invocations;
  tips = run.tips + done.tip;
  penalties = min (run.penalties + done.penalty) GREATEST_AMOUNT;
}

pub message_again : (rules : Rules) (t : Tipset) (b : ℕ) (run : Run) (i : ℕ) (m : Message) → list_any (bytes_eq (message_spelling m)) run.came ≡ true → with_message rules t b run i m ≡ run
message_again rules t b run i m again = ap (λ test. cond test run (added b run i m (applied rules t run.state m))) again

pub message_new : (rules : Rules) (t : Tipset) (b : ℕ) (run : Run) (i : ℕ) (m : Message) → list_any (bytes_eq (message_spelling m)) run.came ≡ false
    → with_message rules t b run i m ≡ added b run i m (applied rules t run.state m)
message_new rules t b run i m new = ap (λ test. cond test run (added b run i m (applied rules t run.state m))) new

-- what holds of a run, and of it with a message, holds after the message
pub message_is : (P : Run → Type 0) (rules : Rules) (t : Tipset) (b : ℕ) (run : Run) (i : ℕ) (m : Message) → P run → P (added b run i m (applied rules t run.state m)) → P (with_message rules t b run i m)
message_is P rules t b run i m same new =
    elim (list_any (bytes_eq (message_spelling m)) run.came) as (λ test. P (cond test run (added b run i m (applied rules t run.state m)))) [ true ↦ same | false ↦ new ]

-- a run over a funded state, which has the tips
abbrev pub RunsOver : CidParts → ℕ → Run → Type 0
RunsOver account due run = IsFunded account run.state 0 due run.tips

pub message_funded : (rules : Rules) (t : Tipset) (b : ℕ) (run : Run) (i : ℕ) (m : Message) (due : ℕ) → RunsOver rules.codes.account due run → RunsOver rules.codes.account due (with_message rules t b run i m)
message_funded rules t b run i m due is =
    let done = applied rules t run.state m in
    let after = applied_funded rules t run.state m due run.tips is in
    message_is (RunsOver rules.codes.account due) rules t b run i m is
    (with_fewer rules.codes.account done.state 0 due (done.tip + run.tips) 0 due (run.tips + done.tip) after.state (omega arith) (omega arith) (omega arith))

-- ---- messages

pub no_messages : (rules : Rules) (t : Tipset) (b : ℕ) (run : Run) (i : ℕ) → with_messages rules t b run i [] ≡ run
unfolding with_messages
no_messages rules t b run i = refl

messages_push : (rules : Rules) (t : Tipset) (b : ℕ) (run : Run) (i : ℕ) (ms : List Message) (m : Message) → with_messages rules t b run i (ms ++ m ∷ []) ≡ with_message rules t b (with_messages rules t b run i ms) (i + length ms) m
unfolding with_messages
messages_push rules t b run i [] m = ap (λ (k : ℕ). with_message rules t b run k m) (omega arith)
messages_push rules t b run i (n ∷ ms) m =
    messages_push rules t b (with_message rules t b run i n) (i + 1) ms m
    ∙ ap (λ (k : ℕ). with_message rules t b (with_messages rules t b (with_message rules t b run i n) (i + 1) ms) k m) (omega arith)

pub messages_more : (rules : Rules) (t : Tipset) (b : ℕ) (run : Run) (ms : List Message) (i : ℕ) (m : Message) → i < length ms → m ≡ get_or ms i m
    → with_messages rules t b run 0 (take (i + 1) ms) ≡ with_message rules t b (with_messages rules t b run 0 (take i ms)) i m
messages_more rules t b run ms i m within here =
    ap (with_messages rules t b run 0) (take_more ms i m within ∙ ap (λ (n : Message). take i ms ++ n ∷ []) (sym here)) ∙ messages_push rules t b run 0 (take i ms) m
    ∙ ap (λ (k : ℕ). with_message rules t b (with_messages rules t b run 0 (take i ms)) k m) (omega (arith, length-take i ms))

pub messages_funded : (rules : Rules) (t : Tipset) (b : ℕ) (run : Run) (i : ℕ) (ms : List Message) (due : ℕ) → RunsOver rules.codes.account due run → RunsOver rules.codes.account due (with_messages rules t b run i ms)
unfolding with_messages
messages_funded rules t b run i [] due is = is
messages_funded rules t b run i (m ∷ ms) due is = messages_funded rules t b (with_message rules t b run i m) (i + 1) ms due (message_funded rules t b run i m due is)

-- ---- a block's award

-- what a block earns, and what of it is owed
abbrev pub owed_of : TipBlock → ℕ → ℕ → ℕ
owed_of b tips penalties = min (b.award + tips) penalties

-- each step of paying an award is over a funded state
pub record AwardFunded (account : CidParts) (s : State) (b : TipBlock) (tips : ℕ) (penalties : ℕ) (due : ℕ) : Type 0 where
  pub after_minting : IsWithin (minted s b.award)
  pub earned : b.award + tips ≤ 2000000000000000000000000000
  pub owed : owed_of b tips penalties ≤ held (minted s b.award) reward_id
  pub after_burning : IsWithin (moved (minted s b.award) reward_id burnt_funds_id (owed_of b tips penalties))
  pub kept : b.award + tips - owed_of b tips penalties ≤ held (moved (minted s b.award) reward_id burnt_funds_id (owed_of b tips penalties)) reward_id
  pub after_all : IsFunded account (awarded s b tips penalties) 0 due 0

pub award_funded : (account : CidParts) (s : State) (b : TipBlock) (tips penalties due : ℕ) → IsFunded account s 0 (b.award + due) tips → AwardFunded account s b tips penalties due
award_funded account s b tips penalties due is =
    let owed = owed_of b tips penalties in
    let kept = b.award + tips - owed in
    let first = minted s b.award in
    let second = moved first reward_id burnt_funds_id owed in
    let one = mint_funded account s b.award 0 due tips is in
    let split = with_fewer account first 0 due (b.award + tips) 0 due (owed + kept) one (omega arith) (omega arith) (omega arith) in
    let two = reward_sent account first burnt_funds_id owed 0 due kept split in
    let all = with_fewer account second 0 due kept 0 due (kept + 0) two (omega arith) (omega arith) (omega arith) in
    record {
      after_minting = within_range account first 0 due (b.award + tips) one;
      earned = tips_within account first 0 due (b.award + tips) one;
      owed = omega (arith, one.has_tips);
      after_burning = within_range account second 0 due kept two;
      kept = two.has_tips;
      after_all = reward_sent account second (payee s b.miner) kept 0 due 0 all;
    }

-- ---- blocks

pub block_funded : (rules : Rules) (t : Tipset) (run : Run) (b : ℕ) (block : TipBlock) (due tips : ℕ) → IsFunded rules.codes.account run.state 0 (block.award + due) tips
    → IsFunded rules.codes.account (with_block rules t run b block).state 0 due 0
block_funded rules t run b block due tips is =
    let account = rules.codes.account in
    let start : Run = record run { tips = 0; penalties = 0 } in
    let begin = with_fewer account run.state 0 (block.award + due) tips 0 (block.award + due) 0 is (omega arith) (omega arith) (omega arith) in
    let end = with_messages rules t b start 0 block.messages in
    (award_funded account end.state block end.tips end.penalties due (messages_funded rules t b start 0 block.messages (block.award + due) begin)).after_all

blocks_funded : (rules : Rules) (t : Tipset) (run : Run) (b : ℕ) (blocks : List TipBlock) (due : ℕ) → IsFunded rules.codes.account run.state 0 (sum_by (λ x. x.award) blocks + due) 0
    → IsFunded rules.codes.account (with_blocks rules t run b blocks).state 0 due 0
unfolding with_blocks
blocks_funded rules t run b [] due is = with_fewer rules.codes.account run.state 0 (0 + due) 0 0 due 0 is (omega arith) (omega arith) (omega arith)
blocks_funded rules t run b (block ∷ blocks) due is =
    let rest = sum_by (λ (x : TipBlock). x.award) blocks in
    let whole = sum_by-cons (λ (x : TipBlock). x.award) block blocks in
    let start = with_fewer rules.codes.account run.state 0 (sum_by (λ x. x.award) (block ∷ blocks) + due) 0 0 (block.award + (rest + due)) 0 is (omega (arith, whole)) (omega (arith, whole)) (omega arith) in
    blocks_funded rules t (with_block rules t run b block) (b + 1) blocks due (block_funded rules t run b block (rest + due) 0 start)

-- before the block at a place, the award is still due
pub funded_at : (rules : Rules) (t : Tipset) (run : Run) (blocks : List TipBlock) (i : ℕ) (block : TipBlock) → i < length blocks → block ≡ get_or blocks i block
    → IsFunded rules.codes.account run.state 0 (sum (map (λ x. x.award) blocks)) 0 → IsFunded rules.codes.account (with_blocks rules t run 0 (take i blocks)).state 0 (block.award + 0) 0
funded_at rules t run blocks i block within here is =
    let award : TipBlock → ℕ = λ x. x.award in
    let all : sum (map award blocks) ≡ sum_by award blocks = sum-map award blocks in
    let front = sum_by-take-le award blocks (i + 1) in
    let more = sum_by_more award blocks i block within in
    let same = ap award here in
    blocks_funded rules t run 0 (take i blocks) (block.award + 0)
    (with_fewer rules.codes.account run.state 0 (sum (map award blocks)) 0 0 (sum_by award (take i blocks) + (block.award + 0)) 0 is (omega (arith, all, front, more, same)) (omega (arith, all, front, more, same)) (omega arith))

blocks_push : (rules : Rules) (t : Tipset) (run : Run) (b : ℕ) (blocks : List TipBlock) (block : TipBlock) → with_blocks rules t run b (blocks ++ block ∷ []) ≡ with_block rules t (with_blocks rules t run b blocks) (b + length blocks) block
unfolding with_blocks
blocks_push rules t run b [] block = ap (λ (k : ℕ). with_block rules t run k block) (omega arith)
blocks_push rules t run b (x ∷ blocks) block =
    blocks_push rules t (with_block rules t run b x) (b + 1) blocks block
    ∙ ap (λ (k : ℕ). with_block rules t (with_blocks rules t (with_block rules t run b x) (b + 1) blocks) k block) (omega arith)

pub blocks_more : (rules : Rules) (t : Tipset) (run : Run) (blocks : List TipBlock) (i : ℕ) (block : TipBlock) → i < length blocks → block ≡ get_or blocks i block
    → with_blocks rules t run 0 (take (i + 1) blocks) ≡ with_block rules t (with_blocks rules t run 0 (take i blocks)) i block
blocks_more rules t run blocks i block within here =
    ap (with_blocks rules t run 0) (take_more blocks i block within ∙ ap (λ (x : TipBlock). take i blocks ++ x ∷ []) (sym here)) ∙ blocks_push rules t run 0 (take i blocks) block
    ∙ ap (λ (k : ℕ). with_block rules t (with_blocks rules t run 0 (take i blocks)) k block) (omega (arith, length-take i blocks))

pub no_blocks : (rules : Rules) (t : Tipset) (run : Run) → with_blocks rules t run 0 [] ≡ run
unfolding with_blocks
no_blocks rules t run = refl
