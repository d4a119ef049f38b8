use Rattle.std.proofs.Common.{◌≡◌, ℕ, List, ◌+◌, ◌-◌, ◌*◌, ◌/◌, ◌++◌, length, take, drop, arith, sym, ◌∙◌, ap}
use Rattle.std.proofs.lemmas.List.{take_rest}
use Rattle.blake2b_hash.specs.Blake.{before_last, from_block}
use Rattle.blake2b_hash.proofs.ChainLemmas.{IsAfter_append, IsAfter_at, before_last_long, before_last_short, filled_block, from_block_append, from_block_later, length-kept, rest_of}
use Rattle.blake2b_hash.proofs.hasher.Hasher.update.Goals as goal

pub returns-then-bytes-room : goal.returns-then-bytes-room
returns-then-bytes-room c = λ len given stands.
    let kept = c.args.self.now.block in
    let more = c.args.bytes.now in
    let same : before_last (given ++ more) ≡ before_last given = before_last_short given kept more stands.kept (omega arith) in
    let fits = length-kept given kept stands.kept in
    record {
      asked = stands.asked;
      taken = IsAfter_at _ len (given ++ more) (before_last given) _ (sym same)
          (IsAfter_append _ len given more (before_last given) (omega arith) stands.taken);
      kept = c.push.ensures ∙ from_block_append given kept more stands.kept ∙ ap (λ (k : ℕ). from_block k (given ++ more)) (sym same);
    }

pub returns : goal.returns
returns c = λ len given stands.
    let kept = c.args.self.now.block in
    let more = c.args.bytes.now in
    let room : ℕ = c.room-room.result in
    let n : ℕ = before_last given in
    let counted = length-kept given kept stands.kept in
    let before = IsAfter_append _ len given more n (omega arith) stands.taken in
    let block : c.push-2.new.self ≡ take 128 (from_block n (given ++ more)) =
    c.push-2.ensures ∙ filled_block kept more room c.room-room.ensures (omega arith)
    ∙ ap (take 128) (from_block_append given kept more stands.kept) in
    let filled = c.take.ensures len n (given ++ more) before (c.as_slice.ensures ∙ block) in
    let rest : List ℕ = take (length more - room) (drop room more) in
    let is_rest : rest ≡ drop room more = take_rest more room in
    let follows : rest ≡ from_block (n + 1) (given ++ more) = is_rest ∙ rest_of given kept more room stands.kept c.room-room.ensures in
    let whole : ℕ = (length rest - 1) / 128 in
    let last : n + 1 + whole ≡ before_last (given ++ more) =
    before_last_long given kept more rest room stands.kept c.room-room.ensures (omega arith) is_rest in
    let tail : List ℕ = take (length rest - whole * 128) (drop (whole * 128) rest) in
    record {
      asked = stands.asked;
      taken = IsAfter_at _ len (given ++ more) (n + 1 + whole) _ last (c.take_blocks.ensures len (n + 1) (given ++ more) filled follows);
      kept = c.push-3.ensures ∙ ap (λ (x : List ℕ). x ++ tail) c.clear.ensures ∙ take_rest rest (whole * 128)
          ∙ from_block_later (n + 1) whole (given ++ more) rest follows ∙ ap (λ (k : ℕ). from_block k (given ++ more)) last;
    }
