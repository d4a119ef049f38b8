-- Which messages move values alone, test by test.
use Rattle.std.proofs.Common.{◌≡◌, ◌<◌, ◌≤◌, List, [], ◌∷◌, Bool, true, false, eqb, leb, ◌&&◌, length, get_or, refl, sym, ap, ◌∙◌, arith}
use Rattle.std.proofs.lemmas.Bool.{lt-leb, or_parts}
use Rattle.std.specs.Prelude.{is_some}
use Rattle.std.specs.List.{list_all, list_any}
use Rattle.fil_address.specs.declared.address.Address.{Address}
use Rattle.fil_address.specs.declared.address.Address.TheVariants.{Id, Secp, Made, Bls}
use Rattle.fil_message.specs.declared.message.Message.{Message}
use Rattle.fil_message.specs.declared.tipset.TipBlock.{TipBlock}
use Rattle.init_names.specs.Resolving.{resolved}
use Rattle.state_model.specs.State.{State}
use Rattle.tipset_exec.specs.Alone.{has_account, is_transfer}
use Rattle.tipset_exec.specs.Keys.{is_key}

and_swap : (a b c d : Bool) → ((a && b) && (c && d)) ≡ ((a && c) && (b && d))
and_swap true true c d = refl
and_swap true false true d = refl
and_swap true false false d = refl
and_swap false b c d = refl

-- they all move values alone, to receivers that have accounts
both_tests : (s : State) (ms : List Message) → list_all (is_transfer s) ms ≡ (list_all (λ m. eqb m.method 0) ms && list_all (λ m. has_account s m.to) ms)
both_tests s [] = refl
both_tests s (m ∷ ms) =
    ap (λ rest. (eqb m.method 0 && has_account s m.to) && rest) (both_tests s ms)
    ∙ and_swap (eqb m.method 0) (has_account s m.to) (list_all (λ m. eqb m.method 0) ms) (list_all (λ m. has_account s m.to) ms)

-- what is no key needs no account
pub no_key : (s : State) (a : Address) → is_key a ≡ false → true ≡ has_account s a
no_key s (Id id) not_one = refl
no_key s (Secp hash) not_one = absurd (cc)
no_key s (Made hash) not_one = refl
no_key s (Bls key) not_one = absurd (cc)

-- a key's account is the one that it names
pub key_named : (s : State) (a : Address) → is_key a ≡ true → is_some (resolved s.names a) ≡ has_account s a
key_named s (Id id) key = refl
key_named s (Secp hash) key = refl
key_named s (Made hash) key = absurd (cc)
key_named s (Bls key) is = refl

no_keys : (s : State) (ms : List Message) → list_any (λ m. is_key m.to) ms ≡ false → list_all (λ m. has_account s m.to) ms ≡ true
no_keys s [] none = refl
no_keys s (m ∷ ms) none =
    let parts = or_parts (is_key m.to) (list_any (λ m. is_key m.to) ms) none in
    (λ i. sym (no_key s m.to parts.0) i && no_keys s ms parts.1 i)

pub no_sends : (s : State) (ms : List Message) (b : Bool) → b ≡ list_all (λ m. eqb m.method 0) ms → b ≡ false → false ≡ list_all (is_transfer s) ms
no_sends s ms b is none = sym (both_tests s ms ∙ ap (λ t. t && list_all (λ m. has_account s m.to) ms) (sym is ∙ none))

pub all_sends : (s : State) (ms : List Message) (b c : Bool) → b ≡ list_all (λ m. eqb m.method 0) ms → b ≡ true → c ≡ list_all (λ m. has_account s m.to) ms → c ≡ list_all (is_transfer s) ms
all_sends s ms b c is yes_it_is accounts = accounts ∙ sym (both_tests s ms ∙ ap (λ t. t && list_all (λ m. has_account s m.to) ms) (sym is ∙ yes_it_is))

pub sends_without_keys : (s : State) (ms : List Message) (b c : Bool) → b ≡ list_all (λ m. eqb m.method 0) ms → b ≡ true → c ≡ list_any (λ m. is_key m.to) ms → c ≡ false → true ≡ list_all (is_transfer s) ms
sends_without_keys s ms b c is yes_it_is keys none = all_sends s ms b true is yes_it_is (sym (no_keys s ms (sym keys ∙ none)))

-- ---- blocks

abbrev are_built : State → List TipBlock → Bool
are_built s blocks = leb (length blocks) 1 && list_all (λ b. list_all (is_transfer s) b.messages) blocks

pub none_built : (s : State) (blocks : List TipBlock) → length blocks < 1 → true ≡ are_built s blocks
none_built s [] few = refl
none_built s (b ∷ blocks) few = absurd (omega arith)

and_true : (a : Bool) → a ≡ (a && true)
and_true true = refl
and_true false = refl

pub one_built : (s : State) (blocks : List TipBlock) (block : TipBlock) (b : Bool) → 1 ≤ length blocks → length blocks < 2 → block ≡ get_or blocks 0 block → b ≡ list_all (is_transfer s) block.messages → b ≡ are_built s blocks
one_built s [] block b least few here is = absurd (omega arith)
one_built s (x ∷ []) block b least few here is = is ∙ ap (λ (y : TipBlock). list_all (is_transfer s) y.messages) here ∙ and_true (list_all (is_transfer s) x.messages)
one_built s (x ∷ y ∷ blocks) block b least few here is = absurd (omega arith)

pub more_not_built : (s : State) (blocks : List TipBlock) → 2 ≤ length blocks → false ≡ are_built s blocks
more_not_built s blocks many = ap (λ t. t && list_all (λ b. list_all (is_transfer s) b.messages) blocks) (sym (lt-leb (length blocks) 1 (omega (arith, many))))
