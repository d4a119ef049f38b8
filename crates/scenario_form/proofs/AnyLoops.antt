-- Whether one of some passes a test, as a loop finds it.
use Rattle.std.proofs.Common.{◌≡◌, ℕ, ◌+◌, ◌<◌, ◌≤◌, Bool, true, false, ltb, List, length, get_or, take, sym, ap, subst, ◌∙◌}
use Rattle.std.specs.Prelude.{All}
use Rattle.std.specs.List.{list_any}
use Rattle.std.proofs.lemmas.List.{take_all}
use Rattle.std.proofs.lemmas.List.Elements.{All-get_or}
use Rattle.std.proofs.lemmas.List.Folds.{list_any_at, list_any_more}
use Rattle.fil_message.specs.declared.tipset.TipBlock.{TipBlock}
use Rattle.fil_message.specs.declared.tipset.Tipset.{Tipset}
use Rattle.scenario_form.specs.Judging.{is_long}

-- too many blocks, and too many messages
abbrev pub is_wide : Tipset → Bool
is_wide t = ltb 256 (length t.blocks)

abbrev pub is_full : TipBlock → Bool
is_full b = ltb 10000 (length b.messages)

-- a message is too long
abbrev pub has_long : TipBlock → Bool
has_long b = list_any is_long b.messages

pub any_more : {X : Type 0} (p : X → Bool) (xs : List X) (i : ℕ) (x : X) → i < length xs → x ≡ get_or xs i x → p x ≡ false → list_any p (take i xs) ≡ false → list_any p (take (i + 1) xs) ≡ false
any_more p xs i x within at fails before = list_any_more p xs i x within ∙ rw (before, sym at) fails

pub any_found : {X : Type 0} (p : X → Bool) (xs : List X) (i : ℕ) (x : X) → i < length xs → x ≡ get_or xs i x → p x ≡ true → true ≡ list_any p xs
any_found p xs i x within at passes = sym (list_any_at p xs i x within (ap p (sym at) ∙ passes))

pub any_none : {X : Type 0} (p : X → Bool) (xs : List X) (i : ℕ) → length xs ≤ i → list_any p (take i xs) ≡ false → false ≡ list_any p xs
any_none p xs i over none = sym (ap (list_any p) (sym (take_all i xs over)) ∙ none)

-- what holds of each holds of this one
pub holds_of : {X : Type 0} (P : X → Type 0) (xs : List X) (i : ℕ) (x : X) → i < length xs → x ≡ get_or xs i x → All P xs → P x
holds_of P xs i x within at all = subst P (sym at) (All-get_or P xs i x within all)
