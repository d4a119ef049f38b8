-- Tipsets one after another over one state.
use Rattle.std.proofs.Common.{◌≡◌, ℕ, zero, suc, ◌+◌, ◌<◌, Bool, true, false, cond, not, ◌&&◌, List, [], ◌∷◌, ◌++◌, length, get_or, take, Option, Some, None, Result, Ok, Err, refl, sym, ap, subst, ◌∙◌, arith}
use Rattle.std.specs.Prelude.{All}
use Rattle.std.proofs.lemmas.List.{get_or_default}
use Rattle.std.proofs.lemmas.List.Elements.{All-cons, All-head, All-more, All-nil, All-tail}
use Rattle.fil_base.specs.CidParts.{CidParts}
use Rattle.cid_core.specs.BlockParts.{BlockParts}
use Rattle.gas_prices.specs.declared.rules.Codes.{Codes}
use Rattle.fil_message.specs.Tipsets.{awards}
use Rattle.fil_message.specs.declared.tipset.Tipset.{Tipset}
use Rattle.hamt_map.specs.declared.state_fault.StateFault.{StateFault}
use Rattle.state_model.specs.State.{State, all_below_next, has_room_for}
use Rattle.state_model.specs.StateAt.{state_at}
use Rattle.scenario_form.specs.Judging.{tipset_judged, tipsets_judged}
use Rattle.scenario_form.specs.Room.{all_fit}
use Rattle.scenario_form.specs.declared.fault.ScenarioFault.{ScenarioFault}
use Rattle.scenario_form.specs.declared.fault.ScenarioFault.TheVariants.{Root, Cbor, Form, Price, Limit, Codes as SameCodes, State as BadState, Next, Total}

-- the state under the root of each of these tipsets
abbrev pub IsOver : List BlockParts → Codes → State → Tipset → Type 0
IsOver blocks codes s t = state_at blocks t.root codes ≡ Ok s

abbrev pub AreOver : List BlockParts → Codes → State → List Tipset → Type 0
AreOver blocks codes s run = All (IsOver blocks codes s) run

-- what is judged where the state loads
abbrev pub judged_in : State → ℕ → Tipset → Option ScenarioFault
judged_in s n t = cond (not (all_below_next s)) (Some (Next n)) (cond (not (has_room_for (awards t) s)) (Some (Total n)) None)

pub judged_over : (blocks : List BlockParts) (codes : Codes) (n : ℕ) (t : Tipset) (s : State) → state_at blocks t.root codes ≡ Ok s → tipset_judged blocks codes n t ≡ judged_in s n t
judged_over blocks codes n t s is = rw is refl

first_fault : (blocks : List BlockParts) (codes : Codes) (n : ℕ) (t : Tipset) (ts : List Tipset) (fault : ScenarioFault) → tipset_judged blocks codes n t ≡ Some fault → tipsets_judged blocks codes n (t ∷ ts) ≡ Some fault
first_fault blocks codes n t ts fault is = rw is refl

first_fits : (blocks : List BlockParts) (codes : Codes) (n : ℕ) (t : Tipset) (ts : List Tipset) → tipset_judged blocks codes n t ≡ None → tipsets_judged blocks codes n (t ∷ ts) ≡ tipsets_judged blocks codes (n + 1) ts
first_fits blocks codes n t ts is = rw is refl

both_true : (a b : Bool) → (a && b) ≡ true → (a ≡ true) × (b ≡ true)
both_true true b is = (refl, is)
both_true false b is = absurd (cc)

-- all have room
pub run_fits : (blocks : List BlockParts) (codes : Codes) (s : State) → all_below_next s ≡ true → (n : ℕ) (run rest : List Tipset) → AreOver blocks codes s run → all_fit s run ≡ true
    → tipsets_judged blocks codes n (run ++ rest) ≡ tipsets_judged blocks codes (n + length run) rest
run_fits blocks codes s below n [] rest over fits = ap (λ (k : ℕ). tipsets_judged blocks codes k rest) (let same : n ≡ n + 0 = omega arith in same)
run_fits blocks codes s below n (t ∷ run) rest over fits =
    let both = both_true (has_room_for (awards t) s) (all_fit s run) fits in
    let none : tipset_judged blocks codes n t ≡ None = judged_over blocks codes n t s (All-head (IsOver blocks codes s) t run over) ∙ rw (below, both.0) refl in
    let place : n + 1 + length run ≡ n + suc (length run) = omega arith in
    first_fits blocks codes n t (run ++ rest) none ∙ run_fits blocks codes s below (n + 1) run rest (All-tail (IsOver blocks codes s) t run over) both.1 ∙ ap (λ (k : ℕ). tipsets_judged blocks codes k rest) place

-- the one at this place is the first that has none
pub run_over : (blocks : List BlockParts) (codes : Codes) (s : State) → all_below_next s ≡ true → (n : ℕ) (run rest : List Tipset) (at : ℕ) → AreOver blocks codes s run → at < length run → all_fit s (take at run) ≡ true
    → all_fit s (take (suc at) run) ≡ false → tipsets_judged blocks codes n (run ++ rest) ≡ Some (Total (n + at))
run_over blocks codes s below n [] rest at over within fits full = absurd (omega arith)
run_over blocks codes s below n (t ∷ run) rest zero over within fits full =
    let no_room : has_room_for (awards t) s ≡ false = not_first (has_room_for (awards t) s) full in
    let place : n ≡ n + 0 = omega arith in
    first_fault blocks codes n t (run ++ rest) (Total n) (judged_over blocks codes n t s (All-head (IsOver blocks codes s) t run over) ∙ rw (below, no_room) refl) ∙ ap (λ (k : ℕ). Some (Total k)) place where
      not_first : (a : Bool) → (a && true) ≡ false → a ≡ false
      not_first true is = is
      not_first false is = refl
run_over blocks codes s below n (t ∷ run) rest (suc at) over within fits full =
    let both = both_true (has_room_for (awards t) s) (all_fit s (take at run)) fits in
    let later : all_fit s (take (suc at) run) ≡ false = rw both.0 at full in
    let none : tipset_judged blocks codes n t ≡ None = judged_over blocks codes n t s (All-head (IsOver blocks codes s) t run over) ∙ rw (below, both.0) refl in
    let place : n + 1 + at ≡ n + suc at = omega arith in
    first_fits blocks codes n t (run ++ rest) none ∙ run_over blocks codes s below (n + 1) run rest at (All-tail (IsOver blocks codes s) t run over) (omega arith) both.1 later ∙ ap (λ (k : ℕ). Some (Total k)) place

-- the first is at fault
pub run_fault : (blocks : List BlockParts) (codes : Codes) (n : ℕ) (run rest : List Tipset) (t : Tipset) (fault : ScenarioFault) → 0 < length run → t ≡ get_or run 0 t → tipset_judged blocks codes n t ≡ Some fault
    → tipsets_judged blocks codes n (run ++ rest) ≡ Some fault
run_fault blocks codes n [] rest t fault some is judged = absurd (omega arith)
run_fault blocks codes n (u ∷ run) rest t fault some is judged = first_fault blocks codes n u (run ++ rest) fault (ap (tipset_judged blocks codes n) (sym is) ∙ judged)

pub no_state : (blocks : List BlockParts) (codes : Codes) (n : ℕ) (t : Tipset) (fault : StateFault) → state_at blocks t.root codes ≡ Err fault → tipset_judged blocks codes n t ≡ Some (BadState n fault)
no_state blocks codes n t fault is = rw is refl

pub not_below : (blocks : List BlockParts) (codes : Codes) (n : ℕ) (t : Tipset) (s : State) → state_at blocks t.root codes ≡ Ok s → all_below_next s ≡ false → tipset_judged blocks codes n t ≡ Some (Next n)
not_below blocks codes n t s is above = judged_over blocks codes n t s is ∙ rw above refl

-- ---- the kinds of faults

-- a fault of a tipset
abbrev pub IsOfTipset : ScenarioFault → Type 0
IsOfTipset (BadState n fault) = Unit {0}
IsOfTipset (Next n) = Unit {0}
IsOfTipset (Total n) = Unit {0}
IsOfTipset (Root cid) = ⊥
IsOfTipset (Cbor fault) = ⊥
IsOfTipset (Form place fault) = ⊥
IsOfTipset (Price fault) = ⊥
IsOfTipset (Limit n) = ⊥
IsOfTipset SameCodes = ⊥

kind_in : (a b : Bool) (n : ℕ) (fault : ScenarioFault) → cond a (Some (Next n)) (cond b (Some (Total n)) None) ≡ Some fault → IsOfTipset fault
kind_in true b n fault is = (let same : Next n ≡ fault = cc in subst IsOfTipset same tt)
kind_in false true n fault is = (let same : Total n ≡ fault = cc in subst IsOfTipset same tt)
kind_in false false n fault is = absurd (cc)

kind_of_one : (blocks : List BlockParts) (codes : Codes) (n : ℕ) (t : Tipset) (fault : ScenarioFault) → tipset_judged blocks codes n t ≡ Some fault → IsOfTipset fault
kind_of_one blocks codes n t fault is = by (state_at blocks t.root codes) refl where
  by : (r : Result State StateFault) → state_at blocks t.root codes ≡ r → IsOfTipset fault
  by (Ok s) loads = kind_in (not (all_below_next s)) (not (has_room_for (awards t) s)) n fault (sym (judged_over blocks codes n t s loads) ∙ is)
  by (Err refused) loads = (let same : Some (BadState n refused) ≡ Some fault = sym (no_state blocks codes n t refused loads) ∙ is in let inner : BadState n refused ≡ fault = cc in subst IsOfTipset inner tt)

kind_of_first : (blocks : List BlockParts) (codes : Codes) (n : ℕ) (t : Tipset) (ts : List Tipset) (fault : ScenarioFault) → (tipsets_judged blocks codes (n + 1) ts ≡ Some fault → IsOfTipset fault)
    → tipsets_judged blocks codes n (t ∷ ts) ≡ Some fault → IsOfTipset fault
kind_of_first blocks codes n t ts fault of_rest is = by (tipset_judged blocks codes n t) refl where
  by : (o : Option ScenarioFault) → tipset_judged blocks codes n t ≡ o → IsOfTipset fault
  by None judged = of_rest (sym (first_fits blocks codes n t ts judged) ∙ is)
  by (Some other) judged = (let same : Some other ≡ Some fault = sym (first_fault blocks codes n t ts other judged) ∙ is in let inner : other ≡ fault = cc in kind_of_one blocks codes n t fault (judged ∙ ap Some inner))

pub kind_of : (blocks : List BlockParts) (codes : Codes) (n : ℕ) (ts : List Tipset) (fault : ScenarioFault) → tipsets_judged blocks codes n ts ≡ Some fault → IsOfTipset fault
kind_of blocks codes n [] fault is = absurd (cc)
kind_of blocks codes n (t ∷ ts) fault is = kind_of_first blocks codes n t ts fault (λ rest. kind_of blocks codes (n + 1) ts fault rest) is

-- ---- the roots of a run

abbrev pub HasRoot : List Tipset → Tipset → Tipset → Type 0
HasRoot tipsets d t = t.root ≡ (get_or tipsets 0 d).root

pub root_first : (tipsets : List Tipset) (d : Tipset) → 0 < length tipsets → All (HasRoot tipsets d) (take 1 tipsets)
root_first [] d some = absurd (omega arith)
root_first (t ∷ tipsets) d some = All-cons (HasRoot (t ∷ tipsets) d) t [] refl (All-nil (HasRoot (t ∷ tipsets) d))

pub root_more : (tipsets : List Tipset) (i : ℕ) (first t d : Tipset) → i < length tipsets → t ≡ get_or tipsets i t → t.root ≡ (get_or tipsets 0 first).root → All (HasRoot tipsets d) (take i tipsets)
    → All (HasRoot tipsets d) (take (i + 1) tipsets)
root_more tipsets i first t d within at same all =
    let own : HasRoot tipsets d (get_or tipsets i d) =
    ap (λ (u : Tipset). u.root) (get_or_default tipsets i d t within ∙ sym at) ∙ same ∙ ap (λ (u : Tipset). u.root) (get_or_default tipsets 0 first d (omega arith)) in
    All-more (HasRoot tipsets d) tipsets i d within all own

-- all of a run are over the state of its first
pub run_over_state : (blocks : List BlockParts) (codes : Codes) (s : State) (run : List Tipset) (first : Tipset) → ((d : Tipset) → All (HasRoot run d) run) → state_at blocks (get_or run 0 first).root codes ≡ Ok s
    → AreOver blocks codes s run
run_over_state blocks codes s run first roots loads = λ k d within. ap (λ (root : CidParts). state_at blocks root codes) (roots first k d within) ∙ loads
