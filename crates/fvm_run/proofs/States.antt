-- The tipsets of a scenario with the states under their roots.
use Rattle.std.proofs.Common.{◌≡◌, ℕ, ◌+◌, ◌<◌, ◌≤◌, suc, Bool, true, false, cond, ltb, not, List, [], ◌∷◌, ◌++◌, length, map, get_or, take, drop, Option, None, Some, Result, Ok, Err, IfOk, IfErr, IsErrAnd, refl, sym, ap, subst, ◌∙◌, ◌⊎◌, inl, inr, add-one, drop-cons, arith}
use Rattle.std.specs.List.{All, AllByRecursion}
use Rattle.std.proofs.lemmas.Bool.{ltb-false}
use Rattle.std.proofs.lemmas.List.{drop_all, get_or-map, length-map, length-take-le, map-append, take_all, take_more}
use Rattle.std.proofs.lemmas.List.Elements.{All-cons, All-from_recursion, All-nil, recursion_from_All}
use Rattle.cid_core.specs.BlockParts.{BlockParts}
use Rattle.fil_base.specs.CidParts.{CidParts}
use Rattle.fil_base.specs.Failure.{IfFault}
use Rattle.fil_base.specs.declared.failure.Failure.{Failure}
use Rattle.fil_base.specs.declared.failure.Failure.TheVariants as failures
use Rattle.fil_message.specs.Tipsets.{IsRules, IsTipset, awards}
use Rattle.fil_message.specs.declared.tipset.Report.{Report}
use Rattle.fil_message.specs.declared.tipset.Tipset.{Tipset}
use Rattle.gas_prices.specs.declared.rules.Codes.{Codes}
use Rattle.gas_prices.specs.declared.rules.Rules.{Rules}
use Rattle.report_text.specs.Text.{HasRootTexts, reports_text, tipset_text}
use Rattle.report_text.proofs.Lines.{one_more}
use Rattle.scenario_form.specs.Answer.{IsScenario, IsScenarioFault}
use Rattle.scenario_form.specs.Judging.{tipset_judged, tipsets_judged}
use Rattle.scenario_form.specs.declared.fault.ScenarioFault.{ScenarioFault}
use Rattle.scenario_form.specs.declared.scenario.Scenario.{Scenario}
use Rattle.state_model.specs.State.{State, all_below_next, has_room_for}
use Rattle.state_model.specs.StateAt.{state_at}
use Rattle.tipset_exec.specs.Alone.{IsEvaluable, alone, is_built}
use Rattle.tipset_exec.specs.Opens.{Opens}
use Rattle.fvm_run.specs.declared.kept_state.KeptState.{KeptState}
use Rattle.fvm_run.specs.declared.refusal.Refusal.TheVariants.{NotBuilt}
use Rattle.fvm_run.specs.declared.stop.Stop.{Stop}
use Rattle.fvm_run.specs.declared.stop.Stop.TheVariants.{ReadFailed, NoMemory, Refused}
use Rattle.fvm_run.specs.Answers.{BeginsAsList, IsRunAnswer}
use Rattle.fvm_run.specs.Cars.{AreBuilt, AreEvaluable, HasScenario, HaveStates, IsLoaded, IsTextOf, IsUnbuiltRefusal, first_not_built, reports_on}
use Rattle.fvm_run.specs.Kept.{IsKept}
use Rattle.fvm_run.specs.Stops.{IfRefused, scenario_stop}

-- ---- things with what each is answered

-- what is given, or else d
abbrev given_or : {A E : Type 0} → A → Result A E → A
given_or d (Ok x) = x
given_or d (Err fault) = d

pub ok_same : {A E : Type 0} (r : Result A E) (x y : A) → r ≡ Ok x → r ≡ Ok y → x ≡ y
ok_same r x y is_x is_y = ap (given_or x) (sym is_x ∙ is_y)

result_cases : {A E : Type 0} (r : Result A E) → ((x : A) × (r ≡ Ok x)) ⊎ ((fault : E) × (r ≡ Err fault))
result_cases (Ok x) = inl (x, refl)
result_cases (Err fault) = inr (fault, refl)

option_cases : {A : Type 0} (o : Option A) → (o ≡ None) ⊎ ((x : A) × (o ≡ Some x))
option_cases None = inl refl
option_cases (Some x) = inr (x, refl)

-- what holds of all things holds of the one at i
pub of_item : {A : Type 0} (P : A → Type 0) (xs : List A) (i : ℕ) (x : A) → All P xs → i < length xs → x ≡ get_or xs i x → P x
of_item P xs i x all within is = subst P (sym is) (all i x within)

-- the thing at i is paired with its answer
pub record PairAt {A B E : Type 0} (at : A → Result B E) (pairs : List (A × B)) (i : ℕ) (x : A) : Type 0 where
  pub second : B
  pub answer : at x ≡ Ok second
  pub rest : drop i pairs ≡ (x, second) ∷ drop (i + 1) pairs
  pub front : take (i + 1) pairs ≡ take i pairs ++ (x, second) ∷ []

pair_at : {A B E : Type 0} (at : A → Result B E) (pairs : List (A × B)) (i : ℕ) (x : A) → All (λ p. at p.0 ≡ Ok p.1) pairs → i < length pairs → x ≡ get_or (map (λ p. p.0) pairs) i x → PairAt at pairs i x
pair_at at [] i x all within is = absurd (omega arith)
pair_at at (d ∷ ps) i x all within is =
    let p = get_or (d ∷ ps) i d in
    let first : x ≡ p.0 = is ∙ get_or-map (λ p. p.0) (d ∷ ps) i d x within in
    let same : p ≡ (x, p.1) = λ j. (sym first j, p.1) in
    record {
      second = p.1;
      answer = ap at first ∙ all i d within;
      rest = drop-cons (d ∷ ps) i d within ∙ ((λ j. same j ∷ drop (suc i) (d ∷ ps)) ∙ ap (λ k. (x, p.1) ∷ drop k (d ∷ ps)) (sym (add-one i)));
      front = take_more (d ∷ ps) i d within ∙ ap (λ q. take i (d ∷ ps) ++ q ∷ []) same;
    }

-- things that are all answered have pairs
pairs_exist : {A B E : Type 0} (at : A → Result B E) (xs : List A) → AllByRecursion (λ x. (y : B) × (at x ≡ Ok y)) xs → (pairs : List (A × B)) × (map (λ p. p.0) pairs ≡ xs) × All (λ p. at p.0 ≡ Ok p.1) pairs
pairs_exist at [] all = ([], refl, All-nil (λ p. at p.0 ≡ Ok p.1))
pairs_exist at (x ∷ xs) (first, rest) =
    let more = pairs_exist at xs rest in
    ((x, first.0) ∷ more.0, ap (λ ys. x ∷ ys) more.1, All-cons (λ p. at p.0 ≡ Ok p.1) (x, first.0) more.0 first.1 more.2)

-- things have one list of answers
pub same_pairs : {A B E : Type 0} (at : A → Result B E) (ps qs : List (A × B)) → map (λ p. p.0) ps ≡ map (λ p. p.0) qs → AllByRecursion (λ p. at p.0 ≡ Ok p.1) ps → AllByRecursion (λ p. at p.0 ≡ Ok p.1) qs → ps ≡ qs
same_pairs at [] [] firsts all all' = refl
same_pairs at [] (q ∷ qs) firsts all all' = absurd (cc)
same_pairs at (p ∷ ps) [] firsts all all' = absurd (cc)
same_pairs at (p ∷ ps) (q ∷ qs) firsts all all' =
    let first : p.0 ≡ q.0 = cc in
    let rest : map (λ r. r.0) ps ≡ map (λ r. r.0) qs = cc in
    let second : p.1 ≡ q.1 = ok_same (at q.0) p.1 q.1 (ap at (sym first) ∙ all.0) all'.0 in
    λ j. (first j, second j) ∷ same_pairs at ps qs rest all.1 all'.1 j

-- ---- the states of tipsets

pub same_states : (blocks : List BlockParts) (rules : Rules) (tipsets : List Tipset) (ps qs : List (Tipset × State)) → HaveStates blocks rules tipsets ps → HaveStates blocks rules tipsets qs → ps ≡ qs
same_states blocks rules tipsets ps qs have have' =
    same_pairs (λ t. state_at blocks t.root rules.codes) ps qs (have.listed ∙ sym have'.listed)
    (recursion_from_All (λ p. state_at blocks p.0.root rules.codes ≡ Ok p.1) ps have.states)
    (recursion_from_All (λ p. state_at blocks p.0.root rules.codes ≡ Ok p.1) qs have'.states)

-- the same tipsets have the same states
pub states_of : (blocks : List BlockParts) (rules : Rules) (ts us : List Tipset) (pairs : List (Tipset × State)) → ts ≡ us → HaveStates blocks rules us pairs → HaveStates blocks rules ts pairs
states_of blocks rules ts us pairs same have = record { listed = have.listed ∙ sym same; states = have.states }

-- the tipset at a place is paired with its state
abbrev pub StateAtPlace : List BlockParts → Rules → List (Tipset × State) → ℕ → Tipset → Type 0
StateAtPlace blocks rules pairs i t = PairAt (λ u. state_at blocks u.root rules.codes) pairs i t

pub state_pair : (blocks : List BlockParts) (rules : Rules) (tipsets : List Tipset) (pairs : List (Tipset × State)) (i : ℕ) (t : Tipset) → HaveStates blocks rules tipsets pairs → i < length tipsets → t ≡ get_or tipsets i t → StateAtPlace blocks rules pairs i t
state_pair blocks rules tipsets pairs i t have within is =
    pair_at (λ u. state_at blocks u.root rules.codes) pairs i t have.states
    (omega (arith, ap length have.listed, length-map pairs (λ p. p.0))) (is ∙ ap (λ ts. get_or ts i t) (sym have.listed))

-- a tipset's state loads, its IDs are below the next one, and there is room for the awards
record IsSound (blocks : List BlockParts) (codes : Codes) (t : Tipset) (s : State) : Type 0 where
  loaded : state_at blocks t.root codes ≡ Ok s
  below : all_below_next s ≡ true
  room : has_room_for (awards t) s ≡ true

both_hold : (a b : Bool) (x y : ScenarioFault) → cond (not a) (Some x) (cond (not b) (Some y) None) ≡ None → (a ≡ true) × (b ≡ true)
both_hold true true x y none = (refl, refl)
both_hold true false x y none = absurd (cc)
both_hold false b x y none = absurd (cc)

sound_tipset : (blocks : List BlockParts) (codes : Codes) (n : ℕ) (t : Tipset) → tipset_judged blocks codes n t ≡ None → (s : State) × IsSound blocks codes t s
sound_tipset blocks codes n t judged =
    elim (result_cases (state_at blocks t.root codes)) [
      | inl (s, is) ↦
          let hold = both_hold (all_below_next s) (has_room_for (awards t) s) _ _ (rw is at judged) in
          (s, record { loaded = is; below = hold.0; room = hold.1 })
      | inr (fault, is) ↦ absurd (let none : Some _ ≡ None = rw is at judged in cc)
    ]

sound_tipsets : (blocks : List BlockParts) (codes : Codes) (n : ℕ) (ts : List Tipset) → tipsets_judged blocks codes n ts ≡ None → AllByRecursion (λ t. (s : State) × IsSound blocks codes t s) ts
sound_tipsets blocks codes n [] judged = tt
sound_tipsets blocks codes n (t ∷ ts) judged =
    elim (option_cases (tipset_judged blocks codes n t)) [
      | inl is ↦ (sound_tipset blocks codes n t is, sound_tipsets blocks codes (n + 1) ts (rw is at judged))
      | inr (fault, is) ↦ absurd (let none : Some fault ≡ None = rw is at judged in cc)
    ]

all_evaluable : (blocks : List BlockParts) (rules : Rules) (ts : List Tipset) → IsRules rules → AllByRecursion IsTipset ts → AllByRecursion (λ t. (s : State) × IsSound blocks rules.codes t s) ts → AllByRecursion (λ t. (s : State) × IsEvaluable blocks rules t s) ts
all_evaluable blocks rules [] sound tips states = tt
all_evaluable blocks rules (t ∷ ts) sound (tip, tips) ((s, is), states) =
    ((s, record { rules = sound; tipset = tip; loaded = is.loaded; below = is.below; room = is.room }), all_evaluable blocks rules ts sound tips states)

-- the ranges of a scenario's rules and tipsets
abbrev pub HasRanges : Scenario → Type 0
HasRanges s = IsRules s.rules × All IsTipset s.tipsets

-- each tipset of a scenario can be evaluated
pub evaluable : (blocks : List BlockParts) (root : CidParts) (scenario : Scenario) → IsScenario blocks root scenario → HasRanges scenario → AreEvaluable blocks scenario.rules scenario.tipsets
evaluable blocks root scenario (s, judged, states, is) ranges =
    All-from_recursion (λ t. (u : State) × IsEvaluable blocks scenario.rules t u) scenario.tipsets
    (all_evaluable blocks scenario.rules scenario.tipsets ranges.0 (recursion_from_All IsTipset scenario.tipsets ranges.1)
    (subst (λ (x : Scenario). AllByRecursion (λ t. (u : State) × IsSound blocks x.rules.codes t u) x.tipsets) (sym is) (sound_tipsets blocks s.rules.codes 0 s.tipsets states)))

-- and has a state
pub states_exist : (blocks : List BlockParts) (rules : Rules) (tipsets : List Tipset) → AreEvaluable blocks rules tipsets → (pairs : List (Tipset × State)) × HaveStates blocks rules tipsets pairs
states_exist blocks rules tipsets are =
    let found = pairs_exist (λ t. state_at blocks t.root rules.codes) tipsets (answers tipsets (recursion_from_All (λ t. (s : State) × IsEvaluable blocks rules t s) tipsets are)) in
    (found.0, record { listed = found.1; states = found.2 })
  where
    answers : (ts : List Tipset) → AllByRecursion (λ t. (s : State) × IsEvaluable blocks rules t s) ts → AllByRecursion (λ t. (s : State) × (state_at blocks t.root rules.codes ≡ Ok s)) ts
    answers [] all = tt
    answers (t ∷ ts) ((s, is), all) = ((s, is.loaded), answers ts all)

-- the state that is kept is the one under this root
pub kept_opens : (blocks : List BlockParts) (codes : Codes) (root : CidParts) (kept : KeptState) (s : State) → kept.root ≡ root → IsKept blocks codes kept → state_at blocks root codes ≡ Ok s → Opens kept.opening blocks s
kept_opens blocks codes root kept s same (u, is, opens) loaded =
    subst (Opens kept.opening blocks) (ok_same (state_at blocks root codes) u s (ap (λ (r : CidParts). state_at blocks r codes) (sym same) ∙ is) loaded) opens

-- ---- how many tipsets

third_is_false : (a b c : Bool) (x y z : ℕ) (more : Option ℕ) → cond a (Some x) (cond b (Some y) (cond c (Some z) more)) ≡ None → c ≡ false
third_is_false true b c x y z more none = absurd (cc)
third_is_false false true c x y z more none = absurd (cc)
third_is_false false false true x y z more none = absurd (cc)
third_is_false false false false x y z more none = refl

pub few_tipsets : (blocks : List BlockParts) (root : CidParts) (scenario : Scenario) → IsScenario blocks root scenario → length scenario.tipsets ≤ 1024
few_tipsets blocks root scenario (s, judged, states, is) = subst (λ (x : Scenario). length x.tipsets ≤ 1024) (sym is)
    (ltb-false 1024 (length s.tipsets) (third_is_false _ _ (ltb 1024 (length s.tipsets)) 0 1 2 _ judged.0.1))

-- ---- which tipsets are evaluated

-- the next tipset is evaluated
pub built_more : (pairs : List (Tipset × State)) (i : ℕ) (t : Tipset) (s : State) → is_built s t ≡ true → drop i pairs ≡ (t, s) ∷ drop (i + 1) pairs → first_not_built 0 pairs ≡ first_not_built i (drop i pairs) → first_not_built 0 pairs ≡ first_not_built (i + 1) (drop (i + 1) pairs)
built_more pairs i t s built rest so_far =
    so_far ∙ (ap (first_not_built i) rest ∙ ap (λ b. cond b (first_not_built (i + 1) (drop (i + 1) pairs)) (Some i)) built)

-- the next tipset is not
pub not_built_at : (pairs : List (Tipset × State)) (i : ℕ) (t : Tipset) (s : State) → is_built s t ≡ false → drop i pairs ≡ (t, s) ∷ drop (i + 1) pairs → first_not_built 0 pairs ≡ first_not_built i (drop i pairs) → first_not_built 0 pairs ≡ Some i
not_built_at pairs i t s built rest so_far =
    so_far ∙ (ap (first_not_built i) rest ∙ ap (λ b. cond b (first_not_built (i + 1) (drop (i + 1) pairs)) (Some i)) built)

-- no tipset is left
pub all_were_built : (pairs : List (Tipset × State)) (i : ℕ) → length pairs ≤ i → first_not_built 0 pairs ≡ first_not_built i (drop i pairs) → first_not_built 0 pairs ≡ None
all_were_built pairs i past so_far = so_far ∙ ap (first_not_built i) (drop_all i pairs past)

first_is_built : (b : Bool) (rest : Option ℕ) (n : ℕ) → cond b rest (Some n) ≡ None → (b ≡ true) × (rest ≡ None)
first_is_built true rest n none = (refl, none)
first_is_built false rest n none = absurd (cc)

built_pairs : (blocks : List BlockParts) (rules : Rules) (n : ℕ) (pairs : List (Tipset × State)) → AllByRecursion (λ p. state_at blocks p.0.root rules.codes ≡ Ok p.1) pairs → first_not_built n pairs ≡ None → AllByRecursion (λ t. (s : State) × IsEvaluable blocks rules t s) (map (λ p. p.0) pairs) → AllByRecursion (λ t. (s : State) × IsEvaluable blocks rules t s × (is_built s t ≡ true)) (map (λ p. p.0) pairs)
built_pairs blocks rules n [] states none are = tt
built_pairs blocks rules n (p ∷ pairs) (state, states) none ((s, is), are) =
    let here = first_is_built (is_built p.1 p.0) (first_not_built (n + 1) pairs) n none in
    let same : p.1 ≡ s = ok_same (state_at blocks p.0.root rules.codes) p.1 s state is.loaded in
    ((s, is, ap (λ u. is_built u p.0) (sym same) ∙ here.0), built_pairs blocks rules (n + 1) pairs states here.1 are)

-- where none is left out, each is evaluated
pub all_built : (blocks : List BlockParts) (rules : Rules) (tipsets : List Tipset) (pairs : List (Tipset × State)) → HaveStates blocks rules tipsets pairs → first_not_built 0 pairs ≡ None → AreEvaluable blocks rules tipsets → AreBuilt blocks rules tipsets
all_built blocks rules tipsets pairs have none are =
    All-from_recursion (λ t. (s : State) × IsEvaluable blocks rules t s × (is_built s t ≡ true)) tipsets
    (subst (λ ts. AllByRecursion (λ t. (s : State) × IsEvaluable blocks rules t s × (is_built s t ≡ true)) ts) have.listed
    (built_pairs blocks rules 0 pairs (recursion_from_All (λ p. state_at blocks p.0.root rules.codes ≡ Ok p.1) pairs have.states) none
    (subst (λ ts. AllByRecursion (λ t. (s : State) × IsEvaluable blocks rules t s) ts) (sym have.listed)
    (recursion_from_All (λ t. (s : State) × IsEvaluable blocks rules t s) tipsets are))))

-- ---- reports

-- the text of one report more
pub text_more : (blocks : List BlockParts) (rules : Rules) (tipsets : List Tipset) (pairs : List (Tipset × State)) (i : ℕ) (t : Tipset) (s : State) (so_far new : List ℕ) (report : Report)
    → HaveStates blocks rules tipsets pairs → i < length tipsets → take (i + 1) pairs ≡ take i pairs ++ (t, s) ∷ [] → so_far ≡ reports_text (reports_on blocks rules (take i pairs))
    → report ≡ alone blocks rules s t → new ≡ so_far ++ tipset_text (i, report) → new ≡ reports_text (reports_on blocks rules (take (i + 1) pairs))
text_more blocks rules tipsets pairs i t s so_far new report have within front before is put =
    let made : Tipset × State → Report = λ p. alone blocks rules p.1 p.0 in
    let all : length pairs ≡ length tipsets = sym (length-map pairs (λ (p : Tipset × State). p.0)) ∙ ap length have.listed in
    let place : length (reports_on blocks rules (take i pairs)) ≡ i = length-map (take i pairs) made ∙ length-take-le i pairs (omega (arith, all, within)) in
    put
    ∙ (λ j. before j ++ tipset_text (sym place j, is j))
    ∙ sym (one_more tipset_text (reports_on blocks rules (take i pairs)) (made (t, s)))
    ∙ ap reports_text (sym (map-append made (take i pairs) ((t, s) ∷ [])) ∙ ap (reports_on blocks rules) (sym front))

-- the text of all reports
pub all_told : (blocks : List BlockParts) (rules : Rules) (tipsets : List Tipset) (pairs : List (Tipset × State)) (i : ℕ) (text : List ℕ) → HaveStates blocks rules tipsets pairs → length tipsets ≤ i
    → text ≡ reports_text (reports_on blocks rules (take i pairs)) → text ≡ reports_text (reports_on blocks rules pairs)
all_told blocks rules tipsets pairs i text have over so_far =
    let past : length pairs ≤ i = omega (arith, over, ap length have.listed, length-map pairs (λ (p : Tipset × State). p.0)) in
    so_far ∙ ap (λ (ps : List (Tipset × State)). reports_text (reports_on blocks rules ps)) (take_all i pairs past)

-- the roots in a report have a text
pub roots_have_texts : (blocks : List BlockParts) (rules : Rules) (s : State) (t : Tipset) → HasRootTexts (alone blocks rules s t)
unfolding alone
roots_have_texts blocks rules s t = record { receipts = refl; state = refl }

-- ---- what is said of a scenario

-- where this tipset is the first that is not evaluated, it is the answer
pub unbuilt : (blocks : List BlockParts) (root : CidParts) (scenario : Scenario) (n : ℕ) → IsScenario blocks root scenario → HasRanges scenario →
    ((pairs : List (Tipset × State)) → HaveStates blocks scenario.rules scenario.tipsets pairs → Some n ≡ first_not_built 0 pairs) → IsUnbuiltRefusal blocks scenario (NotBuilt n)
unbuilt blocks root scenario n is ranges first =
    let found = states_exist blocks scenario.rules scenario.tipsets (evaluable blocks root scenario is ranges) in
    (n, refl, (found.0, found.1, sym (first found.0 found.1)))

-- where there is none, each tipset is evaluated
pub each_is_built : (blocks : List BlockParts) (root : CidParts) (scenario : Scenario) → IsScenario blocks root scenario → HasRanges scenario →
    ((pairs : List (Tipset × State)) → HaveStates blocks scenario.rules scenario.tipsets pairs → None ≡ first_not_built 0 pairs) → AreBuilt blocks scenario.rules scenario.tipsets
each_is_built blocks root scenario is ranges none =
    let are = evaluable blocks root scenario is ranges in
    let found = states_exist blocks scenario.rules scenario.tipsets are in
    all_built blocks scenario.rules scenario.tipsets found.0 found.1 (sym (none found.0 found.1)) are

-- and the text is that of the reports on the scenario
pub told : (blocks : List BlockParts) (root : CidParts) (scenario : Scenario) (text : List ℕ) → IsScenario blocks root scenario → HasRanges scenario →
    ((pairs : List (Tipset × State)) → HaveStates blocks scenario.rules scenario.tipsets pairs → None ≡ first_not_built 0 pairs) →
    ((pairs : List (Tipset × State)) → HaveStates blocks scenario.rules scenario.tipsets pairs → text ≡ reports_text (reports_on blocks scenario.rules pairs)) → IsTextOf blocks scenario text
told blocks root scenario text is ranges none are =
    let found = states_exist blocks scenario.rules scenario.tipsets (evaluable blocks root scenario is ranges) in
    (found.0, found.1, sym (none found.0 found.1), are found.0 found.1)

-- ---- what is said of a CAR file

-- the text of a scenario is the answer
pub scenario_text : {E : Type 0} (input : List ℕ) (blocks : List BlockParts) (scenario : Scenario) (text : Result (List ℕ) E) → (BeginsAsList input → ⊥) → HasScenario input blocks scenario →
    IfOk text (IsTextOf blocks scenario) → IfOk text (λ t. IsRunAnswer input (Ok t))
scenario_text input blocks scenario (Ok t) other (root, loaded, is) holds = inr (other, (root, blocks, loaded, scenario, is, holds))
scenario_text input blocks scenario (Err e) other has holds = tt

-- the refusal of a scenario is the answer
pub scenario_refused : {T : Type 0} (input : List ℕ) (blocks : List BlockParts) (scenario : Scenario) (text : Result T Stop) → (BeginsAsList input → ⊥) → HasScenario input blocks scenario →
    IfErr text (IfRefused (IsUnbuiltRefusal blocks scenario)) → IfErr text (IfRefused (λ refusal. IsRunAnswer input (Err refusal)))
scenario_refused input blocks scenario (Ok t) other has stops = tt
scenario_refused input blocks scenario (Err ReadFailed) other has stops = absurd stops
scenario_refused input blocks scenario (Err NoMemory) other has stops = tt
scenario_refused input blocks scenario (Err (Refused refusal)) other (root, loaded, is) (n, same, first) =
    subst (λ r. IsRunAnswer input (Err r)) (sym same) (other, (root, blocks, loaded, scenario, is, first))

fault_stops : (input : List ℕ) (root : CidParts) (blocks : List BlockParts) (failure : Failure ScenarioFault) → (BeginsAsList input → ⊥) → IsLoaded input root blocks → IfFault failure (IsScenarioFault blocks root)
    → IfRefused (λ refusal. IsRunAnswer input (Err refusal)) (scenario_stop failure)
fault_stops input root blocks failures.NoMemory other loaded is = tt
fault_stops input root blocks (failures.Fault fault) other loaded is = (other, (root, blocks, loaded, is))

-- a fault of the scenario is the answer
pub scenario_stops : {T : Type 0} (input : List ℕ) (root : CidParts) (blocks : List BlockParts) (failure : Failure ScenarioFault) (text : Result T Stop) → (BeginsAsList input → ⊥) → IsLoaded input root blocks
    → IfFault failure (IsScenarioFault blocks root) → IsErrAnd text (λ stop. stop ≡ scenario_stop failure) → IfErr text (IfRefused (λ refusal. IsRunAnswer input (Err refusal)))
scenario_stops input root blocks failure (Ok t) other loaded is same = tt
scenario_stops input root blocks failure (Err stop) other loaded is same =
    subst (IfRefused (λ refusal. IsRunAnswer input (Err refusal))) (sym same) (fault_stops input root blocks failure other loaded is)
