-- There is one scenario under a root or one fault, and not both: what is judged first either refuses, or leaves the rest
-- to what is judged after it.
use Rattle.std.proofs.Common.{◌≡◌, ◌⊎◌, ℕ, true, false, List, Option, Some, None, Result, Ok, Err, inl, inr, refl, sym, ap, subst, ◌∙◌}
use Rattle.fil_base.specs.CidParts.{CidParts}
use Rattle.cid_core.specs.BlockParts.{BlockParts, found}
use Rattle.dag_cbor.specs.Faults.{IsFault}
use Rattle.dag_cbor.specs.Plain.{IsPlain}
use Rattle.dag_cbor.specs.Reading.{whole_at}
use Rattle.dag_cbor.specs.Spelling.{spelled}
use Rattle.dag_cbor.specs.declared.fault.CborFault.{CborFault}
use Rattle.dag_cbor.specs.declared.value.Value.{Value}
use Rattle.dag_cbor.proofs.OneFault as cbor
use Rattle.dag_cbor.proofs.Whole.{whole_again}
use Rattle.gas_prices.specs.Prices.{IsPriceFault, IsPriceList}
use Rattle.gas_prices.specs.declared.price_fault.PriceFault.{PriceFault}
use Rattle.gas_prices.proofs.OneFault as prices
use Rattle.fil_message.specs.Tipsets.{has_equal_codes}
use Rattle.fil_message.proofs.ReadSteps.{ok_same}
use Rattle.scenario_form.specs.Answer.{HasLimits, HasParts, IsScenario, IsScenarioFault, IsTipsetFault, scenario_of}
use Rattle.scenario_form.specs.Judging.{exceeded_limit, tipsets_judged}
use Rattle.scenario_form.specs.Reading.{FormFault, scenario_read}
use Rattle.scenario_form.specs.declared.fault.ScenarioFault.{ScenarioFault}
use Rattle.scenario_form.specs.declared.fault.ScenarioFault.TheVariants.{Root, Cbor, Form, Price, Limit, Codes, State, Next, Total}
use Rattle.scenario_form.specs.declared.raw.RawScenario.{RawScenario}
use Rattle.scenario_form.specs.declared.scenario.Scenario.{Scenario}

abbrev Answer : Type 0
Answer = Result Scenario ScenarioFault

-- ---- the layers, the last one first

abbrev ByStates : List BlockParts → RawScenario → Answer → Type 0
ByStates blocks s r =
    ((f : ScenarioFault) × (tipsets_judged blocks s.rules.codes 0 s.tipsets ≡ Some f) × (r ≡ Err f))
    ⊎ ((tipsets_judged blocks s.rules.codes 0 s.tipsets ≡ None) × (r ≡ Ok (scenario_of s)))

abbrev ByCodes : List BlockParts → RawScenario → Answer → Type 0
ByCodes blocks s r = ((has_equal_codes s.rules.codes ≡ true) × (r ≡ Err Codes)) ⊎ ((has_equal_codes s.rules.codes ≡ false) × ByStates blocks s r)

abbrev ByLimits : List BlockParts → RawScenario → Answer → Type 0
ByLimits blocks s r = ((n : ℕ) × (exceeded_limit s ≡ Some n) × (r ≡ Err (Limit n))) ⊎ ((exceeded_limit s ≡ None) × ByCodes blocks s r)

abbrev ByPrices : List BlockParts → RawScenario → Answer → Type 0
ByPrices blocks s r = ((p : PriceFault) × IsPriceFault s.rules.prices p × (r ≡ Err (Price p))) ⊎ (IsPriceList s.rules.prices × ByLimits blocks s r)

abbrev ByFields : List BlockParts → Value → Answer → Type 0
ByFields blocks v r =
    ((x : FormFault) × (scenario_read v ≡ Err x) × (r ≡ Err (Form x.0 x.1))) ⊎ ((s : RawScenario) × (scenario_read v ≡ Ok s) × ByPrices blocks s r)

abbrev ByBytes : List BlockParts → BlockParts → Answer → Type 0
ByBytes blocks b r =
    ((c : CborFault) × IsFault b.bytes c × (r ≡ Err (Cbor c))) ⊎ ((v : Value) × IsPlain 128 v × (b.bytes ≡ spelled v) × ByFields blocks v r)

abbrev ByRoot : List BlockParts → CidParts → Answer → Type 0
ByRoot blocks root r = ((found blocks root ≡ None) × (r ≡ Err (Root root))) ⊎ ((b : BlockParts) × (found blocks root ≡ Some b) × ByBytes blocks b r)

-- ---- each gives one answer

some_same : {A : Type 0} (o : Option A) (x y : A) → o ≡ Some x → o ≡ Some y → x ≡ y
some_same o x y one other = (let same : Some x ≡ Some y = sym one ∙ other in cc)

err_same : {E A : Type 0} (r : Result A E) (x y : E) → r ≡ Err x → r ≡ Err y → x ≡ y
err_same r x y one other = (let same : Err x ≡ Err y = sym one ∙ other in cc)

one_by_states : (blocks : List BlockParts) (s : RawScenario) (r q : Answer) → ByStates blocks s r → ByStates blocks s q → r ≡ q
one_by_states blocks s r q (inl (f, is, r_is)) (inl (g, also, q_is)) = r_is ∙ ap Err (some_same _ f g is also) ∙ sym q_is
one_by_states blocks s r q (inl (f, is, r_is)) (inr (none, q_is)) = absurd (let wrong : Some f ≡ None = sym is ∙ none in cc)
one_by_states blocks s r q (inr (none, r_is)) (inl (g, is, q_is)) = absurd (let wrong : Some g ≡ None = sym is ∙ none in cc)
one_by_states blocks s r q (inr (none, r_is)) (inr (also, q_is)) = r_is ∙ sym q_is

one_by_codes : (blocks : List BlockParts) (s : RawScenario) (r q : Answer) → ByCodes blocks s r → ByCodes blocks s q → r ≡ q
one_by_codes blocks s r q (inl (same, r_is)) (inl (also, q_is)) = r_is ∙ sym q_is
one_by_codes blocks s r q (inl (same, r_is)) (inr (differ, rest)) = absurd (let wrong : true ≡ false = sym same ∙ differ in cc)
one_by_codes blocks s r q (inr (differ, rest)) (inl (same, q_is)) = absurd (let wrong : true ≡ false = sym same ∙ differ in cc)
one_by_codes blocks s r q (inr (differ, rest)) (inr (also, more)) = one_by_states blocks s r q rest more

one_by_limits : (blocks : List BlockParts) (s : RawScenario) (r q : Answer) → ByLimits blocks s r → ByLimits blocks s q → r ≡ q
one_by_limits blocks s r q (inl (m, is, r_is)) (inl (n, also, q_is)) = r_is ∙ ap (λ (k : ℕ). Err (Limit k)) (some_same _ m n is also) ∙ sym q_is
one_by_limits blocks s r q (inl (m, is, r_is)) (inr (none, rest)) = absurd (let wrong : Some m ≡ None = sym is ∙ none in cc)
one_by_limits blocks s r q (inr (none, rest)) (inl (n, is, q_is)) = absurd (let wrong : Some n ≡ None = sym is ∙ none in cc)
one_by_limits blocks s r q (inr (none, rest)) (inr (also, more)) = one_by_codes blocks s r q rest more

one_by_prices : (blocks : List BlockParts) (s : RawScenario) (r q : Answer) → ByPrices blocks s r → ByPrices blocks s q → r ≡ q
one_by_prices blocks s r q (inl (p, is, r_is)) (inl (o, also, q_is)) = r_is ∙ ap (λ (f : PriceFault). Err (Price f)) (prices.one_fault s.rules.prices p o is also) ∙ sym q_is
one_by_prices blocks s r q (inl (p, is, r_is)) (inr (whole, rest)) = absurd (prices.no_fault s.rules.prices p is whole)
one_by_prices blocks s r q (inr (whole, rest)) (inl (p, is, q_is)) = absurd (prices.no_fault s.rules.prices p is whole)
one_by_prices blocks s r q (inr (whole, rest)) (inr (also, more)) = one_by_limits blocks s r q rest more

one_by_fields : (blocks : List BlockParts) (v : Value) (r q : Answer) → ByFields blocks v r → ByFields blocks v q → r ≡ q
one_by_fields blocks v r q (inl (x, is, r_is)) (inl (y, also, q_is)) = r_is ∙ ap (λ (f : FormFault). Err (Form f.0 f.1)) (err_same _ x y is also) ∙ sym q_is
one_by_fields blocks v r q (inl (x, is, r_is)) (inr (s, read, rest)) = absurd (let wrong : Err x ≡ Ok s = sym is ∙ read in cc)
one_by_fields blocks v r q (inr (s, read, rest)) (inl (x, is, q_is)) = absurd (let wrong : Err x ≡ Ok s = sym is ∙ read in cc)
one_by_fields blocks v r q (inr (s, read, rest)) (inr (t, also, more)) =
    one_by_prices blocks s r q rest (subst (λ (u : RawScenario). ByPrices blocks u q) (ok_same _ t s also read) more)

one_by_bytes : (blocks : List BlockParts) (b : BlockParts) (r q : Answer) → ByBytes blocks b r → ByBytes blocks b q → r ≡ q
one_by_bytes blocks b r q (inl (c, is, r_is)) (inl (d, also, q_is)) = r_is ∙ ap (λ (f : CborFault). Err (Cbor f)) (cbor.one_fault b.bytes c d is also) ∙ sym q_is
one_by_bytes blocks b r q (inl (c, is, r_is)) (inr (v, plain, whole, rest)) = absurd (cbor.nothing_spelled b.bytes c is v plain whole)
one_by_bytes blocks b r q (inr (v, plain, whole, rest)) (inl (c, is, q_is)) = absurd (cbor.nothing_spelled b.bytes c is v plain whole)
one_by_bytes blocks b r q (inr (v, plain, whole, rest)) (inr (w, plain_too, whole_too, more)) =
    let same : w ≡ v = ok_same (whole_at b.bytes) w v (ap whole_at whole_too ∙ whole_again w plain_too) (ap whole_at whole ∙ whole_again v plain) in
    one_by_fields blocks v r q rest (subst (λ (u : Value). ByFields blocks u q) same more)

one_by_root : (blocks : List BlockParts) (root : CidParts) (r q : Answer) → ByRoot blocks root r → ByRoot blocks root q → r ≡ q
one_by_root blocks root r q (inl (none, r_is)) (inl (also, q_is)) = r_is ∙ sym q_is
one_by_root blocks root r q (inl (none, r_is)) (inr (b, is, rest)) = absurd (let wrong : Some b ≡ None = sym is ∙ none in cc)
one_by_root blocks root r q (inr (b, is, rest)) (inl (none, q_is)) = absurd (let wrong : Some b ≡ None = sym is ∙ none in cc)
one_by_root blocks root r q (inr (b, is, rest)) (inr (c, also, more)) =
    one_by_bytes blocks b r q rest (subst (λ (d : BlockParts). ByBytes blocks d q) (some_same _ c b also is) more)

-- ---- what the definitions say is such an answer

with_parts : (blocks : List BlockParts) (root : CidParts) (s : RawScenario) (r : Answer) → HasParts blocks root s → ByPrices blocks s r → ByRoot blocks root r
with_parts blocks root s r (v, value, read) rest = inr (value.block, value.found, inr (v, value.plain, value.spelled, inr (s, read, rest)))

with_limits : (blocks : List BlockParts) (root : CidParts) (s : RawScenario) (r : Answer) → HasLimits blocks root s → ByCodes blocks s r → ByRoot blocks root r
with_limits blocks root s r ((parts, whole), none) rest = with_parts blocks root s r parts (inr (whole, inr (none, rest)))

of_tipset : (blocks : List BlockParts) (root : CidParts) (f : ScenarioFault) → IsTipsetFault blocks root f → ByRoot blocks root (Err f)
of_tipset blocks root f (s, (limits, differ), judged) = with_limits blocks root s (Err f) limits (inr (differ, inl (f, judged, refl)))

of_fault : (blocks : List BlockParts) (root : CidParts) (f : ScenarioFault) → IsScenarioFault blocks root f → ByRoot blocks root (Err f)
of_fault blocks root (Root cid) (same, none) = inl (none, ap (λ (c : CidParts). Err (Root c)) same)
of_fault blocks root (Cbor c) (b, there, is) = inr (b, there, inl (c, is, refl))
of_fault blocks root (Form place fault) (v, value, read) = inr (value.block, value.found, inr (v, value.plain, value.spelled, inl ((place, fault), read, refl)))
of_fault blocks root (Price p) (s, parts, is) = with_parts blocks root s (Err (Price p)) parts (inl (p, is, refl))
of_fault blocks root (Limit n) (s, (parts, whole), is) = with_parts blocks root s (Err (Limit n)) parts (inr (whole, inl (n, is, refl)))
of_fault blocks root Codes (s, limits, same) = with_limits blocks root s (Err Codes) limits (inl (same, refl))
of_fault blocks root (State n fault) is = of_tipset blocks root (State n fault) is
of_fault blocks root (Next n) is = of_tipset blocks root (Next n) is
of_fault blocks root (Total n) is = of_tipset blocks root (Total n) is

of_scenario : (blocks : List BlockParts) (root : CidParts) (a : Scenario) → IsScenario blocks root a → ByRoot blocks root (Ok a)
of_scenario blocks root a (s, (limits, differ), judged, is) = with_limits blocks root s (Ok a) limits (inr (differ, inr (judged, ap Ok is)))

-- ---- the law

pub one_scenario : (blocks : List BlockParts) (root : CidParts) (a b : Scenario) → IsScenario blocks root a → IsScenario blocks root b → a ≡ b
one_scenario blocks root a b is also = (let same : Ok a ≡ Ok b = one_by_root blocks root (Ok a) (Ok b) (of_scenario blocks root a is) (of_scenario blocks root b also) in cc)

pub not_both : (blocks : List BlockParts) (root : CidParts) (s : Scenario) (f : ScenarioFault) → IsScenario blocks root s → IsScenarioFault blocks root f → ⊥
not_both blocks root s f is refused = (let wrong : Ok s ≡ Err f = one_by_root blocks root (Ok s) (Err f) (of_scenario blocks root s is) (of_fault blocks root f refused) in cc)

pub one_fault : (blocks : List BlockParts) (root : CidParts) (a b : ScenarioFault) → IsScenarioFault blocks root a → IsScenarioFault blocks root b → a ≡ b
one_fault blocks root a b is also = (let same : Err a ≡ Err b = one_by_root blocks root (Err a) (Err b) (of_fault blocks root a is) (of_fault blocks root b also) in cc)
