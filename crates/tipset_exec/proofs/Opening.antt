-- A tipset that can be evaluated begins with a funded state.
use Rattle.std.proofs.Common.{◌≡◌, ◌+◌, List, Bool, true, false, cond, ◌||◌, Option, Some, None, Result, Ok, Err, refl, sym, ap, subst, ◌∙◌, arith}
use Rattle.std.proofs.lemmas.Bool.{false≢true, leb-true, or_parts}
use Rattle.std.specs.Prelude.{is_some}
use Rattle.std.specs.FinMap.{get}
use Rattle.std.specs.Option.{option_map}
use Rattle.fil_base.specs.CidEquality.{parts_equiv, same_parts}
use Rattle.fil_base.specs.CidParts.{CidParts}
use Rattle.cid_core.specs.BlockParts.{BlockParts}
use Rattle.fil_message.specs.Tipsets.{awards}
use Rattle.fil_message.specs.declared.tipset.Tipset.{Tipset}
use Rattle.gas_prices.specs.declared.rules.Codes.{Codes}
use Rattle.gas_prices.specs.declared.rules.Rules.{Rules}
use Rattle.hamt_map.specs.StateFaults.{if_state, value_under}
use Rattle.hamt_map.specs.declared.state_fault.StateFault.{StateFault}
use Rattle.hamt_map.specs.declared.state_fault.StateFault.TheVariants.{Actor as NoActor}
use Rattle.init_names.specs.Names.{InitState}
use Rattle.state_model.specs.State.{State}
use Rattle.state_model.specs.StateAt.{init_under, opened, state_at}
use Rattle.state_tree.specs.Actors.{Actors, balances}
use Rattle.state_tree.specs.Reading.{actors_at, actors_under, has_code, root_links, with_own_actors}
use Rattle.state_tree.specs.declared.actor.Actor.{Actor}
use Rattle.tipset_exec.specs.Alone.{IsEvaluable}
use Rattle.tipset_exec.specs.Funds.{IsFunded, IsOther}

if_state_gives : {A B : Type 0} (r : Result A StateFault) (f : A → Result B StateFault) (y : B) → if_state r f ≡ Ok y → (x : A) × (r ≡ Ok x) × (f x ≡ Ok y)
if_state_gives (Ok x) f y e = (x, refl, e)
if_state_gives (Err fault) f y e = absurd (cc)

-- the reward actor and the burnt funds have their codes
record HasOwn (codes : Codes) (actors : Actors) : Type 0 where
  reward : has_code (get actors 2) codes.reward ≡ true
  funds : has_code (get actors 99) codes.account ≡ true

own_tests : (a b c : Bool) (all actors : Actors) → ◌≡◌ {A = Result Actors StateFault} (cond a (cond b (cond c (Ok all) (Err (NoActor 99))) (Err (NoActor 2))) (Err (NoActor 1))) (Ok actors) → (all ≡ actors) × (b ≡ true) × (c ≡ true)
own_tests true true true all actors e = (cc, refl, refl)
own_tests true true false all actors e = absurd (cc)
own_tests true false c all actors e = absurd (cc)
own_tests false b c all actors e = absurd (cc)

have_own : (codes : Codes) (all actors : Actors) → with_own_actors codes all ≡ Ok actors → HasOwn codes actors
have_own codes all actors e =
    let tests = own_tests (has_code (get all 1) codes.init) (has_code (get all 2) codes.reward) (has_code (get all 99) codes.account) all actors e in
    subst (HasOwn codes) tests.0 (record { reward = tests.1; funds = tests.2 })

actors_have_own : (blocks : List BlockParts) (root : CidParts) (codes : Codes) (found : Actors × CidParts) → actors_at blocks root codes ≡ Ok found → HasOwn codes found.0
unfolding actors_at
actors_have_own blocks root codes found e =
    let value = if_state_gives (value_under blocks root) _ found e in
    let links = if_state_gives (root_links root value.0) _ found value.2 in
    let all = if_state_gives (actors_under blocks links.0.actors) _ found links.2 in
    let own = if_state_gives (with_own_actors codes all.0) _ found all.2 in
    let same : own.0 ≡ found.0 = ap (λ (p : Actors × CidParts). p.0) (value_of own.2) in
    subst (HasOwn codes) same (have_own codes all.0 own.0 own.1) where
      value_of : {A : Type 0} {x y : A} → ◌≡◌ {A = Result A StateFault} (Ok x) (Ok y) → x ≡ y
      value_of e = cc

-- a state that was loaded has both, and nothing was minted or burned
record IsOpened (codes : Codes) (s : State) : Type 0 where
  own : HasOwn codes s.actors
  minted : s.minted ≡ 0
  burned : s.burned ≡ 0

opened_is : (blocks : List BlockParts) (root : CidParts) (codes : Codes) (s : State) → state_at blocks root codes ≡ Ok s → IsOpened codes s
opened_is blocks root codes s e =
    let found = if_state_gives {A = Actors × CidParts} (actors_at blocks root codes) _ s e in
    let init = if_state_gives {A = InitState} (init_under blocks (get found.0.0 1)) _ s found.2 in
    let same : opened found.0 init.0 ≡ s = value_of init.2 in
    subst (IsOpened codes) same (record { own = actors_have_own blocks root codes found.0 found.1; minted = refl; burned = refl }) where
      value_of : {A : Type 0} {x y : A} → ◌≡◌ {A = Result A StateFault} (Ok x) (Ok y) → x ≡ y
      value_of e = cc

-- ---- codes

apart : (code reward account : CidParts) → same_parts code reward ≡ true → same_parts account reward ≡ false → same_parts code account ≡ false
apart code reward account same other = elim (same_parts code account) as (λ b. same_parts code account ≡ b → b ≡ false) [
  | true ↦ λ is. absurd (false≢true (sym other ∙ sym ((parts_equiv).congr code account reward is) ∙ same))
  | false ↦ λ is. refl
] refl

other_than : (o : Option Actor) (reward account : CidParts) → has_code o reward ≡ true → same_parts account reward ≡ false → IsOther account (option_map (λ a. a.code) o)
other_than None reward account has other = absurd (cc)
other_than (Some actor) reward account has other = apart actor.code reward account has other

is_there : (o : Option Actor) (code : CidParts) → has_code o code ≡ true → is_some (option_map (λ a. a.code) o) ≡ true
is_there None code has = absurd (cc)
is_there (Some actor) code has = refl

last_apart : (a b c d e f : Bool) → (a || b || c || d || e || f) ≡ false → f ≡ false
last_apart a b c d e f none = (or_parts (a || b || c || d || e) f none).1

pub evaluable_funded : (blocks : List BlockParts) (rules : Rules) (t : Tipset) (s : State) → IsEvaluable blocks rules t s → IsFunded rules.codes.account s 0 (awards t) 0
evaluable_funded blocks rules t s is =
    let open_state = opened_is blocks t.root rules.codes s is.loaded in
    let c = rules.codes in
    let differ_there : same_parts c.account c.reward ≡ false =
    last_apart (same_parts c.system c.init) (same_parts c.system c.account) (same_parts c.system c.reward) (same_parts c.init c.account) (same_parts c.init c.reward) (same_parts c.account c.reward) is.rules.codes in
    let fits = leb-true (balances s.actors + awards t) 2000000000000000000000000000 is.room in
    record {
      reward = other_than (get s.actors 2) c.reward c.account open_state.own.reward differ_there;
      burnt_funds = is_there (get s.actors 99) c.account open_state.own.funds;
      room = omega (arith, fits);
      minted = omega (arith, fits, open_state.minted);
      burned = omega (arith, open_state.burned);
      has_tips = omega arith;
    }
