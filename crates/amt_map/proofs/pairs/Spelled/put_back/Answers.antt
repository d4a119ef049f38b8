use Rattle.std.proofs.Common.{◌≡◌, ℕ, List, None, false, ◌∙◌, ap, subst, sym}
use Rattle.std.proofs.lemmas.Bool.{false≢true}
use Rattle.std.specs.FinMap.{insert}
use Rattle.std.specs.FinMap.Entries.{find, put}
use Rattle.std.specs.Prelude.{is_some}
use Rattle.amt_map.specs.Holds.{Holds}
use Rattle.std.specs.Ordering.{nat_cmp}
use Rattle.amt_map.proofs.Held.{Holds-insert}
use Rattle.amt_map.proofs.PutAgain.{put_through}
use Rattle.amt_map.proofs.Spellings.{find-view, view}
use Rattle.amt_map.proofs.pairs.Spelled.put_back.Goals.{in-Some, in_default}
use Rattle.amt_map.proofs.pairs.Spelled.put_back.Goals as goal

pub invariant_of-self : goal.invariant_of-self
invariant_of-self c = elim c.match-get_mut.branch [
  | in-Some w ↦
      let es = c.self.inside.inner.entries in
      let m = c.self.invariant.0 in
      let after = put_through c.args.index c.args.spelling w.in-Some.place.now es _ m c.self.invariant.1 w.in-Some.ensures.value (c.get_mut.follows.holds c.args.spelling).0 in (
        insert m c.args.index c.requires.spelling.value,
        Holds-insert (view es) _ m c.args.index c.requires.spelling.value c.self.invariant.1 c.requires.index c.requires.spelling.plain ((λ i. view (w.self-inside-is i).inner.entries) ∙ after ∙ ap (λ (t : List ℕ). put nat_cmp c.args.index t (view es)) c.requires.spelling.same),
      )
  | in_default w ↦ (
    c.self.invariant.0,
    subst (λ (pairs : List (ℕ × List ℕ)). Holds pairs c.self.invariant.0) (sym ((λ i. view (w.self-inside-is i).inner.entries) ∙ (λ i. view (c.get_mut.follows.holds-at-none i).entries))) c.self.invariant.1,
  )
]

pub returns : goal.returns
returns c = elim c.match-get_mut.branch [
  | in-Some w ↦ λ there.
      (λ i. view (w.self-inside-is i).inner.entries)
      ∙ put_through c.args.index c.args.spelling w.in-Some.place.now c.self.inside.inner.entries _ c.self.invariant.0 c.self.invariant.1 w.in-Some.ensures.value (c.get_mut.follows.holds c.args.spelling).0
      ∙ ap (put nat_cmp c.args.index c.args.spelling.items) c.self.view_is
  | in_default w ↦ λ there.
      let none : is_some (find nat_cmp c.args.index c.args.self.now) ≡ false = ap is_some (find-view c.args.index c.self.inside.inner.entries c.args.self.now None c.self.view_is w.in_default.ensures.value) in
      absurd (false≢true (sym none ∙ there))
]
