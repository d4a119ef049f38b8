use Rattle.std.proofs.Common.{ℕ, List, ◌∙◌, ap, refl, subst, sym}
use Rattle.std.specs.FinMap.{insert}
use Rattle.std.specs.FinMap.Entries.{put}
use Rattle.amt_map.specs.Holds.{Holds}
use Rattle.std.specs.Ordering.{nat_cmp}
use Rattle.amt_map.specs.Pairs.{Map}
use Rattle.amt_map.proofs.Held.{Holds-insert}
use Rattle.amt_map.proofs.PutAgain.{was_spelling}
use Rattle.amt_map.proofs.Spellings.{find-view, view, view-insert_entry}
use Rattle.amt_map.proofs.pairs.Spelled.put.Goals as goal

pub invariant_of-self : goal.invariant_of-self
invariant_of-self c = subst (λ (pairs : List (ℕ × List ℕ)). (m : Map) × Holds pairs m) (sym (ap view c.in_err-old.ensures.err)) c.self.invariant

pub invariant_of-self-2 : goal.invariant_of-self-2
invariant_of-self-2 c =
    let m = c.self.invariant.0 in (
      insert m c.args.index c.requires.spelling.value,
      Holds-insert (view c.self.inside.inner.entries) _ m c.args.index c.requires.spelling.value c.self.invariant.1 c.requires.index c.requires.spelling.plain (
          ap view c.in_ok-old.ensures.entries ∙ view-insert_entry c.self.inside.inner.entries c.args.index c.args.spelling ∙ ap (λ (t : List ℕ). put nat_cmp c.args.index t (view c.self.inside.inner.entries)) c.requires.spelling.same),
    )

pub returns-clause-after : goal.returns-clause-after
returns-clause-after c =
    ap view c.in_ok-old.ensures.entries ∙ view-insert_entry c.self.inside.inner.entries c.args.index c.args.spelling ∙ ap (put nat_cmp c.args.index c.args.spelling.items) c.self.view_is

pub returns-clause-old : goal.returns-clause-old
returns-clause-old c = sym (find-view c.args.index c.self.inside.inner.entries c.args.self.now c.in_ok-old.old c.self.view_is c.in_ok-old.ensures.old)

pub returns-clause-spelling : goal.returns-clause-spelling
returns-clause-spelling c =
    was_spelling (view c.self.inside.inner.entries) c.self.invariant.0 c.args.index c.in_ok-old.old c.self.invariant.1 (find-view c.args.index c.self.inside.inner.entries (view c.self.inside.inner.entries) c.in_ok-old.old refl c.in_ok-old.ensures.old)

pub returns-clause-held : goal.returns-clause-held
returns-clause-held c = (c.self.invariant.0, subst (λ (pairs : List (ℕ × List ℕ)). Holds pairs c.self.invariant.0) c.self.view_is c.self.invariant.1)
