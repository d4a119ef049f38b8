use Rattle.std.proofs.Common.{ℕ, List, ◌∙◌, ap, refl, subst, sym}
use Rattle.std.specs.FinMap.{insert}
use Rattle.std.specs.FinMap.Entries.{put}
use Rattle.hamt_map.specs.Holds.{Holds}
use Rattle.hamt_map.specs.Pairs.{Map, key_cmp}
use Rattle.hamt_map.proofs.Held.{Holds-insert}
use Rattle.hamt_map.proofs.PutAgain.{was_spelling}
use Rattle.hamt_map.proofs.Spellings.{find-view, view, view-insert_entry}
use Rattle.hamt_map.proofs.pairs.Spelled.put.Goals as goal

pub invariant_of-self : goal.invariant_of-self
invariant_of-self c = subst (λ (pairs : List (List ℕ × List ℕ)). (m : Map) × Holds pairs m) (sym (ap view c.in_err-old.ensures.err)) c.self.invariant

pub invariant_of-self-2 : goal.invariant_of-self-2
invariant_of-self-2 c =
    let m = c.self.invariant.0 in (
      insert m c.args.key.items c.requires.value,
      Holds-insert (view c.self.inside.inner.entries) _ m c.args.key.items c.requires.value c.self.invariant.1 c.requires.plain (
          ap view c.in_ok-old.ensures.entries ∙ view-insert_entry c.self.inside.inner.entries c.args.key c.args.spelling ∙ ap (λ (t : List ℕ). put key_cmp c.args.key.items t (view c.self.inside.inner.entries)) c.requires.same),
    )

pub returns-clause-after : goal.returns-clause-after
returns-clause-after c =
    ap view c.in_ok-old.ensures.entries ∙ view-insert_entry c.self.inside.inner.entries c.args.key c.args.spelling ∙ ap (put key_cmp c.args.key.items c.args.spelling.items) c.self.view_is

pub returns-clause-old : goal.returns-clause-old
returns-clause-old c = sym (find-view c.args.key.items c.self.inside.inner.entries c.args.self.now c.in_ok-old.old c.self.view_is c.in_ok-old.ensures.old)

pub returns-clause-spelling : goal.returns-clause-spelling
returns-clause-spelling c =
    was_spelling (view c.self.inside.inner.entries) c.self.invariant.0 c.args.key.items c.in_ok-old.old c.self.invariant.1 (find-view c.args.key.items c.self.inside.inner.entries (view c.self.inside.inner.entries) c.in_ok-old.old refl c.in_ok-old.ensures.old)

pub returns-clause-held : goal.returns-clause-held
returns-clause-held c = (c.self.invariant.0, subst (λ (pairs : List (List ℕ × List ℕ)). Holds pairs c.self.invariant.0) c.self.view_is c.self.invariant.1)
