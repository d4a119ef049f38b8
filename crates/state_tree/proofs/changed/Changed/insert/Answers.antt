use Rattle.std.proofs.Common.{subst, sym}
use Rattle.state_tree.specs.Actors.{IsActor}
use Rattle.state_tree.specs.Over.{AreEntries}
use Rattle.state_tree.proofs.Overlay.{entries_inserted, shown_inserted}
use Rattle.state_tree.proofs.changed.Changed.insert.Goals as goal

pub invariant_of-self : goal.invariant_of-self
invariant_of-self c = subst AreEntries (sym c.in_err-insert.ensures.err) c.self.invariant

pub invariant_of-self-2 : goal.invariant_of-self-2
invariant_of-self-2 c =
    let are : IsActor c.args.actor = record { code = c.version.ensures.cid; head = c.version-2.ensures.cid; sequence = search; balance = c.number.ensures.range } in
    entries_inserted c.self.inside.inner.entries _ c.args.id c.args.actor c.self.invariant c.requires are c.in_ok-insert.ensures.entries

pub returns-clause-after : goal.returns-clause-after
returns-clause-after c =
    shown_inserted c.self.inside.inner.entries _ c.args.self.now c.args.id c.args.actor c.self.invariant c.self.view_is c.in_ok-insert.ensures.entries
