use Rattle.std.proofs.Common.{◌∷◌, []}
use Rattle.init_names.specs.Stands.{Stands}
use Rattle.init_names.proofs.FreeNames.{free_to_assign}
use Rattle.init_names.proofs.tests.assigned.Goals as goal

pub assign-requires-clause-free : goal.assign-requires-clause-free
unfolding Stands
assign-requires-clause-free c =
    let s = c.requires.state.0 in
    let stands = c.requires.state.1 in
    let free = free_to_assign s c.args.address.now c.full.result c.is_some.result c.in_ok-resolve.field-0 stands.3.next
    (c.full.ensures (c.args.base.now.first ∷ c.args.base.now.second ∷ []) s stands) c.if-full.false c.requires.address
    (c.in_ok-resolve.ensures s stands) c.is_some.ensures c.if-is_some.false in
    (s, stands, free.0, free.1)
