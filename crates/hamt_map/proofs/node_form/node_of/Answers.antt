use Rattle.std.proofs.Common.{[], refl}
use Rattle.hamt_map.proofs.WholeValues.{node_found}
use Rattle.hamt_map.proofs.node_form.node_of.Goals as goal

pub returns : goal.returns
returns c = λ value at.
    let parts = c.in-Some.ensures value at in
    let read = rw c.in-Some-2.is at (c.in_ok-pointers.ensures parts.0 [] parts.2.long parts.2.at) in
    node_found c.args.below value c.in-Some.bits.now parts.0 _ read.0 parts.1 parts.2.whole refl read.1 read.2
