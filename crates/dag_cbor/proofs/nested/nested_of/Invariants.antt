use Rattle.std.proofs.Common.{◌+◌, ◌-◌, ◌*◌, length}
use Rattle.dag_cbor.specs.declared.decoding.TheConstants.{MAX_DEPTH}
use Rattle.dag_cbor.specs.Nesting.{gives}
use Rattle.dag_cbor.proofs.Stack.{InNested}
use Rattle.dag_cbor.proofs.nested.nested_of.Given as goal

abbrev pub invariant-items : goal.invariant-items
invariant-items l = InNested (MAX_DEPTH - 1) l.around.items l.inner l.rest (gives (MAX_DEPTH - 1) l.fn.outermost l.bytes)

abbrev pub decreases-items : goal.decreases-items
decreases-items l = 2 * length l.rest + length l.around.items
