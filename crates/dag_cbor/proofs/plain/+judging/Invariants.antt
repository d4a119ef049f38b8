use Rattle.std.proofs.Common.{take, All}
use Rattle.dag_cbor.specs.Plain.{IsPlain, IsText}
use Rattle.dag_cbor.proofs.plain.+judging.Given as goal

abbrev pub invariant-is_plain_list-loop-item : goal.invariant-is_plain_list-loop-item
invariant-is_plain_list-loop-item l = All (IsPlain l.depth) (take l.item-index l.items)

abbrev pub invariant-is_plain_map-loop-key : goal.invariant-is_plain_map-loop-key
invariant-is_plain_map-loop-key l = All (λ p. IsText p.0 × IsPlain l.depth p.1) (take l.key-index l.pairs)
