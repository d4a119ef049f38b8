use Rattle.std.proofs.Common.{ℕ, List, Bor, sym, arith}
use Rattle.hamt_map.specs.ReadPointers.{IsPointerAt}
use Rattle.hamt_map.specs.Walk.{Pointer}
use Rattle.hamt_map.specs.declared.node_form.ReadPointer.{ReadPointer}
use Rattle.hamt_map.proofs.Fronts.{list_found, list_none}
use Rattle.hamt_map.proofs.ReadParts.{bucket_pointer}
use Rattle.hamt_map.proofs.node_form.pointer_at.Goals as goal

pub returns-in-Some : goal.returns-in-Some
returns-in-Some c = λ value rest at.
    let list = list_found 125 c.in-Some.count value c.args.bytes.now c.in-Some.pairs.now rest (omega arith) c.in-Some.ensures.found at in
    bucket_pointer (λ (y : ReadPointer × Bor (List ℕ)) (pointer : Pointer). IsPointerAt rest y.0 y.1.now pointer) c.args.below value list.items c.bucket_of.result list.is (c.bucket_of.ensures list.items rest (sym list.count) list.at)

pub returns-in-None : goal.returns-in-None
returns-in-None c = λ value rest at. c.child_at.ensures value rest at (list_none 125 value c.args.bytes.now rest c.in-None.ensures.only at)
