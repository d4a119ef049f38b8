use Rattle.std.proofs.Common.{◌≡◌, ap, arith, length, slice_get, Some}
use Rattle.wasm_check.proofs.ReadBodies.{found_fault, found_valid, is_ended, stands_at}
use Rattle.wasm_check.proofs.checking.judge_body.Goals as goal

pub read_body-requires : goal.read_body-requires
read_body-requires c =
    record {
      ended = is_ended c.as_slice-2.result.now c.args.body.now.code c.requires.nested.0 c.as_slice-2.ensures c.requires.nested.1;
      small = omega (arith, ap length c.as_slice-2.ensures, c.requires.small);
    }

pub returns : goal.returns
returns c =
    let f = c.index-as_slice-type_index.result in
    let is : slice_get c.args.raw.now.types c.args.type_index ≡ Some f =
    stands_at c.as_slice.result.now c.args.raw.now.types c.args.type_index f c.as_slice.ensures c.requires.typed c.index-as_slice-type_index.is in
    record {
      found = found_valid c.args.raw.now c.args.type_index f c.args.body.now c.as_slice-2.result.now c.requires.nested c.read_body.result is c.as_slice-2.ensures c.read_body.ensures;
      fault = found_fault c.args.raw.now c.args.type_index f c.args.body.now c.as_slice-2.result.now c.requires.nested c.read_body.result is c.as_slice-2.ensures c.read_body.ensures;
    }
