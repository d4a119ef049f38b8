use Rattle.std.proofs.Common.{subst, sym}
use Rattle.amt_map.specs.ValueBytes.{IsOneValue, the_value}
use Rattle.amt_map.proofs.OneValue.{the_read}
use Rattle.amt_map.proofs.WalkSteps.{block_read}
use Rattle.amt_map.proofs.loading.value_under.Goals as goal

pub returns-clause-found : goal.returns-clause-found
returns-clause-found g c =
    block_read _ c.args.cid.now c.in-Some.block.now (the_value c.in-Some.block.now.bytes) (sym c.in-Some.ensures)
    (the_read c.in-Some.block.now.bytes (subst IsOneValue c.bytes.ensures.value (c.is_one_value.ensures.found c.if-not-is_one_value.false)))
