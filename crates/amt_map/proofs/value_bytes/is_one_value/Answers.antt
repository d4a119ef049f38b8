use Rattle.std.proofs.Common.{sym, ◌∙◌}
use Rattle.std.proofs.lemmas.Bool.{eqb-false}
use Rattle.amt_map.proofs.OneValue.{more_behind, no_item}
use Rattle.amt_map.proofs.value_bytes.is_one_value.Goals as goal

pub returns-in-Some-clause-only : goal.returns-in-Some-clause-only
returns-in-Some-clause-only c = let found = c.in-Some.ensures.found in λ no. more_behind c.args.bytes.now c.in-Some.rest.now found.0 found.4 (eqb-false _ _ (sym c.is_empty.ensures ∙ no))

pub returns-in-None-clause-only : goal.returns-in-None-clause-only
returns-in-None-clause-only c = λ no. no_item c.args.bytes.now c.in-None.ensures.fault
