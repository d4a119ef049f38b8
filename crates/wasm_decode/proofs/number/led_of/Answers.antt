use Rattle.std.proofs.Common.{sym, ◌∙◌, drop}
use Rattle.wasm_decode.proofs.Numbers.{nothing}
use Rattle.wasm_decode.proofs.number.led_of.Goals as goal

pub returns-in-None-clause-none : goal.returns-in-None-clause-none
returns-in-None-clause-none c =
    (c.groups_of-groups.result, c.groups_of-groups.ensures.0, nothing c.split_at.result.1.now (drop c.groups_of-groups.result.count c.args.bytes.now) c.split_at.ensures.back c.in-None.ensures.cases)

pub returns-in-Some-clause-found : goal.returns-in-Some-clause-found
returns-in-Some-clause-found c = (c.groups_of-groups.ensures, sym c.split_at.ensures.back ∙ c.in-Some.ensures.cases.0)
