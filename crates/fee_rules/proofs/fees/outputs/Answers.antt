use Rattle.std.proofs.Common.{◌≡◌, ◌-◌, ◌*◌, arith}
use Rattle.fee_rules.proofs.Parts.{parts_within}
use Rattle.fee_rules.proofs.fees.outputs.Goals as goal

pub overflow_sub-result-2 : goal.overflow_sub-result-2
overflow_sub-result-2 c =
    omega (arith, parts_within c.min-pay.result (c.number-cap.result - c.min-pay.result) c.number-cap.result c.from-used.result c.from-burned.result c.from-limit.result c.min.result (omega arith) (omega arith) (omega arith))

pub overflow_sub-result-3 : goal.overflow_sub-result-3
overflow_sub-result-3 c =
    omega (arith, parts_within c.min-pay.result (c.number-cap.result - c.min-pay.result) c.number-cap.result c.from-used.result c.from-burned.result c.from-limit.result c.min.result (omega arith) (omega arith) (omega arith))

pub returns-clause-whole : goal.returns-clause-whole
returns-clause-whole c =
    let all : c.number-cap.result * c.from-limit.result ≡ c.args.cap * c.args.limit = cc in
    omega (arith, all, parts_within c.min-pay.result (c.number-cap.result - c.min-pay.result) c.number-cap.result c.from-used.result c.from-burned.result c.from-limit.result c.min.result (omega arith) (omega arith) (omega arith))
