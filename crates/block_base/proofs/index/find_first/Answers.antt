use Rattle.std.proofs.Common.{ap, ◌∙◌}
use Rattle.fil_base.specs.CidEquality.{same_parts}
use Rattle.block_base.proofs.Indexes.{finds_first, finds_none_at_end, finds_none_at_other}
use Rattle.block_base.proofs.index.find_first.Goals as goal

pub returns-in_err-entry : goal.returns-in_err-entry
returns-in_err-entry c =
    rw c.from_residual.ensures (finds_none_at_end c.args.blocks.now c.args.index.now c.args.cid.now c.count_before-before.result record { index = c.requires; before = c.count_before-before.ensures.before; behind = c.count_before-before.ensures.behind } c.in_err-entry.ensures.lookup.0)

pub returns-then-eq : goal.returns-then-eq
returns-then-eq c =
    let at = c.in_ok-entry.ensures.lookup in
    finds_first c.args.blocks.now c.args.index.now c.args.cid.now c.count_before-before.result c.in_ok-entry.entry.now c.index-blocks-entry.result
    record { index = c.requires; before = c.count_before-before.ensures.before; behind = c.count_before-before.ensures.behind }
    record { within = at.3.0; entry = at.1; block = c.index-blocks-entry.is }
    (c.if-eq.ensures ∙ ap (λ x. same_parts x c.args.cid.now) c.cid.ensures.value)

pub returns-else-eq : goal.returns-else-eq
returns-else-eq c =
    let at = c.in_ok-entry.ensures.lookup in
    finds_none_at_other c.args.blocks.now c.args.index.now c.args.cid.now c.count_before-before.result c.in_ok-entry.entry.now c.index-blocks-entry.result
    record { index = c.requires; before = c.count_before-before.ensures.before; behind = c.count_before-before.ensures.behind }
    record { within = at.3.0; entry = at.1; block = c.index-blocks-entry.is }
    (c.if-eq.ensures ∙ ap (λ x. same_parts x c.args.cid.now) c.cid.ensures.value)
