use Rattle.std.proofs.Common.{◌≡◌, Err, None, sym, ap, ◌∙◌}
use Rattle.std.proofs.lemmas.Result.{err_from_is_err_and}
use Rattle.hamt_map.specs.declared.state_fault.StateFault.{StateFault}
use Rattle.init_names.specs.Reading.{parts_in}
use Rattle.init_names.proofs.Loading.{fault_as, no_parts, no_value}
use Rattle.init_names.proofs.state_block.parts_under.Goals as goal

pub returns-in_err-value-clause-fault : goal.returns-in_err-value-clause-fault
returns-in_err-value-clause-fault g c =
    let blocks = g.B.BlockSource.blocks c.args.base.now in
    let p = err_from_is_err_and c.from_residual.result c.from_residual.ensures.1 in
    rw (p.1, p.2) (fault_as _ (λ (fault : StateFault). no_value blocks c.args.head.now fault) c.in_err-value.ensures.fault)

pub returns-in_default-clause-fault : goal.returns-in_default-clause-fault
returns-in_default-clause-fault g c =
    let blocks = g.B.BlockSource.blocks c.args.base.now in
    let none : parts_in c.in_ok-value.value ≡ None = sym (rw c.in_default.is at c.in_ok-parts.ensures) in
    let form = no_parts blocks c.args.head.now c.in_ok-value.value c.in_ok-value.ensures.found none in
    fault_as c.form.result (λ (fault : StateFault) is. form ∙ ap (λ (f : StateFault). Err f) (sym is)) c.form.ensures
