use Rattle.std.proofs.Common.{◌<◌, ◌+◌, ◌^◌, ℕ, ap, subst, ◌∙◌, arith}
use Rattle.hamt_map.specs.Stands as hamt
use Rattle.std.specs.FinMap.{insert}
use Rattle.fil_address.specs.AddressBytes.{address}
use Rattle.init_names.specs.Names.{named}
use Rattle.init_names.specs.Stands.{Stands}
use Rattle.init_names.proofs.MadeNames.{state_more}
use Rattle.init_names.proofs.names.Names.assign.Goals as goal

pub returns-clause-after : goal.returns-clause-after
unfolding Stands
returns-clause-after g c = λ s stands.
    let blocks = g.B.BlockSource.blocks c.args.base.now in
    let key = c.as_slice.ensures ∙ c.in_ok-name.ensures.bytes in
    let tree = subst (hamt.Stands c.put_id.new.tree blocks) (λ i. named (insert s.names (key i) (stands.1 i))) (c.in_ok-put_id.ensures.after s.names stands.0) in
    let small : s.next + 1 < 2 ^ 63 = omega (arith, c.id_after-after.ensures.small, stands.1) in
    (tree, c.id_after-after.ensures.value ∙ ap (λ (n : ℕ). n + 1) stands.1, stands.2, state_more s (address c.args.address.now) stands.3 small c.in_ok-name.ensures.name)
