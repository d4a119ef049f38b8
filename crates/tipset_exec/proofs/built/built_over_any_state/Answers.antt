use Rattle.std.proofs.Common.{◌≡◌, ◌<◌, ◌≤◌, get_or, length, List, ap, ◌∙◌, arith}
use Rattle.std.proofs.lemmas.Option.{IfSome_then}
use Rattle.std.specs.List.{list_all}
use Rattle.fil_message.specs.declared.tipset.TipBlock.{TipBlock}
use Rattle.tipset_exec.specs.Alone.{is_built, is_transfer}
use Rattle.tipset_exec.proofs.Building.{more_not_built, none_built, one_built}
use Rattle.tipset_exec.proofs.built.built_over_any_state.Goals as goal

pub returns-in-empty : goal.returns-in-empty
returns-in-empty c = λ s.
    let blocks = c.args.tipset.now.blocks in
    none_built s blocks (omega (arith, c.in-empty.len_below, ap length c.as_slice.ensures))

pub returns-in-len1 : goal.returns-in-len1
returns-in-len1 c = λ s.
    let blocks = c.args.tipset.now.blocks in
    let block = c.block-item.result in
    let given : c.as_slice.result.now ≡ blocks = c.as_slice.ensures in
    let here : block ≡ get_or blocks 0 block = c.block-item.is ∙ ap (λ (bs : List TipBlock). get_or bs 0 block) given in
    let least : 1 ≤ length blocks = omega (arith, c.in-len1.len_at_least, ap length given) in
    let few : length blocks < 2 = omega (arith, c.in-len1.len_below, ap length given) in
    IfSome_then c.are_transfers_over_any_state.result {P = λ all. all ≡ list_all (is_transfer s) c.as_slice-in-len1.result.now} {Q = λ built. built ≡ is_built s c.args.tipset.now}
    (c.are_transfers_over_any_state.ensures s)
    (λ built is. one_built s blocks block built least few here (is ∙ ap (list_all (is_transfer s)) c.as_slice-in-len1.ensures))

pub returns-in_default : goal.returns-in_default
returns-in_default c = λ s. more_not_built s c.args.tipset.now.blocks (omega (arith, c.in_default.len_at_least, ap length c.as_slice.ensures))
