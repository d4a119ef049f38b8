use Rattle.std.proofs.Common.{arith, subst, sym, ◌<◌}
use Rattle.fil_base.proofs.Base32Text.{same_size, spelled_back, spelled_front, spelled_item}
use Rattle.fil_base.proofs.base32.spell.Goals as goal

pub letter_of-requires : goal.letter_of-requires
letter_of-requires c =
    let now = c.loop-group.group-items in
    let old = c.args.groups.now.items in
    let i = c.loop-group.group-index in
    subst (λ x. x < 32) (sym (spelled_item now old i c.loop-group.invariant.back)) (c.requires i 0 (same_size now old i (omega arith) c.loop-group.invariant.back))

pub loop-group-preserved : goal.loop-group-preserved
loop-group-preserved c =
    let now = c.loop-group.group-items in
    let old = c.args.groups.now.items in
    let i = c.loop-group.group-index in
    record {
      front = spelled_front now old i c.letter_of.result (omega arith) c.loop-group.invariant.back c.loop-group.invariant.front c.letter_of.ensures;
      back = spelled_back now old i c.letter_of.result c.loop-group.invariant.back;
    }
