use Rattle.std.proofs.Common.{◌<◌, ℕ}
use Rattle.std.proofs.lemmas.List.Elements.{All-same}
use Rattle.fil_base.proofs.Base32Text.{digits_below, text_of_groups}
use Rattle.fil_base.proofs.base32.base32_text.Goals as goal

pub spell-requires : goal.spell-requires
spell-requires c =
    All-same (λ (group : ℕ). group < 32) c.fill_last.new.groups.items _ (c.in_ok-fill_last.ensures _ _ c.in_ok-groups.ensures.regroups) (digits_below _ _)

pub returns : goal.returns
returns c =
    text_of_groups c.args.bytes.now c.fill_last.new.groups.items c.spell.new.groups.items c.of.result (c.in_ok-fill_last.ensures _ _ c.in_ok-groups.ensures.regroups) c.spell.ensures c.of.ensures
