use Rattle.std.proofs.Common.{refl, sym, ap, ◌∙◌}
use Rattle.std.specs.Prelude.{is_some}
use Rattle.tree_blocks.proofs.NewBlocks.{is_some-map}
use Rattle.state_tree.proofs.PairTests.{key_and_record}
use Rattle.state_tree.specs.Reading.{actor_in, id_in}
use Rattle.state_tree.proofs.pairs.is_actor.Goals as goal

pub returns-then-is_some : goal.returns-then-is_some
returns-then-is_some c =
    let key = c.args.pair.now.0 in
    let value = c.args.pair.now.1 in
    let here = ap id_in (sym c.as_slice.ensures) ∙ sym c.id_in.ensures in
    key_and_record key value (id_in key) (actor_in value) c.is_some-then-is_some.result refl refl (ap is_some here ∙ sym c.is_some.ensures ∙ c.if-is_some.true)
    (c.is_some-then-is_some.ensures ∙ sym (is_some-map _ c.fields_in.result) ∙ ap is_some c.fields_in.ensures.read) c.fields_in.ensures.actor
