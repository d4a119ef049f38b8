use Rattle.std.proofs.Common.{List, ◌++◌, ◌∙◌, ap}
use Rattle.std.specs.List.{filter}
use Rattle.cid_core.specs.BlockParts.{BlockParts}
use Rattle.state_model.proofs.NewBeside.{is_other, new_of_both}
use Rattle.state_model.proofs.flushing.put_all_new.Goals as goal

pub returns : goal.returns
returns c = λ held first second of-first of-second.
    let kept = c.keep_others.ensures ∙ (λ i. filter (is_other (c.deref.ensures.value i)) (c.into_vec-others.ensures i)) in
    new_of_both held first second c.args.new.now.items c.args.blocks c.append.new.self.items of-first of-second
    (c.in_ok-append.ensures.items ∙ ap (λ (bs : List BlockParts). c.args.new.now.items ++ bs) kept)
