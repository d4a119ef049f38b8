use Rattle.std.proofs.Common.{ap, ◌∙◌, map}
use Rattle.std.proofs.lemmas.Result.{IfOk-weaker}
use Rattle.block_base.proofs.SortedNames.{entry_of, index_from_names}
use Rattle.block_base.proofs.index.index_of.Goals as goal

pub returns : goal.returns
returns c =
    IfOk-weaker c.entries_of.result _ _ (λ entries same. index_from_names c.args.blocks.now c.in_ok-names.names.items c.sort_unstable.new.self.items entries.items c.in_ok-names.ensures c.sort_unstable.ensures.permutation c.sort_unstable.ensures.sorted (same ∙ ap (map entry_of) c.deref.ensures.value)) c.entries_of.ensures
