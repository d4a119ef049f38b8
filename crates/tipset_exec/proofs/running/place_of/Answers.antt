use Rattle.std.proofs.Common.{rules}
use Rattle.std.proofs.lemmas.List.Sorted.{answers_always}
use Rattle.tipset_exec.proofs.Search.{placed}
use Rattle.tipset_exec.proofs.running.place_of.Goals as goal

-- the closure gives an actor's ID
pub returns : goal.returns
returns c =
    let facts = c.binary_search_by_key.ensures in
    let by_id = facts.position (λ a. a.id) (answers_always _ _ _ (λ f a r g called. search rules)) in
    rw (c.ok.ensures.value, ← c.number-number.ensures.value) (placed c.args.actors.now c.requires c.number-number.result c.binary_search_by_key.result facts.bound by_id)
