use Rattle.std.proofs.Common.{Bor, List, ℕ, map}
use Rattle.dag_cbor.proofs.ItemTexts.{SoFar}
use Rattle.dag_cbor.proofs.item_texts.whole_items.Given as goal

abbrev pub invariant-loop : goal.invariant-loop
invariant-loop l = SoFar l.count l.counter l.bytes l.rest (map {A = Bor (List ℕ)} {B = List ℕ} (λ s. s.now) l.spellings.items)
