-- Whether all children of a node have pairs.
use Rattle.std.proofs.Common.{◌≡◌, ℕ, zero, suc, ◌+◌, ◌-◌, ◌*◌, ◌^◌, ◌<◌, ◌&&◌, Bool, true, get_or, List, [], ◌∷◌, ◌++◌, length, nat_lt, Some, Result, Ok, Err, IfOk, IsTrue, All, refl, sym, ap, subst, ◌∙◌, arith, append_assoc, append-nil, length-append}
use Rattle.std.proofs.lemmas.Bool.{ltb-true}
use Rattle.std.proofs.lemmas.List.{length-map}
use Rattle.std.proofs.lemmas.List.Elements.{All-nil, All-push}
use Rattle.fil_base.specs.CidParts.{CidParts}
use Rattle.cid_core.specs.BlockParts.{BlockParts}
use Rattle.dag_cbor.specs.Spelling.{spelled}
use Rattle.dag_cbor.specs.declared.value.Value.{Value}
use Rattle.tree_blocks.specs.Forms.{if_some}
use Rattle.tree_blocks.specs.declared.fault.TreeFault.{TreeFault}
use Rattle.amt_map.specs.Holds.{spellings}
use Rattle.amt_map.specs.Loading.{ArePut, HasPairs, IsNodeOf, child_pairs}
use Rattle.amt_map.specs.Pairs.{Pairs}
use Rattle.amt_map.specs.Walk.{inner_of, inner_pairs, leaf_of, leaf_pairs, node_pairs, parts_in}
use Rattle.amt_map.proofs.CanonicalNode.{inner_is_node}
use Rattle.amt_map.proofs.Within.{first, second}

-- the first links were walked, and if the node is full so far, the children under them have pairs
pub record FullSoFar (child : ℕ → CidParts → Result Pairs TreeFault) (apart from : ℕ) (links left : List (ℕ × CidParts)) (full : Bool) : Type 0 where
  pub front : List (ℕ × CidParts)
  pub split : links ≡ front ++ left
  pub some : IsTrue full → All (λ link. HasPairs (child (from + link.0 * apart) link.1)) front

pub full_begin : (child : ℕ → CidParts → Result Pairs TreeFault) (apart from : ℕ) (links left : List (ℕ × CidParts)) (full : Bool) → left ≡ links → FullSoFar child apart from links left full
full_begin child apart from links left full all = record { front = []; split = sym all; some = λ full_is. All-nil (λ link. HasPairs (child (from + link.0 * apart) link.1)) }

-- more pairs than before
more_pairs : (now after : List (ℕ × List ℕ)) (pairs : Pairs) → after ≡ now ++ spellings pairs → length now < length after → 0 < length pairs
more_pairs now after pairs is more =
    let both : length after ≡ length now + length (spellings pairs) = ap length is ∙ length-append now (spellings pairs) in
    let same : length (spellings pairs) ≡ length pairs = length-map {B = ℕ × List ℕ} pairs (λ p. (p.0, spelled p.1)) in
    omega (arith, more, both, same)

pub full_more : (child : ℕ → CidParts → Result Pairs TreeFault) (apart from : ℕ) (links before left : List (ℕ × CidParts)) (link : ℕ × CidParts) (at : ℕ) (now after : List (ℕ × List ℕ)) (full next : Bool) (count count_after : ℕ)
    → before ≡ link ∷ left → at ≡ from + link.0 * apart → ArePut (child at link.1) now after → count ≡ length now → count_after ≡ length after → next ≡ (full && nat_lt count count_after)
    → FullSoFar child apart from links before full → FullSoFar child apart from links left next
full_more child apart from links before left link at now after full next count count_after begins is put count_is after_is passed so_far = record {
  front = so_far.front ++ link ∷ [];
  split = so_far.split ∙ ap (λ (ls : List (ℕ × CidParts)). so_far.front ++ ls) begins ∙ sym (append_assoc so_far.front (link ∷ []) left);
  some = λ so.
      let both : (full && nat_lt count count_after) ≡ true = sym passed ∙ so in
      let more : count < count_after = ltb-true count count_after (second full (nat_lt count count_after) both) in
      let has : HasPairs (child (from + link.0 * apart) link.1) = record { pairs = put.pairs; walk = ap (λ (n : ℕ). child n link.1) (sym is) ∙ put.walk; some = more_pairs now after put.pairs put.same (omega (arith, more, count_is, after_is)) } in
      All-push (λ l. HasPairs (child (from + l.0 * apart) l.1)) so_far.front link (so_far.some (first full (nat_lt count count_after) both)) has;
}

pub full_end : (child : ℕ → CidParts → Result Pairs TreeFault) (apart from : ℕ) (links left : List (ℕ × CidParts)) (full : Bool) → left ≡ [] → FullSoFar child apart from links left full → IsTrue full
    → All (λ link. HasPairs (child (from + link.0 * apart) link.1)) links
full_end child apart from links left full none so_far so =
    let whole : so_far.front ≡ links = sym (so_far.split ∙ ap (λ (ls : List (ℕ × CidParts)). so_far.front ++ ls) none ∙ append-nil so_far.front) in
    subst (All (λ link. HasPairs (child (from + link.0 * apart) link.1))) whole (so_far.some so)

-- ---- a node at a height

pub full_at_zero : {E : Type 0} (blocks : List BlockParts) (height : ℕ) (cid : CidParts) (from : ℕ) (x : Value) (r : Result Bool E) → height ≡ 0 → IfOk r (λ full. IsTrue full → IsNodeOf 0 x (leaf_pairs cid from (if_some (parts_in x) leaf_of)))
    → IfOk r (λ full. IsTrue full → IsNodeOf height x (node_pairs blocks height cid from x))
unfolding node_pairs
full_at_zero blocks zero cid from x r none h = h
full_at_zero blocks (suc height) cid from x r none h = absurd (omega (arith, none))

pub full_above : {E : Type 0} (blocks : List BlockParts) (height : ℕ) (cid : CidParts) (from : ℕ) (x : Value) (r : Result Bool E) → (height ≡ 0 → ⊥)
    → IfOk r (λ full. IsTrue full → IsNodeOf (suc (height - 1)) x (inner_pairs (child_pairs blocks (height - 1)) (8 ^ suc (height - 1)) cid from (if_some (parts_in x) inner_of)))
    → IfOk r (λ full. IsTrue full → IsNodeOf height x (node_pairs blocks height cid from x))
unfolding node_pairs
full_above blocks zero cid from x r some h = absurd (some refl)
full_above blocks (suc height) cid from x r some h =
    let same : suc height - 1 ≡ height = omega arith in
    subst (λ (k : ℕ). IfOk r (λ full. IsTrue full → IsNodeOf (suc k) x (inner_pairs (child_pairs blocks k) (8 ^ suc k) cid from (if_some (parts_in x) inner_of)))) same h

pub full_inner : {E : Type 0} (blocks : List BlockParts) (height : ℕ) (bytes : List ℕ) (x : Value) (cid : CidParts) (place from : ℕ) (links : List (ℕ × CidParts)) (r : Result Bool E) → from ≡ place * 8 ^ suc (suc height) → ((i : ℕ) → get_or bytes i 0 < 256) → bytes ≡ spelled x
    → Some links ≡ if_some (parts_in x) inner_of → IfOk r (λ full. IsTrue full → All (λ link. HasPairs (child_pairs blocks height (from + link.0 * 8 ^ suc height) link.1)) links)
    → IfOk r (λ full. IsTrue full → IsNodeOf (suc height) x (inner_pairs (child_pairs blocks height) (8 ^ suc height) cid from (if_some (parts_in x) inner_of)))
full_inner blocks height bytes x cid place from links (Ok full) is fits spells read some = λ so pairs e. inner_is_node blocks height bytes x cid place from links pairs is fits spells read (some so) e
full_inner blocks height bytes x cid place from links (Err failure) is fits spells read some = tt
