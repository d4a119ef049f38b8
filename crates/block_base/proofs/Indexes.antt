-- Entries in order.
use Rattle.std.proofs.Common.{◌≡◌, ℕ, ◌+◌, ◌<◌, ◌≤◌, Bool, List, false, true, length, get_or, inl, inr, refl, sym, ap, ◌∙◌, arith, Some, None, nat_lt}
use Rattle.std.proofs.lemmas.Bool.{cases_lt}
use Rattle.std.proofs.lemmas.Bool.Decides.{nat_tests}
use Rattle.std.proofs.lemmas.List.{get_or_default}
use Rattle.std.proofs.lemmas.List.Sorted.{ranks_by, searchable_from_sorted, sorted_far}
use Rattle.std.specs.Ordering.{is_lt, ordering_index}
use Rattle.std.specs.declared.cmp.Ordering.{Ordering}
use Rattle.std.specs.declared.cmp.Ordering.TheVariants.{Less, Equal, Greater}
use Rattle.cid_core.specs.BlockParts.{BlockParts, found}
use Rattle.fil_base.specs.CidEquality.{same_parts}
use Rattle.fil_base.specs.CidParts.{CidParts}
use Rattle.block_base.specs.Index.{IsIndex, block_at, cid_at, is_before, no_block, rank_of}
use Rattle.block_base.specs.Order.{rank_cmp}
use Rattle.block_base.specs.declared.index.Entry.{Entry}
use Rattle.block_base.proofs.Found.{found_first, found_none, other_parts, same_cid}
use Rattle.block_base.proofs.Ranks.{not_before, rank_total, squeeze}

less_upto : (p q : Ordering) → ordering_index p ≤ ordering_index q → is_lt q ≡ true → is_lt p ≡ true
less_upto Less q upto less = refl
less_upto Equal Less upto less = absurd (omega arith)
less_upto Equal Equal upto less = less
less_upto Equal Greater upto less = less
less_upto Greater Less upto less = absurd (omega arith)
less_upto Greater Equal upto less = less
less_upto Greater Greater upto less = less

-- along the entries the answers fall from true to false
before_step : (blocks : List BlockParts) (entries : List Entry) (rank : CidParts × ℕ) → IsIndex blocks entries → (i j : ℕ) (d : Entry) → i ≤ j → j < length entries → is_before blocks (get_or entries j d) rank ≡ true → is_before blocks (get_or entries i d) rank ≡ true
before_step blocks entries rank index i j d upto within before =
    less_upto (rank_cmp (rank_of blocks (get_or entries i d)) rank) (rank_cmp (rank_of blocks (get_or entries j d)) rank) (searchable_from_sorted rank_total (rank_of blocks) entries rank index.ordered i j d upto within) before

behind_step : (blocks : List BlockParts) (entries : List Entry) (rank : CidParts × ℕ) → IsIndex blocks entries → (i j : ℕ) (d : Entry) → i ≤ j → j < length entries → is_before blocks (get_or entries i d) rank ≡ false → is_before blocks (get_or entries j d) rank ≡ false
behind_step blocks entries rank index i j d upto within behind =
    by (is_before blocks (get_or entries j d) rank) refl
  where
    by : (t : Bool) → is_before blocks (get_or entries j d) rank ≡ t → t ≡ false
    by true is = sym (before_step blocks entries rank index i j d upto within is) ∙ behind
    by false is = refl

pub before_upto : (blocks : List BlockParts) (entries : List Entry) (rank : CidParts × ℕ) (middle : ℕ) (e : Entry) → IsIndex blocks entries → middle < length entries → is_before blocks (get_or entries middle e) rank ≡ true → (k : ℕ) (d : Entry) → k < middle + 1 → is_before blocks (get_or entries k d) rank ≡ true
before_upto blocks entries rank middle e index within before k d below =
    before_step blocks entries rank index k middle d (omega arith) within (ap (λ x. is_before blocks x rank) (get_or_default entries middle d e within) ∙ before)

pub behind_from : (blocks : List BlockParts) (entries : List Entry) (rank : CidParts × ℕ) (middle : ℕ) (e : Entry) → IsIndex blocks entries → is_before blocks (get_or entries middle e) rank ≡ false → (k : ℕ) (d : Entry) → middle ≤ k → k < length entries → is_before blocks (get_or entries k d) rank ≡ false
behind_from blocks entries rank middle e index behind k d from within =
    behind_step blocks entries rank index middle k d from within (ap (λ x. is_before blocks x rank) (get_or_default entries middle d e (omega arith)) ∙ behind)

-- where the entries of a CID begin, if it has some
pub record Split (blocks : List BlockParts) (entries : List Entry) (cid : CidParts) (first : ℕ) : Type 0 where
  pub index : IsIndex blocks entries
  pub before : (k : ℕ) (d : Entry) → k < first → is_before blocks (get_or entries k d) (cid, 0) ≡ true
  pub behind : (k : ℕ) (d : Entry) → first ≤ k → k < length entries → is_before blocks (get_or entries k d) (cid, 0) ≡ false

true_is : true ≡ false → ⊥
true_is same = cc

-- a block under the CID has its entry at that place or behind it
record Behind (blocks : List BlockParts) (entries : List Entry) (cid : CidParts) (first k : ℕ) : Type 0 where
  within : first < length entries
  same : (d : Entry) → cid_at blocks (get_or entries first d).place ≡ cid
  upto : (d : Entry) → (get_or entries first d).place ≤ k

entry_behind : (blocks : List BlockParts) (entries : List Entry) (cid : CidParts) (first k : ℕ) → Split blocks entries cid first → k < length blocks → cid_at blocks k ≡ cid → Behind blocks entries cid first k
entry_behind blocks entries cid first k split within is =
    let at = split.index.every k within in
    let rank : (d : Entry) → rank_of blocks (get_or entries at.0 d) ≡ (cid, k) = λ d i. ((ap (cid_at blocks) (at.2 d) ∙ is) i, at.2 d i) in
    let from : (d : Entry) → first ≤ at.0 = λ d. elim (cases_lt at.0 first) [
      | inl below ↦ absurd (true_is (sym (split.before at.0 d below) ∙ (ap (λ r. is_lt (rank_cmp r (cid, 0))) (rank d) ∙ not_before cid k)))
      | inr above ↦ above
    ] in
    let none : Entry = record { key = 0; place = 0 } in
    let here : (d : Entry) → (cid_at blocks (get_or entries first d).place ≡ cid) × ((get_or entries first d).place ≤ k) = λ d.
    let order = sorted_far (λ a b. is_before blocks a (rank_of blocks b)) (ranks_by rank_total (rank_of blocks)) entries split.index.ordered first at.0 d (from none) at.1 in
    squeeze (cid_at blocks (get_or entries first d).place) cid (get_or entries first d).place k (split.behind first d (omega arith) (omega (arith, from none, at.1))) (sym (ap (λ r. is_lt (rank_cmp r (rank_of blocks (get_or entries first d)))) (rank d)) ∙ order) in
    record { within = omega (arith, from none, at.1); same = λ d. (here d).0; upto = λ d. (here d).1 }

not_within : (n m : ℕ) → false ≡ nat_lt n m → m ≤ n
not_within n m not = grind (arith, nat_tests)

pub finds_none_at_end : (blocks : List BlockParts) (entries : List Entry) (cid : CidParts) (first : ℕ) → Split blocks entries cid first → false ≡ nat_lt first (length entries) → None ≡ found blocks cid
finds_none_at_end blocks entries cid first split end =
    sym (found_none blocks cid no_block (λ k within is. omega (arith, not_within first (length entries) end, (entry_behind blocks entries cid first k split within is).within)))

-- the entry there, and its block
pub record Met (blocks : List BlockParts) (entries : List Entry) (first : ℕ) (e : Entry) (b : BlockParts) : Type 0 where
  pub within : first < length entries
  pub entry : e ≡ get_or entries first e
  pub block : b ≡ get_or blocks e.place b

met_block : (blocks : List BlockParts) (entries : List Entry) (cid : CidParts) (first : ℕ) (e : Entry) (b : BlockParts) → Split blocks entries cid first → Met blocks entries first e b → block_at blocks (get_or entries first e).place ≡ b
met_block blocks entries cid first e b split met =
    let is = split.index.places first e met.within in
    get_or_default blocks (get_or entries first e).place no_block b is.within ∙ (ap (λ x. get_or blocks x.place b) (sym met.entry) ∙ sym met.block)

pub finds_none_at_other : (blocks : List BlockParts) (entries : List Entry) (cid : CidParts) (first : ℕ) (e : Entry) (b : BlockParts) → Split blocks entries cid first → Met blocks entries first e b → false ≡ same_parts b.cid cid → None ≡ found blocks cid
finds_none_at_other blocks entries cid first e b split met other =
    sym (found_none blocks cid no_block (λ k within is. other_parts b.cid cid other (ap (λ x. x.cid) (sym (met_block blocks entries cid first e b split met)) ∙ (entry_behind blocks entries cid first k split within is).same e)))

pub finds_first : (blocks : List BlockParts) (entries : List Entry) (cid : CidParts) (first : ℕ) (e : Entry) (b : BlockParts) → Split blocks entries cid first → Met blocks entries first e b → true ≡ same_parts b.cid cid → Some b ≡ found blocks cid
finds_first blocks entries cid first e b split met same =
    let there = met_block blocks entries cid first e b split met in
    let is = split.index.places first e met.within in
    ap Some (sym there) ∙ sym (found_first blocks cid (get_or entries first e).place no_block is.within (ap (λ x. x.cid) there ∙ same_cid b.cid cid (sym same)) (λ k below is_k. omega (arith, is.within, (entry_behind blocks entries cid first k split (omega (arith, is.within)) is_k).upto e)))
