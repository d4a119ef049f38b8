-- Pairs that lie over those of another map.
use Rattle.std.proofs.Common.{◌≡◌, ℕ, List, [], ◌∷◌, ◌++◌, Bool, true, false, cond, Option, Some, None, refl, sym, ap, subst, ◌∙◌}
use Rattle.std.proofs.lemmas.List.{map-append}
use Rattle.std.proofs.lemmas.List.Elements.{All-append}
use Rattle.std.specs.Prelude.{IfOk, OnErr, OnOk}
use Rattle.std.specs.Cmp.Lexicographic.{nat_list_cmp_total}
use Rattle.std.specs.FinMap as finmap
use Rattle.std.specs.FinMap.{empty, entries, get, insert, remove}
use Rattle.std.specs.Ordering.{eq_by_cmp}
use Rattle.std.specs.declared.result.Result.{Result}
use Rattle.std.specs.declared.result.Result.TheVariants.{Ok, Err}
use Rattle.fil_base.specs.CidParts.{CidParts}
use Rattle.cid_core.specs.BlockParts.{BlockParts}
use Rattle.dag_cbor.specs.Plain.{IsPlain}
use Rattle.dag_cbor.specs.Spelling.{spelled}
use Rattle.dag_cbor.specs.declared.value.Value.{Value}
use Rattle.tree_blocks.specs.declared.fault.TreeFault.{TreeFault}
use Rattle.hamt_map.specs.Kept.{IsKept, IsUnder, over}
use Rattle.hamt_map.specs.Pairs.{Map, Pairs, key_cmp}
use Rattle.hamt_map.proofs.Held.{key_cmp_same, one_map, tied_from}
use Rattle.hamt_map.specs.Canonical.{ArePut, map_of}
use Rattle.hamt_map.specs.Holds.{FitNodes, Holds, spellings}
use Rattle.hamt_map.proofs.MapParts.{both_maps, entries_again}
use Rattle.hamt_map.proofs.Merging.{or_else, find_both}

-- what is above counts
pub get-over : (own kept : Map) (q : List ℕ) → get (over own kept) q ≡ or_else (get own q) (get kept q)
get-over own kept q =
    finmap.get-from_entries nat_list_cmp_total (entries own ++ entries kept) q ∙ find_both q (entries own) (entries kept)
    ∙ (λ i. or_else (sym (finmap.get-entries own q) i) (sym (finmap.get-entries kept q) i))

pub found_above : (own kept : Map) (q : List ℕ) (x : Value) → get own q ≡ Some x → get (over own kept) q ≡ Some x
unfolding or_else
found_above own kept q x is = get-over own kept q ∙ ap (λ o. or_else o (get kept q)) is

pub none_above : (own kept : Map) (q : List ℕ) → get own q ≡ None → get (over own kept) q ≡ get kept q
unfolding or_else
none_above own kept q is = get-over own kept q ∙ ap (λ o. or_else o (get kept q)) is

-- nothing below
pub over_none : (own kept : Map) → kept ≡ empty → over own kept ≡ own
unfolding or_else
over_none own kept none = finmap.same_map nat_list_cmp_total key_cmp_same (over own kept) own (λ q.
    get-over own kept q ∙ ap (λ (m : Map). or_else (get own q) (get m q)) none ∙ ap (or_else (get own q)) (finmap.get-empty key_cmp q) ∙ else_none (get own q)) where
      else_none : (o : Option Value) → or_else o None ≡ o
      else_none None = refl
      else_none (Some x) = refl

else_at : (b : Bool) (x : Value) (o p : Option Value) → cond b (Some x) (or_else o p) ≡ or_else (cond b (Some x) o) p
unfolding or_else
else_at true x o p = refl
else_at false x o p = refl

-- a value that is set above
pub over_insert : (own kept : Map) (k : List ℕ) (x : Value) → insert (over own kept) k x ≡ over (insert own k x) kept
over_insert own kept k x = finmap.same_map nat_list_cmp_total key_cmp_same (insert (over own kept) k x) (over (insert own k x) kept) (λ q.
    finmap.get-insert nat_list_cmp_total (over own kept) k x q ∙ ap (cond (eq_by_cmp key_cmp q k) (Some x)) (get-over own kept q)
    ∙ else_at (eq_by_cmp key_cmp q k) x (get own q) (get kept q)
    ∙ ap (λ o. or_else o (get kept q)) (sym (finmap.get-insert nat_list_cmp_total own k x q))
    ∙ sym (get-over (insert own k x) kept q))

-- a key that is not there is taken away
pub remove_absent : (m : Map) (k : List ℕ) → get m k ≡ None → remove m k ≡ m
remove_absent m k absent = finmap.same_map nat_list_cmp_total key_cmp_same (remove m k) m (λ q.
    finmap.get-remove nat_list_cmp_total m k q ∙ by q (eq_by_cmp key_cmp q k) refl) where
      by : (q : List ℕ) (b : Bool) → b ≡ eq_by_cmp key_cmp q k → cond b None (get m q) ≡ get m q
      by q true tied = sym absent ∙ ap (get m) (sym (key_cmp_same q k (tied_from _ (sym tied))))
      by q false tied = refl

-- ---- what is under a root

map_or : Map → Result Map TreeFault → Map
map_or d (Ok m) = m
map_or d (Err fault) = d

pub under_one : (held : List BlockParts) (root : Option CidParts) (k l : Map) → IsUnder held root k → IsUnder held root l → k ≡ l
unfolding map_or
under_one held None k l is-k is-l = is-k ∙ sym is-l
under_one held (Some root) k l is-k is-l = ap (map_or k) (sym is-k.walk ∙ is-l.walk)

-- pairs over those of a tree are those of one map at most
pub over_one : (held : List BlockParts) (root : Option CidParts) (pairs : List (List ℕ × List ℕ)) (own kept own' kept' m n : Map)
    → Holds pairs own → IsUnder held root kept → m ≡ over own kept → Holds pairs own' → IsUnder held root kept' → n ≡ over own' kept' → m ≡ n
over_one held root pairs own kept own' kept' m n holds under is holds' under' is' =
    is ∙ (λ i. over (one_map pairs own own' holds holds' i) (under_one held root kept kept' under under' i)) ∙ sym is'

-- ---- what a tree stands for

-- its own pairs have a value
pub got_above : (own kept m : Map) (q : List ℕ) (o : Option Value) (x : Value) → m ≡ over own kept → o ≡ get own q → o ≡ Some x → Some x ≡ get m q
got_above own kept m q o x is got some =
    sym (found_above own kept q x (sym got ∙ some)) ∙ ap (λ (n : Map). get n q) (sym is)

-- they have none
pub got_under : (own kept m : Map) (q : List ℕ) (o under : Option Value) → m ≡ over own kept → o ≡ get own q → o ≡ None → under ≡ get kept q → under ≡ get m q
got_under own kept m q o under is got none below =
    below ∙ sym (none_above own kept q (sym got ∙ none)) ∙ ap (λ (n : Map). get n q) (sym is)

-- there is no tree under them
pub alone : (own kept m : Map) (root : Option CidParts) (held : List BlockParts) → root ≡ None → IsUnder held root kept → m ≡ over own kept → m ≡ own
alone own kept m None held none under is = is ∙ over_none own kept under
alone own kept m (Some root) held none under is = absurd (cc none)

-- nothing is found where there are no pairs
pub none_got : (kept : Map) (q : List ℕ) (root : Option CidParts) (held : List BlockParts) → root ≡ None → IsUnder held root kept → None ≡ get kept q
none_got kept q None held none under = sym (ap (λ (m : Map). get m q) under ∙ finmap.get-empty key_cmp q)
none_got kept q (Some root) held none under = absurd (cc none)

pub kept_of : (kept : Map) (root : Option CidParts) (cid : CidParts) (held : List BlockParts) → root ≡ Some cid → IsUnder held root kept → IsKept held cid kept
kept_of kept None cid held is under = absurd (cc is)
kept_of kept (Some root) cid held is under = subst (λ (c : CidParts). IsKept held c kept) (cc is) under

-- the pairs of the map are its own and those of the tree
pub none_over : (m : Map) → m ≡ over empty m
unfolding or_else
none_over m = finmap.same_map nat_list_cmp_total key_cmp_same m (over empty m) (λ q.
    sym (get-over empty m q ∙ ap (λ o. or_else o (get m q)) (finmap.get-empty key_cmp q)))

pub whole_held : (own kept : Map) (walked : Result Map TreeFault) (before leaves : List (List ℕ × List ℕ)) → Holds before own → walked ≡ Ok kept → ArePut walked before leaves
    → (pairs : Pairs) × (leaves ≡ spellings pairs) × FitNodes pairs × (map_of pairs ≡ over own kept)
unfolding map_or
whole_held own kept walked before leaves holds walk put =
    let same : map_of put.pairs ≡ kept = ap (map_or kept) (sym put.walk ∙ walk) in (
      entries own ++ put.pairs,
      put.put ∙ ap (λ ss. ss ++ spellings put.pairs) holds.same ∙ sym (map-append (λ (p : List ℕ × Value). (p.0, spelled p.1)) (entries own) put.pairs),
      All-append (λ p. IsPlain 124 p.1) (entries own) put.pairs holds.fit put.fit,
      both_maps (entries own) put.pairs (entries own) (entries kept) refl (same ∙ sym (entries_again kept)),
    )

-- ---- what holds of a result

pub if_ok_more : {A E : Type 0} {P Q : A → Type 0} (r : Result A E) → ((x : A) → P x → Q x) → IfOk r P → IfOk r Q
if_ok_more (Ok x) f p = f x p
if_ok_more (Err e) f p = tt

pub on_ok_more : {A E : Type 0} {P Q : Type 0} (r : Result A E) → (P → Q) → OnOk r P → OnOk r Q
on_ok_more (Ok x) f p = f p
on_ok_more (Err e) f p = tt

pub on_err_more : {A E : Type 0} {P Q : Type 0} (r : Result A E) → (P → Q) → OnErr r P → OnErr r Q
on_err_more (Ok x) f p = tt
on_err_more (Err e) f p = f p

pub on_err_any : {A E : Type 0} {P : Type 0} (r : Result A E) → P → OnErr r P
on_err_any (Ok x) p = tt
on_err_any (Err e) p = p
