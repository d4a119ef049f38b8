-- Lists of keys with bytes, as the code has them and as maps are.
use Rattle.std.proofs.Common.{◌≡◌, ℕ, List, [], ◌∷◌, Bool, true, false, cond, not, ◌&&◌, map, Option, Some, None, Vec, Global, Ordering, refl, sym, ap, ◌∙◌}
use Rattle.std.specs.FinMap.Entries.{by_order, find, put, where_key, is_sorted, below_all}
use Rattle.std.specs.BTreeMap.{insert_entry}
use Rattle.std.specs.Map.{lookup, remove_entry}
use Rattle.std.specs.Option.{option_map}
use Rattle.std.specs.Ordering.{is_eq, is_lt, match_ordering, eq_by_cmp}
use Rattle.std.specs.Prelude.{T, is_some}
use Rattle.std.specs.List.{AllZip}
use Rattle.std.specs.Cmp.Lexicographic.{nat_list_cmp_total}
use Rattle.std.specs.declared.cmp.Ordering.TheVariants.{Less, Equal, Greater}
use Rattle.hamt_map.specs.Pairs.{key_cmp}

pub is_some-map : {A B : Type 0} (f : A → B) (o : Option A) → is_some (option_map f o) ≡ is_some o
is_some-map f None = refl
is_some-map f (Some x) = refl

module _ {K X Y : Type 0} (key : K → List ℕ) (bytes : X → Y) where
  abbrev pub shown : List (K × X) → List (List ℕ × Y)
  shown es = map (λ e. (key e.0, bytes e.1)) es

  pub shown-insert_entry : (es : List (K × X)) (k : K) (v : X) → shown (insert_entry (λ a b. key_cmp (key a) (key b)) es k v) ≡ put key_cmp (key k) (bytes v) (shown es)
  shown-insert_entry [] k v = refl
  shown-insert_entry (e ∷ es) k v = by (key_cmp (key k) (key e.0)) (shown-insert_entry es k v) where
    rest : List (K × X)
    rest = insert_entry (λ a b. key_cmp (key a) (key b)) es k v

    by : (o : Ordering) → shown rest ≡ put key_cmp (key k) (bytes v) (shown es) → shown (match_ordering o ((k, v) ∷ e ∷ es) ((e.0, v) ∷ es) (e ∷ rest)) ≡ by_order o ((key k, bytes v) ∷ shown (e ∷ es)) ((key e.0, bytes v) ∷ shown es) ((key e.0, bytes e.1) ∷ put key_cmp (key k) (bytes v) (shown es))
    by Less same = refl
    by Equal same = refl
    by Greater same = ap (λ t. (key e.0, bytes e.1) ∷ t) same

  pub find-shown : (q : List ℕ) (es : List (K × X)) → find key_cmp q (shown es) ≡ option_map bytes (lookup (λ a. is_eq (key_cmp q (key a))) es)
  find-shown q [] = refl
  find-shown q (e ∷ es) = by (is_eq (key_cmp q (key e.0))) (find-shown q es) where
    rest : Option X
    rest = lookup (λ a. is_eq (key_cmp q (key a))) es

    by : (b : Bool) → find key_cmp q (shown es) ≡ option_map bytes rest → cond b (Some (bytes e.1)) (find key_cmp q (shown es)) ≡ option_map bytes (cond b (Some e.1) rest)
    by true same = refl
    by false same = same

  pub shown-remove_entry : (q : List ℕ) (es : List (K × X)) → shown (remove_entry (λ a. is_eq (key_cmp q (key a))) es) ≡ remove_entry (λ a. is_eq (key_cmp q a)) (shown es)
  shown-remove_entry q [] = refl
  shown-remove_entry q (e ∷ es) = by (is_eq (key_cmp q (key e.0))) (shown-remove_entry q es) where
    rest : List (K × X)
    rest = remove_entry (λ a. is_eq (key_cmp q (key a))) es

    left : List (List ℕ × Y)
    left = remove_entry (λ a. is_eq (key_cmp q a)) (shown es)

    by : (b : Bool) → shown rest ≡ left → shown (cond b es (e ∷ rest)) ≡ cond b (shown es) ((key e.0, bytes e.1) ∷ left)
    by true same = refl
    by false same = ap (λ t. (key e.0, bytes e.1) ∷ t) same

  -- clones that show the same
  pub shown-clone : (R : K × X → K × X → Type 0) → ((p r : K × X) → R p r → (key r.0 ≡ key p.0) × (bytes r.1 ≡ bytes p.1)) → (es fs : List (K × X)) → AllZip R es fs → shown fs ≡ shown es
  shown-clone R same [] [] zip = refl
  shown-clone R same [] (f ∷ fs) zip = absurd zip
  shown-clone R same (e ∷ es) [] zip = absurd zip
  shown-clone R same (e ∷ es) (f ∷ fs) zip =
      let here = same e f zip.0 in
      let rest = shown-clone R same es fs zip.1 in
      λ i. (here.0 i, here.1 i) ∷ rest i

pub both_first : (a b : Bool) → T (a && b) → T a
both_first true b h = tt
both_first false b h = h

pub both_second : (a b : Bool) → T (a && b) → T b
both_second true b h = h
both_second false b h = absurd h

pub less_from : (o : Ordering) → T (is_lt o) → o ≡ Less
less_from Less h = refl
less_from Equal h = absurd h
less_from Greater h = absurd h

-- the rest of a list in order has no key that ties with its first
none_behind : {X : Type 0} (q x : List ℕ) (es : List (List ℕ × X)) → key_cmp q x ≡ Equal → T (below_all key_cmp x es) → where_key key_cmp (λ a. not (eq_by_cmp key_cmp q a)) es ≡ es
none_behind q x [] tied below = refl
none_behind q x (e ∷ es) tied below =
    let less : key_cmp q e.0 ≡ Less = nat_list_cmp_total.congr q x e.0 tied ∙ less_from (key_cmp x e.0) (both_first _ _ below) in
    ap (λ (o : Ordering). cond (not (is_eq o)) (e ∷ where_key key_cmp (λ a. not (eq_by_cmp key_cmp q a)) es) (where_key key_cmp (λ a. not (eq_by_cmp key_cmp q a)) es)) less
    ∙ ap (λ t. e ∷ t) (none_behind q x es tied (both_second (is_lt (key_cmp x e.0)) _ below))

-- in a list in order, the first entry at a key is the only one
pub remove_entry-sorted : {X : Type 0} (q : List ℕ) (es : List (List ℕ × X)) → T (is_sorted key_cmp es) → remove_entry (λ a. is_eq (key_cmp q a)) es ≡ where_key key_cmp (λ a. not (eq_by_cmp key_cmp q a)) es
remove_entry-sorted q [] sorted = refl
remove_entry-sorted {X} q (e ∷ es) sorted = by (key_cmp q e.0) refl (remove_entry-sorted q es (both_second (below_all key_cmp e.0 es) _ sorted)) where
  left : List (List ℕ × X)
  left = where_key key_cmp (λ a. not (eq_by_cmp key_cmp q a)) es

  rest : List (List ℕ × X)
  rest = remove_entry (λ a. is_eq (key_cmp q a)) es

  by : (o : Ordering) → key_cmp q e.0 ≡ o → rest ≡ left → cond (is_eq o) es (e ∷ rest) ≡ cond (not (is_eq o)) (e ∷ left) left
  by Less is same = ap (λ t. e ∷ t) same
  by Equal is same = sym (none_behind q e.0 es is (both_first _ _ sorted))
  by Greater is same = ap (λ t. e ∷ t) same

-- ---- the entries of the code's map

abbrev pub Entries : Type 0
Entries = List (Vec ℕ Global × Vec ℕ Global)

-- what they show
abbrev pub view : Entries → List (List ℕ × List ℕ)
view es = map (λ e. (e.0.items, e.1.items)) es

pub view-insert_entry : (es : Entries) (k v : Vec ℕ Global) → view (insert_entry (λ a b. key_cmp a.items b.items) es k v) ≡ put key_cmp k.items v.items (view es)
view-insert_entry = shown-insert_entry (λ k. k.items) (λ v. v.items)

pub view-remove_entry : (q : List ℕ) (es : Entries) → view (remove_entry (λ a. is_eq (key_cmp q a.items)) es) ≡ remove_entry (λ a. is_eq (key_cmp q a)) (view es)
view-remove_entry = shown-remove_entry (λ k. k.items) (λ v. v.items)

pub find-view : (q : List ℕ) (es : Entries) (pairs : List (List ℕ × List ℕ)) (found : Option (Vec ℕ Global)) → view es ≡ pairs → found ≡ lookup (λ a. is_eq (key_cmp q a.items)) es → find key_cmp q pairs ≡ option_map (λ v. v.items) found
find-view q es pairs found shows is = ap (find key_cmp q) (sym shows) ∙ find-shown (λ k. k.items) (λ v. v.items) q es ∙ ap (option_map (λ v. v.items)) (sym is)

pub view-clone : (S : Vec ℕ Global → Vec ℕ Global → Type 0) → ((v w : Vec ℕ Global) → S v w → w.items ≡ v.items) → (es fs : Entries) → AllZip (λ p r. S p.0 r.0 × S p.1 r.1) es fs → view fs ≡ view es
view-clone S same = shown-clone (λ k. k.items) (λ v. v.items) _ (λ p r zip. (same p.0 r.0 zip.0, same p.1 r.1 zip.1))
