-- Lists of indexes with bytes, as the code has them and as maps are.
use Rattle.std.proofs.Common.{◌≡◌, ℕ, List, [], ◌∷◌, Bool, true, false, cond, not, ◌&&◌, map, Option, Some, None, Vec, Global, Ordering, refl, sym, ap, ◌∙◌}
use Rattle.std.specs.FinMap.Entries.{by_order, find, put, where_key, is_sorted, below_all}
use Rattle.std.specs.BTreeMap.{insert_entry}
use Rattle.std.specs.Map.{lookup, remove_entry}
use Rattle.std.specs.Option.{option_map}
use Rattle.std.specs.Ordering.{is_eq, is_lt, match_ordering, eq_by_cmp, nat_cmp}
use Rattle.std.specs.Prelude.{T, is_some}
use Rattle.std.specs.List.{AllZip}
use Rattle.std.specs.Cmp.{nat_cmp_total}
use Rattle.std.specs.declared.cmp.Ordering.TheVariants.{Less, Equal, Greater}

pub is_some-map : {A B : Type 0} (f : A → B) (o : Option A) → is_some (option_map f o) ≡ is_some o
is_some-map f None = refl
is_some-map f (Some x) = refl

module _ {X Y : Type 0} (bytes : X → Y) where
  abbrev pub shown : List (ℕ × X) → List (ℕ × Y)
  shown es = map (λ e. (e.0, bytes e.1)) es

  pub shown-insert_entry : (es : List (ℕ × X)) (k : ℕ) (v : X) → shown (insert_entry nat_cmp es k v) ≡ put nat_cmp k (bytes v) (shown es)
  shown-insert_entry [] k v = refl
  shown-insert_entry (e ∷ es) k v = by (nat_cmp k e.0) (shown-insert_entry es k v) where
    rest : List (ℕ × X)
    rest = insert_entry nat_cmp es k v

    by : (o : Ordering) → shown rest ≡ put nat_cmp k (bytes v) (shown es) → shown (match_ordering o ((k, v) ∷ e ∷ es) ((e.0, v) ∷ es) (e ∷ rest)) ≡ by_order o ((k, bytes v) ∷ shown (e ∷ es)) ((e.0, bytes v) ∷ shown es) ((e.0, bytes e.1) ∷ put nat_cmp k (bytes v) (shown es))
    by Less same = refl
    by Equal same = refl
    by Greater same = ap (λ t. (e.0, bytes e.1) ∷ t) same

  pub find-shown : (q : ℕ) (es : List (ℕ × X)) → find nat_cmp q (shown es) ≡ option_map bytes (lookup (λ a. is_eq (nat_cmp q a)) es)
  find-shown q [] = refl
  find-shown q (e ∷ es) = by (is_eq (nat_cmp q e.0)) (find-shown q es) where
    rest : Option X
    rest = lookup (λ a. is_eq (nat_cmp q a)) es

    by : (b : Bool) → find nat_cmp q (shown es) ≡ option_map bytes rest → cond b (Some (bytes e.1)) (find nat_cmp q (shown es)) ≡ option_map bytes (cond b (Some e.1) rest)
    by true same = refl
    by false same = same

  pub shown-remove_entry : (q : ℕ) (es : List (ℕ × X)) → shown (remove_entry (λ a. is_eq (nat_cmp q a)) es) ≡ remove_entry (λ a. is_eq (nat_cmp q a)) (shown es)
  shown-remove_entry q [] = refl
  shown-remove_entry q (e ∷ es) = by (is_eq (nat_cmp q e.0)) (shown-remove_entry q es) where
    rest : List (ℕ × X)
    rest = remove_entry (λ a. is_eq (nat_cmp q a)) es

    left : List (ℕ × Y)
    left = remove_entry (λ a. is_eq (nat_cmp q a)) (shown es)

    by : (b : Bool) → shown rest ≡ left → shown (cond b es (e ∷ rest)) ≡ cond b (shown es) ((e.0, bytes e.1) ∷ left)
    by true same = refl
    by false same = ap (λ t. (e.0, bytes e.1) ∷ t) same

  -- clones that show the same
  pub shown-clone : (R : ℕ × X → ℕ × X → Type 0) → ((p r : ℕ × X) → R p r → (r.0 ≡ p.0) × (bytes r.1 ≡ bytes p.1)) → (es fs : List (ℕ × X)) → AllZip R es fs → shown fs ≡ shown es
  shown-clone R same [] [] zip = refl
  shown-clone R same [] (f ∷ fs) zip = absurd zip
  shown-clone R same (e ∷ es) [] zip = absurd zip
  shown-clone R same (e ∷ es) (f ∷ fs) zip =
      let here = same e f zip.0 in
      let rest = shown-clone R same es fs zip.1 in
      λ i. (here.0 i, here.1 i) ∷ rest i

pub both_first : (a b : Bool) → T (a && b) → T a
both_first true b h = tt
both_first false b h = h

pub both_second : (a b : Bool) → T (a && b) → T b
both_second true b h = h
both_second false b h = absurd h

pub less_from : (o : Ordering) → T (is_lt o) → o ≡ Less
less_from Less h = refl
less_from Equal h = absurd h
less_from Greater h = absurd h

-- the rest of a list in order has no index that ties with its first
none_behind : {X : Type 0} (q x : ℕ) (es : List (ℕ × X)) → nat_cmp q x ≡ Equal → T (below_all nat_cmp x es) → where_key nat_cmp (λ a. not (eq_by_cmp nat_cmp q a)) es ≡ es
none_behind q x [] tied below = refl
none_behind q x (e ∷ es) tied below =
    let less : nat_cmp q e.0 ≡ Less = nat_cmp_total.congr q x e.0 tied ∙ less_from (nat_cmp x e.0) (both_first _ _ below) in
    ap (λ (o : Ordering). cond (not (is_eq o)) (e ∷ where_key nat_cmp (λ a. not (eq_by_cmp nat_cmp q a)) es) (where_key nat_cmp (λ a. not (eq_by_cmp nat_cmp q a)) es)) less
    ∙ ap (λ t. e ∷ t) (none_behind q x es tied (both_second (is_lt (nat_cmp x e.0)) _ below))

-- in a list in order, the first entry at an index is the only one
pub remove_entry-sorted : {X : Type 0} (q : ℕ) (es : List (ℕ × X)) → T (is_sorted nat_cmp es) → remove_entry (λ a. is_eq (nat_cmp q a)) es ≡ where_key nat_cmp (λ a. not (eq_by_cmp nat_cmp q a)) es
remove_entry-sorted q [] sorted = refl
remove_entry-sorted {X} q (e ∷ es) sorted = by (nat_cmp q e.0) refl (remove_entry-sorted q es (both_second (below_all nat_cmp e.0 es) _ sorted)) where
  left : List (ℕ × X)
  left = where_key nat_cmp (λ a. not (eq_by_cmp nat_cmp q a)) es

  rest : List (ℕ × X)
  rest = remove_entry (λ a. is_eq (nat_cmp q a)) es

  by : (o : Ordering) → nat_cmp q e.0 ≡ o → rest ≡ left → cond (is_eq o) es (e ∷ rest) ≡ cond (not (is_eq o)) (e ∷ left) left
  by Less is same = ap (λ t. e ∷ t) same
  by Equal is same = sym (none_behind q e.0 es is (both_first _ _ sorted))
  by Greater is same = ap (λ t. e ∷ t) same

-- ---- the entries of the code's map

abbrev pub Entries : Type 0
Entries = List (ℕ × Vec ℕ Global)

-- what they show
abbrev pub view : Entries → List (ℕ × List ℕ)
view es = map (λ e. (e.0, e.1.items)) es

pub view-insert_entry : (es : Entries) (k : ℕ) (v : Vec ℕ Global) → view (insert_entry nat_cmp es k v) ≡ put nat_cmp k v.items (view es)
view-insert_entry = shown-insert_entry (λ v. v.items)

pub view-remove_entry : (q : ℕ) (es : Entries) → view (remove_entry (λ a. is_eq (nat_cmp q a)) es) ≡ remove_entry (λ a. is_eq (nat_cmp q a)) (view es)
view-remove_entry = shown-remove_entry (λ v. v.items)

pub find-view : (q : ℕ) (es : Entries) (pairs : List (ℕ × List ℕ)) (found : Option (Vec ℕ Global)) → view es ≡ pairs → found ≡ lookup (λ a. is_eq (nat_cmp q a)) es → find nat_cmp q pairs ≡ option_map (λ v. v.items) found
find-view q es pairs found shows is = ap (find nat_cmp q) (sym shows) ∙ find-shown (λ v. v.items) q es ∙ ap (option_map (λ v. v.items)) (sym is)

pub view-clone : (I : ℕ → ℕ → Type 0) → ((a b : ℕ) → I a b → b ≡ a) → (S : Vec ℕ Global → Vec ℕ Global → Type 0) → ((v w : Vec ℕ Global) → S v w → w.items ≡ v.items) → (es fs : Entries) → AllZip (λ p r. I p.0 r.0 × S p.1 r.1) es fs → view fs ≡ view es
view-clone I index S same = shown-clone (λ v. v.items) _ (λ p r zip. (index p.0 r.0 zip.0, same p.1 r.1 zip.1))
