-- The steps by which a bucket is written.
use Rattle.std.proofs.Common.{◌≡◌, ◌≢◌, ℕ, suc, ◌+◌, ◌≤◌, Bool, true, false, Bor, List, [], ◌∷◌, ◌++◌, ◌&&◌, length, map, get_or, refl, sym, ap, subst, ◌∙◌, append_assoc, arith}
use Rattle.std.proofs.lemmas.List.{append-nil, length-map}
use Rattle.std.proofs.lemmas.List.Sorted.{IsPermutation-map, IsPermutation-sym}
use Rattle.std.proofs.lemmas.Map.Keys.{IsDistinct-IsPermutation}
use Rattle.std.specs.Prelude.{T}
use Rattle.std.specs.Cmp.{eq_by_cmp_equiv}
use Rattle.std.specs.Cmp.Lexicographic.{nat_list_cmp_total}
use Rattle.std.specs.FinMap.{entries}
use Rattle.std.specs.FinMap.Entries.{below_all, is_sorted}
use Rattle.std.specs.List.{AllByRecursion, IsDistinct, flat_map}
use Rattle.std.specs.List.Sorted.{IsPermutation, IsSorted}
use Rattle.std.specs.Ordering.{eq_by_cmp, is_eq, is_lt, ordering_reverse, ordering_then}
use Rattle.std.specs.declared.cmp.Ordering.{Ordering}
use Rattle.std.specs.declared.cmp.Ordering.TheVariants.{Less, Equal, Greater}
use Rattle.dag_cbor.specs.Spelling.{head, spelled}
use Rattle.dag_cbor.specs.declared.value.Value.{Value}
use Rattle.hamt_map.specs.Canonical.{map_of}
use Rattle.hamt_map.specs.HashOrder.{AreInOrder, AreLent, low_bits, pair_text}
use Rattle.hamt_map.specs.Holds.{spellings}
use Rattle.hamt_map.specs.Lent.{lent_of}
use Rattle.hamt_map.specs.Node.{bucket}
use Rattle.hamt_map.specs.Pairs.{Pairs, key_cmp}
use Rattle.hamt_map.specs.declared.hashed.Hashed.{Hashed}
use Rattle.hamt_map.proofs.AnyOrder.{Moved, permuted_map, unmapped, untied}
use Rattle.hamt_map.proofs.HashNumbers.{first_in_order}
use Rattle.hamt_map.proofs.MapParts.{sorted_again, sorted_spelled}
use Rattle.hamt_map.proofs.PointerSteps.{bucket_bytes}
use Rattle.hamt_map.proofs.Spellings.{both_first, both_second, less_from}

-- a key and the spelling of its value, both lent
abbrev pub Text : Type 0
Text = Bor (List ℕ) × Bor (List ℕ)

-- what these show
abbrev pub shown : List Text → List (List ℕ × List ℕ)
shown es = map (λ e. (e.0.now, e.1.now)) es

-- ---- texts in the order of their keys

both_hold : (a b : Bool) → T a → T b → T (a && b)
both_hold true b x y = y
both_hold false b x y = absurd x

-- a key that is not behind another, and not the same, is before it
before_key : (x y : List ℕ) (rest : Ordering) → is_lt (ordering_then (key_cmp y x) rest) ≡ false → eq_by_cmp key_cmp x y ≡ false → key_cmp x y ≡ Less
before_key x y rest order apart = by (key_cmp x y) refl where
  by : (o : Ordering) → key_cmp x y ≡ o → key_cmp x y ≡ Less
  by Less is = is
  by Equal is = absurd (cc (sym apart ∙ ap is_eq is))
  by Greater is = absurd (cc (sym (first_in_order (key_cmp y x) rest order) ∙ ap is_lt (nat_list_cmp_total.antisymm y x ∙ ap ordering_reverse is)))

before_all : (x y : List ℕ) (vs : List (List ℕ × List ℕ)) → key_cmp x y ≡ Less → T (below_all key_cmp y vs) → T (below_all key_cmp x vs)
before_all x y [] less below = tt
before_all x y (v ∷ vs) less below =
    let here : key_cmp y v.0 ≡ Less = less_from (key_cmp y v.0) (both_first (is_lt (key_cmp y v.0)) _ below) in
    both_hold (is_lt (key_cmp x v.0)) (below_all key_cmp x vs) (subst (λ (o : Ordering). T (is_lt o)) (sym (nat_list_cmp_total.trans x y v.0 less here)) tt)
    (before_all x y vs less (both_second (is_lt (key_cmp y v.0)) _ below))

-- texts whose keys differ are sorted by them if they do not fall
sorted_by_key : (rest : Text → Text → Ordering) (es : List Text) → IsDistinct (eq_by_cmp key_cmp) (map (λ e. e.0.now) es) → IsSorted (λ x y. ordering_then (key_cmp x.0.now y.0.now) (rest x y)) es → T (is_sorted key_cmp (shown es))
unfolding IsDistinct
sorted_by_key rest [] apart sorted = tt
sorted_by_key rest (x ∷ []) apart sorted = tt
sorted_by_key rest (x ∷ y ∷ es) apart sorted =
    let less : key_cmp x.0.now y.0.now ≡ Less = before_key x.0.now y.0.now (rest y x) (sorted 0 x (omega arith) (omega arith)) apart.0.0 in
    let behind : T (is_sorted key_cmp (shown (y ∷ es))) = sorted_by_key rest (y ∷ es) apart.1 (λ k d low high.
    subst (λ (n : ℕ). lt (get_or (x ∷ y ∷ es) (n + 1) d) (get_or (x ∷ y ∷ es) n d) ≡ false → lt (get_or (y ∷ es) (k + 1) d) (get_or (y ∷ es) k d) ≡ false) (add_one k) (λ is. subst (λ (n : ℕ). lt (get_or (x ∷ y ∷ es) n d) (get_or (y ∷ es) k d) ≡ false → lt (get_or (y ∷ es) (k + 1) d) (get_or (y ∷ es) k d) ≡ false) (two_more k) (λ e. e) is)
    (sorted (k + 1) d (omega arith) (omega (arith, high)))) in
    both_hold (is_lt (key_cmp x.0.now y.0.now) && below_all key_cmp x.0.now (shown es)) (is_sorted key_cmp (shown (y ∷ es)))
    (both_hold (is_lt (key_cmp x.0.now y.0.now)) (below_all key_cmp x.0.now (shown es)) (subst (λ (o : Ordering). T (is_lt o)) (sym less) tt)
    (before_all x.0.now y.0.now (shown es) less (both_first (below_all key_cmp y.0.now (shown es)) _ behind))) behind where
      lt : Text → Text → Bool
      lt a b = is_lt (ordering_then (key_cmp a.0.now b.0.now) (rest a b))

      add_one : (k : ℕ) → suc k ≡ k + 1
      add_one k = omega arith

      two_more : (k : ℕ) → suc (k + 1) ≡ suc k + 1
      two_more k = omega arith

-- keys of pairs that are in order differ
keys_differ : (below : ℕ) (ps : Pairs) → AreInOrder below ps → IsDistinct (eq_by_cmp key_cmp) (map (λ p. p.0) ps)
unfolding IsDistinct
keys_differ below [] order = tt
keys_differ below (p ∷ ps) order = (behind ps order.0, keys_differ below ps order.1) where
  behind : (qs : Pairs) → AllByRecursion (λ q. (p.0 ≢ q.0) × (low_bits below p.0 ≤ low_bits below q.0)) qs → AllByRecursion (λ y. eq_by_cmp key_cmp p.0 y ≡ false) (map (λ q. q.0) qs)
  behind [] all = tt
  behind (q ∷ qs) all = (untied p.0 q.0 all.0.0, behind qs all.1)

-- ---- texts that are lent

first_of : {A X Y : Type 0} (f : A → X × Y) (xs : List A) → map (λ v. v.0) (map f xs) ≡ map (λ x. (f x).0) xs
first_of f [] = refl
first_of {X = X} f (x ∷ xs) = ap (λ (ns : List X). (f x).0 ∷ ns) (first_of f xs)

second_of : {A X Y : Type 0} (f : A → X × Y) (xs : List A) → map (λ v. v.1) (map f xs) ≡ map (λ x. (f x).1) xs
second_of f [] = refl
second_of {Y = Y} f (x ∷ xs) = ap (λ (ns : List Y). (f x).1 ∷ ns) (second_of f xs)

-- the texts of pairs that are lent are those of the pairs
texts_of : (below : ℕ) (es : List Hashed) (ps : Pairs) → AreLent below (map lent_of es) ps → map (λ e. (e.key.now, e.spelling.now)) es ≡ spellings ps
texts_of below es ps are = sym (second_of lent_of es) ∙ ap (λ vs. map (λ (v : ℕ × (List ℕ × List ℕ)). v.1) vs) are.same ∙ second_of (λ (p : List ℕ × Value). (low_bits are.start p.0, (p.0, spelled p.1))) ps

-- sorted by their keys they are those of the bucket
pub sorted_texts : (below : ℕ) (es : List Hashed) (ps : Pairs) (rest : Text → Text → Ordering) (before after : List Text) → AreLent below (map lent_of es) ps → shown before ≡ map (λ e. (e.key.now, e.spelling.now)) es
    → IsPermutation before after → IsSorted (λ x y. ordering_then (key_cmp x.0.now y.0.now) (rest x y)) after → shown after ≡ spellings (entries (map_of ps))
sorted_texts below es ps rest before after are same moves sorted =
    let texts : shown before ≡ spellings ps = same ∙ texts_of below es ps are in
    let back : Moved (λ p. (p.0, spelled p.1)) ps (shown after) = unmapped (λ p. (p.0, spelled p.1)) ps (shown after) (subst (λ vs. IsPermutation vs (shown after)) texts (IsPermutation-map (λ e. (e.0.now, e.1.now)) before after moves)) in
    let keys : map (λ e. e.0.now) before ≡ map (λ p. p.0) ps = sym (first_of (λ (e : Text). (e.0.now, e.1.now)) before) ∙ ap (λ vs. map (λ (v : List ℕ × List ℕ). v.0) vs) texts ∙ first_of (λ (p : List ℕ × Value). (p.0, spelled p.1)) ps in
    let apart : IsDistinct (eq_by_cmp key_cmp) (map (λ e. e.0.now) after) =
    IsDistinct-IsPermutation (eq_by_cmp key_cmp) (λ x y. (eq_by_cmp_equiv nat_list_cmp_total).symm x y) (map (λ e. e.0.now) before) (map (λ e. e.0.now) after) (IsPermutation-map (λ e. e.0.now) before after moves)
    (subst (IsDistinct (eq_by_cmp key_cmp)) (sym keys) (keys_differ below ps are.order)) in
    let own : entries (map_of back.items) ≡ back.items = sorted_again back.items (subst T (ap (is_sorted key_cmp) (sym back.same) ∙ sorted_spelled back.items) (sorted_by_key rest after apart sorted)) in
    let alike : map_of ps ≡ map_of back.items = permuted_map (map_of back.items) ps (subst (λ qs. IsPermutation qs ps) (sym own) (IsPermutation-sym ps back.items back.moved)) in
    sym (ap (λ m. spellings (entries m)) alike ∙ ap spellings own ∙ back.same)

-- the texts of the pairs of a bucket by rising key
pub many_texts : (ps : Pairs) (ordered lent : List Text) (count : ℕ) (old mid new : List ℕ) → count ≡ length ordered → lent ≡ ordered → shown ordered ≡ spellings (entries (map_of ps)) → mid ≡ old ++ head 4 count
    → new ≡ mid ++ flat_map pair_text (shown lent) → new ≡ old ++ spelled (bucket (entries (map_of ps)))
many_texts ps ordered lent count old mid new size same are begun is =
    let texts : List (List ℕ × List ℕ) = shown ordered in
    is ∙ (λ i. begun i ++ flat_map pair_text (shown (same i))) ∙ append_assoc old (head 4 count) (flat_map pair_text texts)
    ∙ ap (λ (t : List ℕ). old ++ t) (ap (λ (n : ℕ). head 4 n ++ flat_map pair_text texts) (size ∙ sym (length-map {B = List ℕ × List ℕ} ordered (λ e. (e.0.now, e.1.now)))) ∙ bucket_bytes texts (entries (map_of ps)) are)

-- the text of one pair that is lent is that of its bucket
pub one_pair_text : (below : ℕ) (es : List Hashed) (ps : Pairs) (d : Hashed) (old mid new : List ℕ) → AreLent below (map lent_of es) ps → length es ≡ 1 → mid ≡ old ++ head 4 1
    → new ≡ mid ++ pair_text ((get_or es 0 d).key.now, (get_or es 0 d).spelling.now) → new ≡ old ++ spelled (bucket (entries (map_of ps)))
one_pair_text below es ps d old mid new are one begun is =
    let text : List ℕ × List ℕ = ((get_or es 0 d).key.now, (get_or es 0 d).spelling.now) in
    let bytes : head 4 1 ++ flat_map pair_text (text ∷ []) ≡ spelled (bucket (entries (map_of ps))) = go es ps one (texts_of below es ps are) in
    is ∙ ap (λ (t : List ℕ). t ++ pair_text text) begun ∙ append_assoc old (head 4 1) (pair_text text)
    ∙ ap (λ (t : List ℕ). old ++ t) (ap (λ (t : List ℕ). head 4 1 ++ t) (sym (append-nil (pair_text text))) ∙ bytes) where
      go : (es : List Hashed) (ps : Pairs) → length es ≡ 1 → map (λ e. (e.key.now, e.spelling.now)) es ≡ spellings ps
          → head 4 1 ++ flat_map pair_text (((get_or es 0 d).key.now, (get_or es 0 d).spelling.now) ∷ []) ≡ spelled (bucket (entries (map_of ps)))
      go [] ps one same = absurd (omega (arith, one))
      go (e ∷ f ∷ es) ps one same = absurd (omega (arith, one))
      go (e ∷ []) [] one same = absurd (cc same)
      go (e ∷ []) (p ∷ q ∷ ps) one same = absurd (cc same)
      go (e ∷ []) (p ∷ []) one same = bucket_bytes ((e.key.now, e.spelling.now) ∷ []) (entries (map_of (p ∷ []))) (same ∙ ap spellings (sym (sorted_again (p ∷ []) tt)))
