-- The pairs of a bucket, as they are read of its bytes, and pairs over them.
use Rattle.std.proofs.Common.{◌≡◌, ℕ, zero, suc, ◌+◌, ◌-◌, ◌<◌, Bool, true, false, cond, Bor, List, [], ◌∷◌, ◌++◌, length, map, take, drop, drop-cons, get_or, Option, Some, None, All, refl, sym, ap, subst, ◌∙◌, arith}
use Rattle.std.proofs.lemmas.List.{take-append-drop, take_more}
use Rattle.std.proofs.lemmas.List.Elements.{All-head, All-nil, All-push, All-tail}
use Rattle.std.specs.Prelude.{T, is_some}
use Rattle.std.specs.Cmp.{eq_by_cmp_equiv}
use Rattle.std.specs.Cmp.Lexicographic.{nat_list_cmp_total}
use Rattle.std.specs.BTreeMap.{insert_entry}
use Rattle.std.specs.FinMap as finmap
use Rattle.std.specs.FinMap.{insert}
use Rattle.std.specs.FinMap.Entries.{below_all, find, is_sorted, put}
use Rattle.std.specs.Ordering.{eq_by_cmp, is_eq, is_lt}
use Rattle.dag_cbor.specs.Plain.{IsPlain}
use Rattle.dag_cbor.specs.Spelling.{spelled}
use Rattle.dag_cbor.specs.declared.value.Value.{Value}
use Rattle.dag_cbor.specs.declared.value.Value.TheVariants as v
use Rattle.hamt_map.specs.Ahead.{PairsAhead}
use Rattle.hamt_map.specs.Canonical.{map_of}
use Rattle.hamt_map.specs.HashOrder.{AreLent, low_bits}
use Rattle.hamt_map.specs.Holds.{FitNodes, Holds}
use Rattle.hamt_map.specs.Lent.{lent_of}
use Rattle.hamt_map.specs.Pairs.{Pairs, key_cmp}
use Rattle.hamt_map.specs.declared.hashed.Hashed.{Hashed}
use Rattle.hamt_map.proofs.BucketSteps.{shown}
use Rattle.hamt_map.proofs.Held.{Holds-empty, Holds-insert, key_cmp_same, tied_same}
use Rattle.hamt_map.proofs.Merging.{all_back, or_else, find_both}
use Rattle.hamt_map.proofs.OverGroups.{lent_size}
use Rattle.hamt_map.proofs.Spellings.{both_first, both_second, less_from, shown-insert_entry}

-- ---- a map to which pairs are added by rising key

below_end : (x : List ℕ) (done : Pairs) (p : List ℕ × Value) (rest : Pairs) → T (below_all key_cmp x (done ++ p ∷ rest)) → T (is_lt (key_cmp x p.0))
below_end x [] p rest below = both_first (is_lt (key_cmp x p.0)) _ below
below_end x (e ∷ done) p rest below = below_end x done p rest (both_second (is_lt (key_cmp x e.0)) _ below)

last_alone : (done : Pairs) (p : List ℕ × Value) (rest : Pairs) → T (is_sorted key_cmp (done ++ p ∷ rest)) → find key_cmp p.0 done ≡ None
last_alone [] p rest sorted = refl
last_alone (e ∷ done) p rest sorted =
    let less = less_from (key_cmp e.0 p.0) (below_end e.0 done p rest (both_first (below_all key_cmp e.0 (done ++ p ∷ rest)) _ sorted)) in
    ap (λ b. cond b (Some e.1) (find key_cmp p.0 done)) ((eq_by_cmp_equiv nat_list_cmp_total).symm p.0 e.0 ∙ ap is_eq less) ∙ last_alone done p rest (both_second (below_all key_cmp e.0 (done ++ p ∷ rest)) _ sorted)

or_none : (o : Option Value) → o ≡ or_else o None
unfolding or_else
or_none None = refl
or_none (Some x) = refl

none_or : (x : Value) (o : Option Value) → o ≡ None → Some x ≡ or_else o (Some x)
unfolding or_else
none_or x None is = refl
none_or x (Some y) is = absurd (cc is)

insert_last : (done : Pairs) (k : List ℕ) (x : Value) → find key_cmp k done ≡ None → insert (map_of done) k x ≡ map_of (done ++ (k, x) ∷ [])
insert_last done k x alone = finmap.same_map nat_list_cmp_total key_cmp_same (insert (map_of done) k x) (map_of (done ++ (k, x) ∷ [])) (λ q.
    finmap.get-insert nat_list_cmp_total (map_of done) k x q ∙ ap (cond (eq_by_cmp key_cmp q k) (Some x)) (finmap.get-from_entries nat_list_cmp_total done q)
    ∙ by q (eq_by_cmp key_cmp q k) refl
    ∙ sym (finmap.get-from_entries nat_list_cmp_total (done ++ (k, x) ∷ []) q ∙ find_both q done ((k, x) ∷ []))) where
      by : (q : List ℕ) (b : Bool) → eq_by_cmp key_cmp q k ≡ b → cond (eq_by_cmp key_cmp q k) (Some x) (find key_cmp q done) ≡ or_else (find key_cmp q done) (cond (eq_by_cmp key_cmp q k) (Some x) None)
      by q true is =
          ap (λ t. cond t (Some x) (find key_cmp q done)) is ∙ none_or x (find key_cmp q done) (ap (λ (j : List ℕ). find key_cmp j done) (tied_same q k is) ∙ alone)
          ∙ ap (λ t. or_else (find key_cmp q done) (cond t (Some x) None)) (sym is)
      by q false is = ap (λ t. cond t (Some x) (find key_cmp q done)) is ∙ or_none (find key_cmp q done) ∙ ap (λ t. or_else (find key_cmp q done) (cond t (Some x) None)) (sym is)

-- one more entry of the code's map
pub shown_put : (made after : List (Bor (List ℕ) × Bor (List ℕ))) (k v : Bor (List ℕ)) → after ≡ insert_entry (λ x y. key_cmp x.now y.now) made k v → shown after ≡ put key_cmp k.now v.now (shown made)
shown_put made after k v is = ap shown is ∙ shown-insert_entry (λ (k : Bor (List ℕ)). k.now) (λ (v : Bor (List ℕ)). v.now) made k v

-- so many pairs of a bucket are read
pub record PairsRead (old : Pairs) (taken : ℕ) (rest : List ℕ) (made : List (List ℕ × List ℕ)) : Type 0 where
  pub ahead : PairsAhead (drop taken old) rest
  pub held : Holds made (map_of (take taken old))

pub read_begin : (old : Pairs) (rest : List ℕ) (made : List (List ℕ × List ℕ)) → PairsAhead old rest → made ≡ [] → PairsRead old 0 rest made
read_begin old rest made is none = record { ahead = is; held = Holds-empty made none }

pub read_more : (old : Pairs) (taken : ℕ) (rest behind key spelling : List ℕ) (made after : List (List ℕ × List ℕ)) → taken < length old → FitNodes old → T (is_sorted key_cmp old) → PairsRead old taken rest made
    → ((p : List ℕ × Value) (more : Pairs) → PairsAhead (p ∷ more) rest → (key ≡ p.0) × (spelling ≡ spelled p.1) × PairsAhead more behind) → after ≡ put key_cmp key spelling made → PairsRead old (taken + 1) behind after
read_more old taken rest behind key spelling made after within fit sorted so_far reads put_is =
    let p : List ℕ × Value = get_or old taken ([], v.Null) in
    let next : suc taken ≡ taken + 1 = omega arith in
    let split : drop taken old ≡ p ∷ drop (taken + 1) old = drop-cons old taken ([], v.Null) within ∙ ap (λ (k : ℕ). p ∷ drop k old) next in
    let whole : take taken old ++ p ∷ drop (taken + 1) old ≡ old = ap (λ (qs : Pairs). take taken old ++ qs) (sym split) ∙ take-append-drop taken old in
    let plain : IsPlain 124 p.1 = All-head (λ q. IsPlain 124 q.1) p (drop (taken + 1) old) (all_back (λ q. IsPlain 124 q.1) (take taken old) (p ∷ drop (taken + 1) old) (subst FitNodes (sym whole) fit)) in
    let read = reads p (drop (taken + 1) old) (subst (λ (qs : Pairs). PairsAhead qs rest) split so_far.ahead) in
    let alone = last_alone (take taken old) p (drop (taken + 1) old) (subst (λ (qs : Pairs). T (is_sorted key_cmp qs)) (sym whole) sorted) in
    let grown : insert (map_of (take taken old)) p.0 p.1 ≡ map_of (take (taken + 1) old) = insert_last (take taken old) p.0 p.1 alone ∙ ap (λ (qs : Pairs). map_of qs) (sym (take_more old taken ([], v.Null) within)) in
    record {
      ahead = read.2;
      held = subst (Holds after) grown (Holds-insert made after (map_of (take taken old)) p.0 p.1 so_far.held plain (put_is ∙ (λ i. put key_cmp (read.0 i) (read.1 i) made)));
    }

pub read_end : (old : Pairs) (taken : ℕ) (rest : List ℕ) (made : List (List ℕ × List ℕ)) → taken ≡ length old → PairsRead old taken rest made → Holds made (map_of old)
read_end old taken rest made all so_far = subst (λ (qs : Pairs). Holds made (map_of qs)) (ap (λ (k : ℕ). take k old) all ∙ whole old) so_far.held where
  whole : (qs : Pairs) → take (length qs) qs ≡ qs
  whole [] = refl
  whole (q ∷ qs) = ap (λ (rs : Pairs). q ∷ rs) (whole qs)

-- ---- one pair that is lent

-- a pair that is lent, before those behind it
pub record LentAt (i : ℕ) (e : Hashed) (ps : Pairs) : Type 0 where
  pub pair : List ℕ × Value
  pub left : drop i ps ≡ pair ∷ drop (i + 1) ps
  pub key : e.key.now ≡ pair.0
  pub spelling : e.spelling.now ≡ spelled pair.1
  pub plain : IsPlain 124 pair.1

pub lent_at : (below i : ℕ) (es : List Hashed) (ps : Pairs) (d : Hashed) → AreLent below (map lent_of es) ps → i < length es → LentAt i (get_or es i d) ps
lent_at below i es ps d are within = go i es ps are.same are.fit within where
  go : (i : ℕ) (es : List Hashed) (ps : Pairs) → map lent_of es ≡ map (λ p. (low_bits are.start p.0, (p.0, spelled p.1))) ps → FitNodes ps → i < length es → LentAt i (get_or es i d) ps
  go i [] ps same fit within = absurd (omega arith)
  go i (e ∷ es) [] same fit within = absurd (cc same)
  go zero (e ∷ es) (p ∷ ps) same fit within =
      let first : ◌≡◌ {A = ℕ × (List ℕ × List ℕ)} (lent_of e) (low_bits are.start p.0, (p.0, spelled p.1)) = cc same in
      record { pair = p; left = refl; key = ap (λ (v : ℕ × (List ℕ × List ℕ)). v.1.0) first; spelling = ap (λ (v : ℕ × (List ℕ × List ℕ)). v.1.1) first; plain = All-head (λ p. IsPlain 124 p.1) p ps fit }
  go (suc i) (e ∷ es) (p ∷ ps) same fit within =
      let behind : map lent_of es ≡ map (λ p. (low_bits are.start p.0, (p.0, spelled p.1))) ps = cc same in
      let rest = go i es ps behind (All-tail (λ p. IsPlain 124 p.1) p ps fit) (omega arith) in
      let next : suc (i + 1) ≡ suc i + 1 = omega arith in
      record { pair = rest.pair; left = rest.left ∙ ap (λ (k : ℕ). rest.pair ∷ drop k (p ∷ ps)) next; key = rest.key; spelling = rest.spelling; plain = rest.plain }

-- ---- pairs over others

pub put_begin : (below : ℕ) (es : List Hashed) (ps old : Pairs) (left : ℕ) (made : List (List ℕ × List ℕ)) → AreLent below (map lent_of es) ps → left ≡ length es → Holds made (map_of old) → Holds made (map_of (drop left ps ++ old))
put_begin below es ps old left made are all held = subst (λ (qs : Pairs). Holds made (map_of (qs ++ old))) (sym (gone left ps (all ∙ lent_size below es ps are))) held where
  gone : (k : ℕ) (qs : Pairs) → k ≡ length qs → drop k qs ≡ []
  gone zero [] e = refl
  gone zero (q ∷ qs) e = absurd (omega (arith, e))
  gone (suc k) [] e = refl
  gone (suc k) (q ∷ qs) e = gone k qs (omega (arith, e))

pub put_more : (below left next : ℕ) (es : List Hashed) (ps old : Pairs) (d : Hashed) (made after : List (Bor (List ℕ) × Bor (List ℕ))) → AreLent below (map lent_of es) ps → left ≡ next + 1 → next < length es → Holds (shown made) (map_of (drop left ps ++ old))
    → after ≡ insert_entry (λ x y. key_cmp x.now y.now) made (get_or es next d).key (get_or es next d).spelling → Holds (shown after) (map_of (drop next ps ++ old))
put_more below left next es ps old d made after are step within held is =
    let there : LentAt next (get_or es next d) ps = lent_at below next es ps d are within in
    subst (λ (qs : Pairs). Holds (shown after) (map_of (qs ++ old))) (sym there.left)
    (Holds-insert (shown made) (shown after) (map_of (drop (next + 1) ps ++ old)) there.pair.0 there.pair.1 (subst (λ (k : ℕ). Holds (shown made) (map_of (drop k ps ++ old))) step held) there.plain
    (shown_put made after (get_or es next d).key (get_or es next d).spelling is ∙ (λ i. put key_cmp (there.key i) (there.spelling i) (shown made))))

pub put_end : (ps old : Pairs) (left : ℕ) (made : List (List ℕ × List ℕ)) → left ≡ 0 → Holds made (map_of (drop left ps ++ old)) → Holds made (map_of (ps ++ old))
put_end ps old left made none held = subst (λ (k : ℕ). Holds made (map_of (drop k ps ++ old))) none held

-- ---- pairs that cover a bucket's

-- a key has a value
abbrev pub HasKey : Pairs → List ℕ → Type 0
HasKey ps k = is_some (find key_cmp k ps) ≡ true

covered_find : (ps old : Pairs) (q : List ℕ) → All (λ p. HasKey ps p.0) old → find key_cmp q ps ≡ None → find key_cmp q old ≡ None
covered_find ps [] q all none = refl
covered_find ps (p ∷ old) q all none = by (eq_by_cmp key_cmp q p.0) refl (covered_find ps old q (All-tail (λ p. HasKey ps p.0) p old all) none) where
  by : (b : Bool) → eq_by_cmp key_cmp q p.0 ≡ b → find key_cmp q old ≡ None → cond b (Some p.1) (find key_cmp q old) ≡ None
  by true is rest =
      let here : is_some (find key_cmp p.0 ps) ≡ true = All-head (λ p. HasKey ps p.0) p old all in
      absurd (subst T (sym here ∙ ap (λ (k : List ℕ). is_some (find key_cmp k ps)) (sym (tied_same q p.0 is)) ∙ ap is_some none) tt)
  by false is rest = rest

or_same : (o other : Option Value) → (o ≡ None → other ≡ None) → or_else o other ≡ o
unfolding or_else
or_same None other none = none refl
or_same (Some x) other none = refl

pub covered_map : (ps old : Pairs) → All (λ p. HasKey ps p.0) old → map_of (ps ++ old) ≡ map_of ps
covered_map ps old all = finmap.same_map nat_list_cmp_total key_cmp_same (map_of (ps ++ old)) (map_of ps) (λ q.
    finmap.get-from_entries nat_list_cmp_total (ps ++ old) q ∙ find_both q ps old ∙ or_same (find key_cmp q ps) (find key_cmp q old) (covered_find ps old q all) ∙ sym (finmap.get-from_entries nat_list_cmp_total ps q))

-- so many keys of a bucket are covered
pub record CoveredSoFar (ps old : Pairs) (taken : ℕ) (rest : List ℕ) : Type 0 where
  pub ahead : PairsAhead (drop taken old) rest
  pub covered : All (λ p. HasKey ps p.0) (take taken old)

pub covered_begin : (ps old : Pairs) (rest : List ℕ) → PairsAhead old rest → CoveredSoFar ps old 0 rest
covered_begin ps old rest is = record { ahead = is; covered = All-nil (λ p. HasKey ps p.0) }

pub covered_more : (ps old : Pairs) (taken : ℕ) (rest behind key spelling : List ℕ) → taken < length old → CoveredSoFar ps old taken rest
    → ((p : List ℕ × Value) (more : Pairs) → PairsAhead (p ∷ more) rest → (key ≡ p.0) × (spelling ≡ spelled p.1) × PairsAhead more behind) → HasKey ps key → CoveredSoFar ps old (taken + 1) behind
covered_more ps old taken rest behind key spelling within so_far reads has =
    let p : List ℕ × Value = get_or old taken ([], v.Null) in
    let next : suc taken ≡ taken + 1 = omega arith in
    let split : drop taken old ≡ p ∷ drop (taken + 1) old = drop-cons old taken ([], v.Null) within ∙ ap (λ (k : ℕ). p ∷ drop k old) next in
    let read = reads p (drop (taken + 1) old) (subst (λ (qs : Pairs). PairsAhead qs rest) split so_far.ahead) in
    record {
      ahead = read.2;
      covered = subst (All (λ p. HasKey ps p.0)) (sym (take_more old taken ([], v.Null) within)) (All-push (λ p. HasKey ps p.0) (take taken old) p so_far.covered (subst (HasKey ps) read.0 has));
    }

pub covered_end : (ps old : Pairs) (taken : ℕ) (rest : List ℕ) → taken ≡ length old → CoveredSoFar ps old taken rest → map_of (ps ++ old) ≡ map_of ps
covered_end ps old taken rest all so_far = covered_map ps old (subst (All (λ p. HasKey ps p.0)) (ap (λ (k : ℕ). take k old) all ∙ whole old) so_far.covered) where
  whole : (qs : Pairs) → take (length qs) qs ≡ qs
  whole [] = refl
  whole (q ∷ qs) = ap (λ (rs : Pairs). q ∷ rs) (whole qs)

-- a key of the pairs that are lent
pub has_lent : (below i : ℕ) (es : List Hashed) (ps : Pairs) (d : Hashed) (key : List ℕ) → AreLent below (map lent_of es) ps → i < length es → (get_or es i d).key.now ≡ key → HasKey ps key
has_lent below i es ps d key are within same =
    let there : LentAt i (get_or es i d) ps = lent_at below i es ps d are within in
    found_behind i ps there.pair there.left (sym there.key ∙ same) where
      found_behind : (i : ℕ) (qs : Pairs) (p : List ℕ × Value) → drop i qs ≡ p ∷ drop (i + 1) qs → p.0 ≡ key → is_some (find key_cmp key qs) ≡ true
      found_behind i [] p split at = absurd (nothing i split) where
        nothing : (i : ℕ) → drop i [] ≡ p ∷ drop (i + 1) [] → ⊥
        nothing zero e = absurd (cc e)
        nothing (suc i) e = absurd (cc e)
      found_behind zero (q ∷ qs) p split at =
          let first : ◌≡◌ {A = List ℕ × Value} q p = cc split in
          ap (λ b. is_some (cond b (Some q.1) (find key_cmp key qs))) (ap (eq_by_cmp key_cmp key) (ap (λ (x : List ℕ × Value). x.0) first ∙ at) ∙ (eq_by_cmp_equiv nat_list_cmp_total).refl key)
      found_behind (suc i) (q ∷ qs) p split at =
          let next : suc i + 1 ≡ suc (i + 1) = omega arith in
          let rest = found_behind i qs p (split ∙ ap (λ (k : ℕ). p ∷ drop k (q ∷ qs)) next) at in
          elim (eq_by_cmp key_cmp key q.0) as (λ b. is_some (cond b (Some q.1) (find key_cmp key qs)) ≡ true) [ true ↦ refl | false ↦ rest ]
