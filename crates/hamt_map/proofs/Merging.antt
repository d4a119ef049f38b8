-- Pairs that are put into a map: the first value of a key counts.
use Rattle.std.proofs.Common.{◌≡◌, ℕ, zero, suc, ◌+◌, ◌-◌, ◌<◌, ◌≤◌, List, [], ◌∷◌, ◌++◌, true, false, cond, get_or, length, take, Option, Some, None, All, refl, sym, ap, subst, ◌∙◌, append_assoc, arith}
use Rattle.std.proofs.lemmas.List.{append-nil, take_more}
use Rattle.std.proofs.lemmas.List.Elements.{All-cons, All-head, All-nil, All-tail}
use Rattle.std.specs.FinMap.{empty, from_entries}
use Rattle.std.specs.FinMap.Entries.{find, put}
use Rattle.std.specs.Ordering.{eq_by_cmp}
use Rattle.dag_cbor.specs.declared.value.Value.{Value}
use Rattle.dag_cbor.specs.Plain.{IsPlain}
use Rattle.dag_cbor.specs.Spelling.{spelled}
use Rattle.hamt_map.specs.Pairs.{Pairs, key_cmp}
use Rattle.hamt_map.specs.Holds.{FitNodes, Holds, spellings}
use Rattle.hamt_map.proofs.Held.{Holds-insert}

-- ---- the first value of a key counts

unfoldable pub or_else : {A : Type 0} → Option A → Option A → Option A
or_else None b = b
or_else (Some x) b = Some x

pub find_both : (q : List ℕ) (es fs : Pairs) → find key_cmp q (es ++ fs) ≡ or_else (find key_cmp q es) (find key_cmp q fs)
unfolding or_else
find_both q [] fs = refl
find_both q (e ∷ es) fs =
    elim (eq_by_cmp key_cmp q e.0) as (λ b. cond b (Some e.1) (find key_cmp q (es ++ fs)) ≡ or_else (cond b (Some e.1) (find key_cmp q es)) (find key_cmp q fs)) [
      | true ↦ refl
      | false ↦ find_both q es fs
    ]

-- ---- parts of a list

pub all_front : {X : Type 0} (P : X → Type 0) (xs ys : List X) → All P (xs ++ ys) → All P xs
all_front P [] ys all = All-nil P
all_front P (x ∷ xs) ys all = All-cons P x xs (All-head P x (xs ++ ys) all) (all_front P xs ys (All-tail P x (xs ++ ys) all))

pub all_back : {X : Type 0} (P : X → Type 0) (xs ys : List X) → All P (xs ++ ys) → All P ys
all_back P [] ys all = all
all_back P (x ∷ xs) ys all = all_back P xs ys (All-tail P x (xs ++ ys) all)

-- ---- pairs that are taken from the back

-- some pairs of a list are taken from its back into a map, and these spellings are those of the others
pub record TakenBack (all : Pairs) (left pairs : List (List ℕ × List ℕ)) : Type 0 where
  pub front : Pairs
  pub back : Pairs
  pub whole : front ++ back ≡ all
  pub same : left ≡ spellings front
  pub fit : FitNodes front
  pub held : Holds pairs (from_entries back)

pub taken_begin : (all : Pairs) (left pairs : List (List ℕ × List ℕ)) → left ≡ spellings all → FitNodes all → Holds pairs empty → TakenBack all left pairs
taken_begin all left pairs same fit held = record { front = all; back = []; whole = append-nil all; same = same; fit = fit; held = held }

last_of : (front : Pairs) (rest : List (List ℕ × List ℕ)) (s : List ℕ × List ℕ) → rest ++ s ∷ [] ≡ spellings front
    → (before : Pairs) × (x : Value) × (front ≡ before ++ (s.0, x) ∷ []) × (rest ≡ spellings before) × (s.1 ≡ spelled x)
last_of [] [] s e = absurd (cc e)
last_of [] (r ∷ rest) s e = absurd (cc e)
last_of (p ∷ []) [] s e =
    let first : ◌≡◌ {A = List ℕ × List ℕ} s (p.0, spelled p.1) = cc e in
    let key : s.0 ≡ p.0 = ap (λ (y : List ℕ × List ℕ). y.0) first in
    ([], p.1, ap (λ (k : List ℕ). (k, p.1) ∷ []) (sym key), refl, ap (λ (y : List ℕ × List ℕ). y.1) first)
last_of (p ∷ q ∷ front) [] s e = absurd (cc e)
last_of (p ∷ front) (r ∷ rest) s e =
    let first : ◌≡◌ {A = List ℕ × List ℕ} r (p.0, spelled p.1) = cc e in
    let behind : rest ++ s ∷ [] ≡ spellings front = cc e in
    let more = last_of front rest s behind in
    (p ∷ more.0, more.1, ap (λ (ps : Pairs). p ∷ ps) more.2, (λ i. first i ∷ more.3 i), more.4)

pub taken_more : (all : Pairs) (left rest pairs after : List (List ℕ × List ℕ)) (s : List ℕ × List ℕ) → left ≡ rest ++ s ∷ [] → TakenBack all left pairs → after ≡ put key_cmp s.0 s.1 pairs → TakenBack all rest after
taken_more all left rest pairs after s is so_far put_is =
    let last = last_of so_far.front rest s (sym is ∙ so_far.same) in
    let fits : FitNodes (last.0 ++ (s.0, last.1) ∷ []) = subst FitNodes last.2 so_far.fit in
    record {
      front = last.0;
      back = (s.0, last.1) ∷ so_far.back;
      whole = sym (append_assoc last.0 ((s.0, last.1) ∷ []) so_far.back) ∙ ap (λ (ps : Pairs). ps ++ so_far.back) (sym last.2) ∙ so_far.whole;
      same = last.3;
      fit = all_front (λ p. IsPlain 124 p.1) last.0 ((s.0, last.1) ∷ []) fits;
      held = Holds-insert pairs after (from_entries so_far.back) s.0 last.1 so_far.held (All-head (λ p. IsPlain 124 p.1) (s.0, last.1) [] (all_back (λ p. IsPlain 124 p.1) last.0 ((s.0, last.1) ∷ []) fits))
          (put_is ∙ ap (λ (t : List ℕ). put key_cmp s.0 t pairs) last.4);
    }

-- the last of those that are left is taken
pub taken_next : (all : Pairs) (xs pairs after : List (List ℕ × List ℕ)) (n : ℕ) (s : List ℕ × List ℕ) → 0 < n → n ≤ length xs → s ≡ get_or xs (n - 1) s → TakenBack all (take n xs) pairs → after ≡ put key_cmp s.0 s.1 pairs → TakenBack all (take (n - 1) xs) after
taken_next all xs pairs after zero s some within is so_far put_is = absurd (omega arith)
taken_next all xs pairs after (suc i) s some within is so_far put_is =
    let less : suc i - 1 ≡ i = omega arith in
    let more : suc i ≡ i + 1 = omega arith in
    let at : s ≡ get_or xs i s = is ∙ ap (λ (k : ℕ). get_or xs k s) less in
    subst (λ (k : ℕ). TakenBack all (take k xs) after) (sym less)
    (taken_more all (take (suc i) xs) (take i xs) pairs after s (ap (λ (k : ℕ). take k xs) more ∙ take_more xs i s (omega (arith, within)) ∙ ap (λ z. take i xs ++ z ∷ []) (sym at)) so_far put_is)

pub taken_end : (all : Pairs) (left pairs : List (List ℕ × List ℕ)) → left ≡ [] → TakenBack all left pairs → Holds pairs (from_entries all)
taken_end all left pairs none so_far = by so_far.front (sym none ∙ so_far.same) so_far.whole where
  by : (front : Pairs) → [] ≡ spellings front → front ++ so_far.back ≡ all → Holds pairs (from_entries all)
  by [] e whole = subst (λ (ps : Pairs). Holds pairs (from_entries ps)) whole so_far.held
  by (p ∷ front) e whole = absurd (cc e)
