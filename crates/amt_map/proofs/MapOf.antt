-- The map of pairs, from the last on.
use Rattle.std.proofs.Common.{◌≡◌, ℕ, ◌<◌, ◌^◌, List, [], ◌∷◌, ◌++◌, All, map, Vec, Global, refl, sym, ap, subst, ◌∙◌, append_assoc, append-nil}
use Rattle.std.proofs.lemmas.List.{map-append}
use Rattle.std.proofs.lemmas.List.Elements.{All-nil, All-cons, All-head, All-tail}
use Rattle.std.specs.FinMap.{empty, from_entries, insert}
use Rattle.dag_cbor.specs.Plain.{IsPlain}
use Rattle.dag_cbor.specs.Spelling.{spelled}
use Rattle.dag_cbor.specs.declared.value.Value.{Value}
use Rattle.amt_map.specs.Holds.{FitRoot, Holds, IsSpelling, spellings}
use Rattle.amt_map.specs.Pairs.{Map, Pairs}
use Rattle.amt_map.specs.Reading.{AreSpelled, shown}

-- the last pairs are in a map, and the others are left
pub record MapSoFar (those : Pairs) (left : List (ℕ × Vec ℕ Global)) (held : List (ℕ × List ℕ)) : Type 0 where
  pub rest : Pairs
  pub done : Pairs
  pub whole : those ≡ rest ++ done
  pub remain : shown left ≡ spellings rest
  pub holds : Holds held (from_entries done)
  pub fit : FitRoot rest

pub map_begin : (those : Pairs) (left : List (ℕ × Vec ℕ Global)) (held : List (ℕ × List ℕ)) → AreSpelled (shown left) those → Holds held empty → MapSoFar those left held
map_begin those left held are holds = record { rest = those; done = []; whole = sym (append-nil those); remain = are.same; holds = holds; fit = are.fit }

-- what gives a list with a last element has a last element
record Split {A B : Type 0} (f : A → B) (xs : List A) (ys : List B) (y : B) : Type 0 where
  front : List A
  last : A
  whole : xs ≡ front ++ last ∷ []
  front_is : map f front ≡ ys
  last_is : f last ≡ y

split : {A B : Type 0} (f : A → B) (xs : List A) (ys : List B) (y : B) → map f xs ≡ ys ++ y ∷ [] → Split f xs ys y
split f [] [] y e = cc
split f [] (z ∷ ys) y e = cc
split f (x ∷ []) [] y e = let first : f x ≡ y = cc in record { front = []; last = x; whole = refl; front_is = refl; last_is = first }
split f (x ∷ w ∷ xs) [] y e = cc
split f (x ∷ xs) (z ∷ ys) y e =
    let first : f x ≡ z = cc in
    let others : map f xs ≡ ys ++ y ∷ [] = cc in
    let rest = split f xs ys y others in
    record { front = x ∷ rest.front; last = rest.last; whole = ap (λ t. x ∷ t) rest.whole; front_is = (λ i. first i ∷ rest.front_is i); last_is = rest.last_is }

fit_front : {A : Type 0} (P : A → Type 0) (xs : List A) (x : A) → All P (xs ++ x ∷ []) → All P xs × P x
fit_front P [] x all = (All-nil P, All-head P x [] all)
fit_front P (y ∷ xs) x all = let rest = fit_front P xs x (All-tail P y (xs ++ x ∷ []) all) in (All-cons P y xs (All-head P y (xs ++ x ∷ []) all) rest.0, rest.1)

-- the last of the pairs that are left
pub record IsLast (those : Pairs) (left : List (ℕ × Vec ℕ Global)) (held : List (ℕ × List ℕ)) (index : ℕ) (bytes : List ℕ) : Type 0 where
  pub value : Value
  pub front : Pairs
  pub done : Pairs
  pub whole : those ≡ front ++ (index, value) ∷ done
  pub remain : shown left ≡ spellings front
  pub holds : Holds held (from_entries done)
  pub fit : FitRoot front
  pub small : index < 2 ^ 60
  pub plain : IsPlain 125 value
  pub text : bytes ≡ spelled value

pub last_left : (those : Pairs) (before left : List (ℕ × Vec ℕ Global)) (held : List (ℕ × List ℕ)) (index : ℕ) (spelling : Vec ℕ Global) → before ≡ left ++ (index, spelling) ∷ [] → MapSoFar those before held
    → IsLast those left held index spelling.items
last_left those before left held index spelling popped so_far =
    let parts = split (λ p. (p.0, spelled p.1)) so_far.rest (shown left) (index, spelling.items) (sym so_far.remain ∙ ap shown popped ∙ map-append (λ p. (p.0, p.1.items)) left ((index, spelling) ∷ [])) in
    let same_index : parts.last.0 ≡ index = ap (λ (p : ℕ × List ℕ). p.0) parts.last_is in
    let same_text : spelled parts.last.1 ≡ spelling.items = ap (λ (p : ℕ × List ℕ). p.1) parts.last_is in
    let fits = fit_front (λ p. (p.0 < 2 ^ 60) × IsPlain 125 p.1) parts.front parts.last (subst FitRoot parts.whole so_far.fit) in
    record {
      value = parts.last.1;
      front = parts.front;
      done = so_far.done;
      whole = so_far.whole ∙ ap (λ (ps : Pairs). ps ++ so_far.done) parts.whole ∙ append_assoc parts.front (parts.last ∷ []) so_far.done ∙ ap (λ (k : ℕ). parts.front ++ (k, parts.last.1) ∷ so_far.done) same_index;
      remain = sym parts.front_is;
      holds = so_far.holds;
      fit = fits.0;
      small = subst (λ (k : ℕ). k < 2 ^ 60) same_index fits.1.0;
      plain = fits.1.1;
      text = sym same_text;
    }

pub last_spelling : (those : Pairs) (left : List (ℕ × Vec ℕ Global)) (held : List (ℕ × List ℕ)) (index : ℕ) (bytes : List ℕ) → IsLast those left held index bytes → IsSpelling bytes
last_spelling those left held index bytes last = record { value = last.value; plain = last.plain; same = last.text }

pub map_more : (those : Pairs) (left : List (ℕ × Vec ℕ Global)) (held after : List (ℕ × List ℕ)) (index : ℕ) (bytes : List ℕ) → (last : IsLast those left held index bytes)
    → Holds after (insert (from_entries last.done) index last.value) → MapSoFar those left after
map_more those left held after index bytes last holds =
    record { rest = last.front; done = (index, last.value) ∷ last.done; whole = last.whole; remain = last.remain; holds = holds; fit = last.fit }

pub map_end : (those : Pairs) (left : List (ℕ × Vec ℕ Global)) (held : List (ℕ × List ℕ)) → left ≡ [] → MapSoFar those left held → Holds held (from_entries those)
map_end those left held none so_far = by so_far.rest so_far.whole (sym (ap shown none) ∙ so_far.remain) where
  by : (rest : Pairs) → those ≡ rest ++ so_far.done → [] ≡ spellings rest → Holds held (from_entries those)
  by [] whole nothing = subst (λ (ps : Pairs). Holds held (from_entries ps)) (sym whole) so_far.holds
  by (p ∷ rest) whole nothing = cc
