-- The loops that read and write, step by step.
use Rattle.std.proofs.Common.{◌≡◌, ℕ, ◌+◌, ◌-◌, ◌<◌, ◌≤◌, suc, List, ◌∷◌, ◌++◌, length, get_or, take, drop, Option, Result, Ok, Err, sym, ap, subst, ◌∙◌, arith}
use Rattle.std.proofs.Math.Seq.{take-add, take-append-add, split_at}
use Rattle.std.proofs.lemmas.List.{length-take, length-drop, length-append, take-take, take-append-le}
use Rattle.std.proofs.lemmas.List.Concat.{flat_map-append}
use Rattle.std.specs.List.{flat_map}
use Rattle.std.specs.Io.KnownBytes.{Appends, Consumes}
use Rattle.std.specs.Result.{IsErr}
use Rattle.std.proofs.lemmas.Bool.{false≢true}
use Rattle.outside_io.specs.Causes.{Rose}
use Rattle.fvm_run.specs.Writing.{TakesPrefix, Wrote}
use Rattle.fvm_run.proofs.Known.{appends_more}

-- so much of the text was written, with no fault where the sink surely takes all of it
pub record WrittenSoFar (old new : Option (List ℕ)) (before now sure left : ℕ) (text : List ℕ) (at : ℕ) : Type 0 where
  pub within : at ≤ length text
  pub taken : Appends old new (take at text)
  pub later : before ≤ now
  pub calm : length text ≤ sure → (now ≡ before) × (sure ≤ left + at)

-- these bytes were read
pub record ReadSoFar (old new : Option (List ℕ)) (before now : ℕ) (bytes : List ℕ) : Type 0 where
  pub taken : Consumes old new bytes
  pub later : before ≤ now

-- these pieces were written
pub record PiecesSoFar (old new : Option (List ℕ)) (before now : ℕ) (text : List ℕ) : Type 0 where
  pub taken : Appends old new text
  pub later : before ≤ now

-- what is left of the text from a place on, as a slice of it
abbrev pub rest_from : List ℕ → ℕ → List ℕ
rest_from text at = take (length text - at) (drop at text)

length-rest_from : (text : List ℕ) (at : ℕ) → length (rest_from text at) ≡ length text - at
length-rest_from text at = omega (arith, length-take (length text - at) (drop at text), length-drop at text)

take_more_of_rest : (text : List ℕ) (at n : ℕ) → n ≤ length text - at → take (at + n) text ≡ take at text ++ take n (rest_from text at)
take_more_of_rest text at n within =
    take-add at n text ∙ ap (λ piece. take at text ++ piece) (sym (take-take n (length text - at) (drop at text) within))

pub written_more : (old mid new : Option (List ℕ)) (f0 f1 f2 s0 s1 s2 : ℕ) (text : List ℕ) (at n : ℕ) →
    WrittenSoFar old mid f0 f1 s0 s1 text at → at < length text → n ≤ length (rest_from text at) → Appends mid new (take n (rest_from text at)) → f1 ≤ f2 →
    (0 < length (rest_from text at) → length (rest_from text at) ≤ s1 → (s1 ≤ s2 + n) × (f2 ≡ f1)) → WrittenSoFar old new f0 f2 s0 s2 text (at + n)
written_more old mid new f0 f1 f2 s0 s1 s2 text at n so_far inside few takes later sure =
    let size : length (rest_from text at) ≡ length text - at = length-rest_from text at in
    let short : n ≤ length text - at = omega arith in
    record {
      within = omega arith;
      taken = subst (λ t. Appends old new t) (sym (take_more_of_rest text at n short)) (appends_more old mid new _ _ so_far.taken takes);
      later = omega (arith, so_far.later);
      calm = λ enough.
          let had = so_far.calm enough in
          let now = sure (omega arith) (omega (arith, had.1)) in
          (now.1 ∙ had.0, omega (arith, now.0, had.1));
    }

-- a front of one part is a front of the whole, behind the parts before it
pub prefix_more : (old mid new : Option (List ℕ)) (front piece rest text : List ℕ) →
    text ≡ front ++ (piece ++ rest) → Appends old mid front → TakesPrefix mid new piece → TakesPrefix old new text
prefix_more old mid new front piece rest text parts taken (m, within, takes) =
    let cut : take (length front + m) text ≡ front ++ take m piece =
    ap (take (length front + m)) parts ∙ (take-append-add front (piece ++ rest) m ∙ ap (λ t. front ++ t) (take-append-le m piece rest within)) in
    let size : length text ≡ length front + (length piece + length rest) =
    ap length parts ∙ (length-append front (piece ++ rest) ∙ ap (λ k. length front + k) (length-append piece rest)) in
    (length front + m, omega (arith, within, size), subst (λ t. Appends old new t) (sym cut) (appends_more old mid new front (take m piece) taken takes))

pub flat_map_at : {X : Type 0} (f : X → List ℕ) (xs : List X) (i : ℕ) (d : X) → i < length xs →
    flat_map f xs ≡ flat_map f (take i xs) ++ (f (get_or xs i d) ++ flat_map f (drop (suc i) xs))
flat_map_at f xs i d inside =
    ap (flat_map f) (split_at xs i d inside) ∙ flat_map-append f (take i xs) (get_or xs i d ∷ drop (suc i) xs)

-- a piece failed: a front of all pieces was written
pub pieces_stop : {T E : Type 0} (old mid new : Option (List ℕ)) (f0 f1 f2 : ℕ) (front piece rest text : List ℕ) (result : Result T E) →
    IsErr result → text ≡ front ++ (piece ++ rest) → PiecesSoFar old mid f0 f1 front → TakesPrefix mid new piece → f1 ≤ f2 → Rose f1 f2 → Wrote old new f0 f2 text result
pieces_stop old mid new f0 f1 f2 front piece rest text (Ok done) failed parts so_far takes later rose = absurd (false≢true failed)
pieces_stop old mid new f0 f1 f2 front piece rest text (Err e) failed parts so_far takes later rose = record {
  whole = tt;
  prefix = prefix_more old mid new front piece rest text parts so_far.taken takes;
  cause = record { later = omega (arith, so_far.later); failed = omega (arith, so_far.later) };
}
