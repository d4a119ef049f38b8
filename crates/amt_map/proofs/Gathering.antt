-- Gathering the pairs under the pointers of a node.
use Rattle.std.proofs.Common.{◌≡◌, ℕ, ◌+◌, ◌*◌, ◌^◌, ◌<◌, ◌≤◌, List, [], ◌∷◌, ◌++◌, All, map, Option, Some, None, Ok, Err, Result, Vec, Global, IfOk, IfErr, IsErrAnd, refl, sym, ap, subst, ◌∙◌, append_assoc, append-nil, arith}
use Rattle.std.proofs.lemmas.List.{map_push, map-append}
use Rattle.std.proofs.lemmas.List.Elements.{All-nil, All-head, All-tail, All-push, All-append}
use Rattle.fil_base.specs.CidParts.{CidParts}
use Rattle.dag_cbor.specs.Plain.{IsPlain}
use Rattle.dag_cbor.specs.Spelling.{spelled}
use Rattle.dag_cbor.specs.declared.value.Value.{Value}
use Rattle.tree_blocks.specs.Judging.{if_ok}
use Rattle.tree_blocks.specs.declared.fault.TreeFault.{TreeFault}
use Rattle.amt_map.specs.Holds.{FitRoot, spellings}
use Rattle.fil_base.specs.declared.failure.Failure.{Failure}
use Rattle.fil_base.specs.declared.failure.Failure.TheVariants as failures
use Rattle.amt_map.specs.Loading.{ArePut, IsFaultOf}
use Rattle.amt_map.specs.Pairs.{Pairs}
use Rattle.amt_map.specs.Reading.{AreSpelled, shown}
use Rattle.amt_map.specs.Walk.{gathered, leaf_pairs}

abbrev pub shifted : ℕ → Pairs → Pairs
shifted from leaf = map (λ v. (from + v.0, v.1)) leaf

-- ---- the values of a leaf

-- the first values of a leaf stand behind old pairs, and the others are left
pub record LeafSoFar (from : ℕ) (leaf : Option Pairs) (old now : List (ℕ × List ℕ)) (left : List (ℕ × Vec ℕ Global)) : Type 0 where
  pub done : Pairs
  pub rest : Pairs
  pub whole : leaf ≡ Some (done ++ rest)
  pub remain : shown left ≡ spellings rest
  pub put : now ≡ old ++ spellings (shifted from done)
  pub fit_done : FitRoot (shifted from done)
  pub fit_rest : FitRoot rest
  pub small : All (λ p. p.0 < 8) left

pub leaf_begin : (from : ℕ) (leaf : Option Pairs) (values : Pairs) (old : List (ℕ × List ℕ)) (left : List (ℕ × Vec ℕ Global)) → leaf ≡ Some values → AreSpelled (shown left) values → All (λ p. p.0 < 8) left → LeafSoFar from leaf old old left
leaf_begin from leaf values old left whole are small = record {
  done = [];
  rest = values;
  whole = whole;
  remain = are.same;
  put = sym (append-nil old);
  fit_done = All-nil (λ p. (p.0 < 2 ^ 60) × IsPlain 125 p.1);
  fit_rest = are.fit;
  small = small;
}

pub leaf_more : (from : ℕ) (leaf : Option Pairs) (old now after : List (ℕ × List ℕ)) (before left : List (ℕ × Vec ℕ Global)) (digit : ℕ) (spelling : Vec ℕ Global) → from + 8 ≤ 2 ^ 60
    → before ≡ (digit, spelling) ∷ left → after ≡ now ++ (from + digit, spelling.items) ∷ [] → LeafSoFar from leaf old now before → LeafSoFar from leaf old after left
leaf_more from leaf old now after before left digit spelling room next pushed so_far =
    by so_far.rest so_far.whole (sym (ap shown next) ∙ so_far.remain) so_far.fit_rest (subst (All (λ p. p.0 < 8)) next so_far.small) where
      by : (rest : Pairs) → leaf ≡ Some (so_far.done ++ rest) → (digit, spelling.items) ∷ shown left ≡ spellings rest → FitRoot rest → All (λ p. p.0 < 8) ((digit, spelling) ∷ left) → LeafSoFar from leaf old after left
      by [] whole remain fit small = cc
      by (v ∷ rest) whole remain fit small =
          let both : (digit, spelling.items) ≡ (v.0, spelled v.1) = cc in
          let digits : digit ≡ v.0 = ap (λ (p : ℕ × List ℕ). p.0) both in
          let texts : spelling.items ≡ spelled v.1 = ap (λ (p : ℕ × List ℕ). p.1) both in
          let others : shown left ≡ spellings rest = cc in
          let fits : (v.0 < 2 ^ 60) × IsPlain 125 v.1 = All-head (λ p. (p.0 < 2 ^ 60) × IsPlain 125 p.1) v rest fit in
          let digit_small : digit < 8 = All-head (λ p. p.0 < 8) (digit, spelling) left small in
          record {
            done = so_far.done ++ v ∷ [];
            rest = rest;
            whole = whole ∙ ap Some (sym (append_assoc so_far.done (v ∷ []) rest));
            remain = others;
            put = pushed ∙ (λ i. so_far.put i ++ (from + digits i, texts i) ∷ []) ∙ append_assoc old (spellings (shifted from so_far.done)) ((from + v.0, spelled v.1) ∷ [])
                ∙ ap (λ (ps : List (ℕ × List ℕ)). old ++ ps) (sym (ap spellings (map_push (λ w. (from + w.0, w.1)) so_far.done v) ∙ map_push (λ p. (p.0, spelled p.1)) (shifted from so_far.done) (from + v.0, v.1)));
            fit_done = subst FitRoot (sym (map_push (λ w. (from + w.0, w.1)) so_far.done v))
                (All-push (λ p. (p.0 < 2 ^ 60) × IsPlain 125 p.1) (shifted from so_far.done) (from + v.0, v.1) so_far.fit_done (omega (arith, room, digits, digit_small), fits.1));
            fit_rest = All-tail (λ p. (p.0 < 2 ^ 60) × IsPlain 125 p.1) v rest fit;
            small = All-tail (λ p. p.0 < 8) (digit, spelling) left small;
          }

pub leaf_end : (from : ℕ) (leaf : Option Pairs) (cid : CidParts) (old now : List (ℕ × List ℕ)) (left : List (ℕ × Vec ℕ Global)) → left ≡ [] → LeafSoFar from leaf old now left → ArePut (leaf_pairs cid from leaf) old now
leaf_end from leaf cid old now left none so_far = by so_far.rest so_far.whole (sym (ap shown none) ∙ so_far.remain) where
  by : (rest : Pairs) → leaf ≡ Some (so_far.done ++ rest) → [] ≡ spellings rest → ArePut (leaf_pairs cid from leaf) old now
  by [] whole nothing = record { pairs = shifted from so_far.done; walk = ap (leaf_pairs cid from) (whole ∙ ap Some (append-nil so_far.done)); same = so_far.put; fit = so_far.fit_done }
  by (v ∷ rest) whole nothing = cc

-- ---- children

-- the pairs under the first links stand behind old pairs, and the other links are left
pub record ChildrenSoFar (child : ℕ → CidParts → Result Pairs TreeFault) (apart from : ℕ) (links left : List (ℕ × CidParts)) (old now : List (ℕ × List ℕ)) : Type 0 where
  pub done : Pairs
  pub whole : gathered child apart from links ≡ if_ok (gathered child apart from left) (λ more. Ok (done ++ more))
  pub put : now ≡ old ++ spellings done
  pub fit : FitRoot done
  pub small : All (λ link. link.0 < 8) left

nothing_before : (r : Result Pairs TreeFault) → r ≡ if_ok r (λ more. Ok more)
nothing_before (Ok more) = refl
nothing_before (Err fault) = refl

pub children_begin : (child : ℕ → CidParts → Result Pairs TreeFault) (apart from : ℕ) (links left : List (ℕ × CidParts)) (old : List (ℕ × List ℕ)) → left ≡ links → All (λ link. link.0 < 8) links → ChildrenSoFar child apart from links left old old
children_begin child apart from links left old all small = record {
  done = [];
  whole = ap (gathered child apart from) (sym all) ∙ nothing_before (gathered child apart from left);
  put = sym (append-nil old);
  fit = All-nil (λ p. (p.0 < 2 ^ 60) × IsPlain 125 p.1);
  small = subst (All (λ link. link.0 < 8)) (sym all) small;
}

two_steps : (done more : Pairs) (r : Result Pairs TreeFault) → if_ok (if_ok r (λ rest. Ok (more ++ rest))) (λ rest. Ok (done ++ rest)) ≡ if_ok r (λ rest. Ok ((done ++ more) ++ rest))
two_steps done more (Ok rest) = ap Ok (sym (append_assoc done more rest))
two_steps done more (Err fault) = refl

-- what is left begins with a link
whole_next : (child : ℕ → CidParts → Result Pairs TreeFault) (apart from : ℕ) (links before left : List (ℕ × CidParts)) (link : ℕ × CidParts) (old now : List (ℕ × List ℕ)) → before ≡ link ∷ left
    → (so_far : ChildrenSoFar child apart from links before old now)
    → gathered child apart from links ≡ if_ok (if_ok (child (from + link.0 * apart) link.1) (λ pairs. if_ok (gathered child apart from left) (λ rest. Ok (pairs ++ rest)))) (λ more. Ok (so_far.done ++ more))
whole_next child apart from links before left link old now next so_far = so_far.whole ∙ ap (λ (ls : List (ℕ × CidParts)). if_ok (gathered child apart from ls) (λ more. Ok (so_far.done ++ more))) next

pub children_more : (child : ℕ → CidParts → Result Pairs TreeFault) (apart from : ℕ) (links before left : List (ℕ × CidParts)) (link : ℕ × CidParts) (first : ℕ) (old now after : List (ℕ × List ℕ)) → before ≡ link ∷ left
    → first ≡ from + link.0 * apart → ArePut (child first link.1) now after → ChildrenSoFar child apart from links before old now → ChildrenSoFar child apart from links left old after
children_more child apart from links before left link first old now after next is more so_far = record {
  done = so_far.done ++ more.pairs;
  whole = whole_next child apart from links before left link old now next so_far
      ∙ ap (λ (r : Result Pairs TreeFault). if_ok (if_ok r (λ pairs. if_ok (gathered child apart from left) (λ rest. Ok (pairs ++ rest)))) (λ rest. Ok (so_far.done ++ rest))) (ap (λ (f : ℕ). child f link.1) (sym is) ∙ more.walk)
      ∙ two_steps so_far.done more.pairs (gathered child apart from left);
  put = more.same ∙ ap (λ (ps : List (ℕ × List ℕ)). ps ++ spellings more.pairs) so_far.put ∙ append_assoc old (spellings so_far.done) (spellings more.pairs)
      ∙ ap (λ (ps : List (ℕ × List ℕ)). old ++ ps) (sym (map-append (λ p. (p.0, spelled p.1)) so_far.done more.pairs));
  fit = All-append (λ p. (p.0 < 2 ^ 60) × IsPlain 125 p.1) so_far.done more.pairs so_far.fit more.fit;
  small = All-tail (λ l. l.0 < 8) link left (subst (All (λ l. l.0 < 8)) next so_far.small);
}

pub children_fault : (child : ℕ → CidParts → Result Pairs TreeFault) (apart from : ℕ) (links before left : List (ℕ × CidParts)) (link : ℕ × CidParts) (old now : List (ℕ × List ℕ)) (fault : TreeFault) → before ≡ link ∷ left
    → child (from + link.0 * apart) link.1 ≡ Err fault → ChildrenSoFar child apart from links before old now → gathered child apart from links ≡ Err fault
children_fault child apart from links before left link old now fault next failed so_far =
    whole_next child apart from links before left link old now next so_far
    ∙ ap (λ (r : Result Pairs TreeFault). if_ok (if_ok r (λ pairs. if_ok (gathered child apart from left) (λ rest. Ok (pairs ++ rest)))) (λ rest. Ok (so_far.done ++ rest))) failed

pub children_end : (child : ℕ → CidParts → Result Pairs TreeFault) (apart from : ℕ) (links left : List (ℕ × CidParts)) (old now : List (ℕ × List ℕ)) → left ≡ [] → ChildrenSoFar child apart from links left old now
    → ArePut (gathered child apart from links) old now
children_end child apart from links left old now none so_far = record {
  pairs = so_far.done;
  walk = so_far.whole ∙ ap (λ (ls : List (ℕ × CidParts)). if_ok (gathered child apart from ls) (λ more. Ok (so_far.done ++ more))) none ∙ ap Ok (append-nil so_far.done);
  same = so_far.put;
  fit = so_far.fit;
}

-- a fault of a child
pub children_fault_of : {X : Type 0} (child : ℕ → CidParts → Result Pairs TreeFault) (apart from : ℕ) (links before left : List (ℕ × CidParts)) (link : ℕ × CidParts) (first : ℕ) (old now : List (ℕ × List ℕ)) (part : Failure TreeFault) (r : Result X (Failure TreeFault))
    → before ≡ link ∷ left → first ≡ from + link.0 * apart → ChildrenSoFar child apart from links before old now → IsErrAnd r (λ failure. failure ≡ part) → IsFaultOf (child first link.1) part → IfErr r (IsFaultOf (gathered child apart from links))
children_fault_of child apart from links before left link first old now part (Ok x) next is so_far same h = tt
children_fault_of child apart from links before left link first old now failures.NoMemory (Err failure) next is so_far same h = subst (IsFaultOf (gathered child apart from links)) (sym same) tt
children_fault_of child apart from links before left link first old now (failures.Fault f) (Err failure) next is so_far same h =
    subst (IsFaultOf (gathered child apart from links)) (sym same) (children_fault child apart from links before left link old now f next (ap (λ (n : ℕ). child n link.1) (sym is) ∙ h) so_far)
