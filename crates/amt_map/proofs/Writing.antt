-- The steps by which nodes are written.
use Rattle.std.proofs.Common.{◌≡◌, ◌≢◌, ℕ, zero, suc, ◌+◌, ◌*◌, ◌-◌, ◌^◌, ◌<◌, ◌≤◌, List, [], ◌∷◌, ◌++◌, length, map, take, drop, get_or, pos, drop-cons, drop-drop, refl, sym, ap, subst, ◌∙◌, append_assoc, append-nil, arith}
use Rattle.std.proofs.lemmas.Bool.{cond_below}
use Rattle.std.proofs.lemmas.List.{drop-map, map-append, length-map}
use Rattle.std.proofs.lemmas.List.Elements.{All-head, All-map}
use Rattle.std.specs.Prelude.{All}
use Rattle.fil_base.specs.CidParts.{CidParts, IsCid}
use Rattle.dag_cbor.specs.Plain.{IsPlain}
use Rattle.dag_cbor.specs.declared.value.Value.TheVariants as v
use Rattle.dag_cbor.proofs.Equations.{IsPlain-Link, IsPlain-pos}
use Rattle.std.specs.List.{flat_map}
use Rattle.cid_core.specs.BlockParts.{BlockParts}
use Rattle.dag_cbor.specs.Spelling.{head}
use Rattle.amt_map.specs.Node.{groups, height_of}
use Rattle.amt_map.specs.NodeText.{Spellings, blocks_of, blocks_under, root_text, text_at}
use Rattle.amt_map.specs.OneNode.{IsOneNode}
use Rattle.amt_map.specs.Pairs.{digit_at}
use Rattle.amt_map.proofs.NodePlaces.{below_node, drop_node}
use Rattle.amt_map.proofs.Grouping.{first_group, first_pair, no_groups, stop_shown}

-- ---- the first run

pub run_some : {P : Type 0} (has : P → ℕ) (digit n : ℕ) (pairs : List P) (d : P) → 0 < length pairs → digit ≡ has (get_or pairs 0 d) → All (λ q. has q ≢ digit) (take 1 (drop n pairs)) → 0 < n
run_some has digit (suc n) pairs d some is apart = omega arith
run_some has digit zero [] d some is apart = absurd (omega arith)
run_some has digit zero (q ∷ pairs) d some is apart = absurd (All-head (λ r. has r ≢ digit) q [] apart (sym is))

pub first_run_is : {P X : Type 0} (f : P → ℕ × X) (height place d n : ℕ) (pairs run behind : List P) → pairs ≡ run ++ behind → behind ≡ drop n pairs → IsOneNode height place (map f pairs) → 0 < length run → d < 8
    → All (λ p. digit_at height (f p).0 ≡ d) run → All (λ p. digit_at height (f p).0 ≢ d) (take 1 behind) → groups height (map f pairs) ≡ (d, map f run) ∷ groups height (drop n (map f pairs))
first_run_is {P = P} {X = X} f height place d n pairs run behind split back one some small has apart =
    let shown : map f pairs ≡ map f run ++ map f behind = ap (map f) split ∙ map-append f run behind in
    let rest : map f behind ≡ drop n (map f pairs) = ap (map f) back ∙ sym (drop-map f n pairs) in
    ap (λ (ss : List (ℕ × X)). groups height ss) shown
    ∙ first_group height place d (map f run) (map f behind) (subst (IsOneNode height place) shown one) (let size = length-map run f in omega (arith, size, some)) small
    (All-map (λ (p : ℕ × X). digit_at height p.0 ≡ d) f run has) (stop_shown f (λ (p : ℕ × X). digit_at height p.0 ≢ d) behind apart)
    ∙ ap (λ (ss : List (ℕ × X)). (d, map f run) ∷ groups height ss) rest

pub first_run_below : {P X : Type 0} (f : P → ℕ × X) (height below place d : ℕ) (pairs run behind : List P) → height ≡ suc below → pairs ≡ run ++ behind → IsOneNode height place (map f pairs)
    → All (λ p. digit_at height (f p).0 ≡ d) run → IsOneNode below (place * 8 + d) (map f run)
first_run_below {X = X} f height below place d pairs run behind up split one has =
    let shown : map f pairs ≡ map f run ++ map f behind = ap (map f) split ∙ map-append f run behind in
    below_node below place d (map f run) (map f behind) (subst (λ (h : ℕ). IsOneNode h place (map f run ++ map f behind)) up (subst (IsOneNode height place) shown one))
    (subst (λ (h : ℕ). All (λ (p : ℕ × X). digit_at h p.0 ≡ d) (map f run)) up (All-map (λ (p : ℕ × X). digit_at height p.0 ≡ d) f run has))

-- ---- the groups that are left

pub next_group : {X : Type 0} (below height done n digit : ℕ) (ss rest run : List (ℕ × X)) → height ≡ suc below → rest ≡ drop done ss → groups height rest ≡ (digit, run) ∷ groups height (drop n rest)
    → groups (suc below) (drop done ss) ≡ (digit, run) ∷ groups (suc below) (drop (done + n) ss)
next_group {X = X} below height done n digit ss rest run up left is =
    (λ i. groups (sym up i) (sym left i)) ∙ is
    ∙ (λ i. (digit, run) ∷ groups (up i) ((ap (λ (xs : List (ℕ × X)). drop n xs) left ∙ drop-drop n done ss) i))

pub none_left : {X : Type 0} (height done : ℕ) (ss : List (ℕ × X)) → length ss ≤ done → groups height (drop done ss) ≡ []
none_left {X = X} height done ss all = ap (λ (xs : List (ℕ × X)). groups height xs) (gone done ss all) ∙ no_groups height where
  gone : (k : ℕ) (xs : List (ℕ × X)) → length xs ≤ k → drop k xs ≡ []
  gone zero [] le = refl
  gone zero (x ∷ xs) le = absurd (omega arith)
  gone (suc k) [] le = refl
  gone (suc k) (x ∷ xs) le = gone k xs (omega arith)

-- what is put for the first of those that are left
pub under_more : {G A : Type 0} (U : G → List A) (start now after : List A) (whole left rest : List G) (g : G) → now ++ flat_map U left ≡ start ++ flat_map U whole → left ≡ g ∷ rest → after ≡ now ++ U g
    → after ++ flat_map U rest ≡ start ++ flat_map U whole
under_more {A = A} U start now after whole left rest g so_far is put =
    ap (λ (xs : List A). xs ++ flat_map U rest) put ∙ append_assoc now (U g) (flat_map U rest) ∙ ap (λ (xs : List A). now ++ xs) (sym (ap (flat_map U) is)) ∙ so_far

pub under_end : {G A : Type 0} (U : G → List A) (start now : List A) (whole left : List G) → now ++ flat_map U left ≡ start ++ flat_map U whole → left ≡ [] → now ≡ start ++ flat_map U whole
under_end {A = A} U start now whole left so_far none = sym (append-nil now) ∙ ap (λ (xs : List A). now ++ xs) (sym (ap (flat_map U) none)) ∙ so_far

-- ---- the pairs of a leaf

pub leaf_left : {P X : Type 0} (f : P → ℕ × X) (place i digit : ℕ) (pairs : List P) (d : P) → IsOneNode 0 place (map f pairs) → i < length pairs → digit ≡ digit_at 0 (f (get_or pairs i d)).0
    → groups 0 (drop i (map f pairs)) ≡ (digit, f (get_or pairs i d) ∷ []) ∷ groups 0 (drop (i + 1) (map f pairs))
leaf_left {X = X} f place i digit pairs d one lt is =
    let next : suc i ≡ i + 1 = omega arith in
    let split : drop i (map f pairs) ≡ f (get_or pairs i d) ∷ drop (i + 1) (map f pairs) =
    drop-map f i pairs ∙ ap (map f) (drop-cons pairs i d lt) ∙ ap (λ (xs : List (ℕ × X)). f (get_or pairs i d) ∷ xs) (sym (drop-map f (suc i) pairs) ∙ ap (λ (k : ℕ). drop k (map f pairs)) next) in
    ap (λ (xs : List (ℕ × X)). groups 0 xs) split
    ∙ first_pair place (f (get_or pairs i d)) (drop (i + 1) (map f pairs)) (subst (IsOneNode 0 place) split (drop_node 0 place i (map f pairs) one))
    ∙ ap (λ (k : ℕ). (k, f (get_or pairs i d) ∷ []) ∷ groups 0 (drop (i + 1) (map f pairs))) (sym is)

-- ---- parts of a node

pub node_left : {P X : Type 0} (f : P → ℕ × X) (height up place done : ℕ) (pairs rest : List P) → up ≡ height → IsOneNode height place (map f pairs) → rest ≡ drop done pairs → IsOneNode up place (map f rest)
node_left {X = X} f height up place done pairs rest same one is =
    subst (λ (h : ℕ). IsOneNode h place (map f rest)) (sym same)
    (subst (IsOneNode height place) (drop-map f done pairs ∙ ap (map f) (sym is)) (drop_node height place done (map f pairs) one))

-- a link is plain
pub plain_link : (d : ℕ) (cid : CidParts) → IsCid cid → IsPlain (suc d) (v.Link cid)
plain_link d cid is = subst (λ (P : Type 0). P) (sym (IsPlain-Link d cid)) is

-- as is a number
pub plain_number : (d n : ℕ) → n < 2 ^ 64 → IsPlain (suc d) (v.Int (pos n))
plain_number d n small = subst (λ (P : Type 0). P) (sym (IsPlain-pos d n)) small

-- ---- what is written

pub under_is : (below : ℕ) (ss : Spellings) (start now : List BlockParts) → now ≡ start ++ flat_map (λ (g : ℕ × Spellings). blocks_of below g.1) (groups (suc below) ss) → now ≡ start ++ blocks_under (suc below) ss
unfolding blocks_under
under_is below ss start now is = is

pub under_height : (height : ℕ) (ss : Spellings) → 0 < height → blocks_under (suc (height - 1)) ss ≡ blocks_under height ss
under_height zero ss some = absurd (omega arith)
under_height (suc below) ss some = let one : suc (suc below - 1) ≡ suc below = omega arith in ap (λ (h : ℕ). blocks_under h ss) one

small_number : (n : ℕ) → n ≤ 19 → head 0 n ≡ n ∷ []
unfolding head
small_number n small = sym (cond_below n 24 ((32 * 0 + n) ∷ []) _ (omega (arith, small))) ∙ ap (λ (k : ℕ). k ∷ []) (omega arith)

pub root_bytes : (height : ℕ) (ss : Spellings) (count node : List ℕ) → height ≤ 19 → height ≡ height_of ss → count ≡ head 0 (length ss) → node ≡ text_at height ss
    → ((0x83 ∷ height ∷ []) ++ count) ++ node ≡ root_text ss
unfolding root_text head
root_bytes height ss count node small is counted written =
    let first : height ∷ [] ≡ head 0 (height_of ss) = sym (small_number height small) ∙ ap (λ (h : ℕ). head 0 h) is in
    let last : node ≡ text_at (height_of ss) ss = written ∙ ap (λ (h : ℕ). text_at h ss) is in
    append_assoc (0x83 ∷ height ∷ []) count node ∙ (λ i. 0x83 ∷ (first i ++ (counted i ++ last i)))
