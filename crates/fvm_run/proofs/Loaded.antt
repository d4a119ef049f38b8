-- How long the loaded blocks are: no longer than the input.
use Rattle.std.proofs.Common.{◌≡◌, ℕ, ◌+◌, ◌<◌, ◌≤◌, ◌^◌, Bool, true, false, cond, List, [], ◌∷◌, ◌++◌, length, Option, Some, is_some, sym, subst, arith, length-append}
use Rattle.std.specs.List.{All, AllByRecursion, flat_map}
use Rattle.std.proofs.lemmas.List.Elements.{All-append, All-cons, All-from_recursion, All-nil, recursion_from_All}
use Rattle.block_base.specs.Base.{base_of, empty_list}
use Rattle.car_file.specs.Car.{car, content_of, framed, header_of}
use Rattle.cid_core.specs.BlockParts.{BlockParts, found}
use Rattle.dag_cbor.specs.Spelling.{spelled}
use Rattle.fil_base.specs.CidBytes.{cid_bytes}
use Rattle.fil_base.specs.CidEquality.{same_parts}
use Rattle.fil_base.specs.CidParts.{CidParts}
use Rattle.fil_base.specs.Varint.{varint}
use Rattle.fvm_run.specs.Cars.{IsLoaded}

-- a block has at most so many bytes
abbrev HasAtMost : ℕ → BlockParts → Type 0
HasAtMost most b = length b.bytes ≤ most

-- a block is no longer than its section
in_section : (b : BlockParts) → length b.bytes ≤ length (framed (content_of b))
in_section b = omega (arith, length-append (varint (length (content_of b))) (content_of b), length-append (cid_bytes b.cid) b.bytes)

in_sections : (most : ℕ) (blocks : List BlockParts) → length (flat_map (λ b. framed (content_of b)) blocks) ≤ most → AllByRecursion (HasAtMost most) blocks
in_sections most [] few = tt
in_sections most (b ∷ blocks) few =
    let rest : List ℕ = flat_map (λ b. framed (content_of b)) blocks in
    let both : length (framed (content_of b) ++ rest) ≡ length (framed (content_of b)) + length rest = length-append (framed (content_of b)) rest in
    (omega (arith, in_section b), in_sections most blocks (omega arith))

in_car : (most : ℕ) (root : CidParts) (blocks : List BlockParts) → length (car root blocks) ≤ most → All (HasAtMost most) blocks
unfolding car
in_car most root blocks few =
    All-from_recursion (HasAtMost most) blocks
    (in_sections most blocks (omega (arith, length-append (framed (spelled (header_of root))) (flat_map (λ b. framed (content_of b)) blocks))))

-- what holds of all blocks, and of one that may follow them
with_one : {X : Type 0} (P : X → Type 0) (test : Bool) (xs : List X) (x : X) → All P xs → P x → All P (cond test xs (xs ++ x ∷ []))
with_one P true xs x all one = all
with_one P false xs x all one = All-append P xs (x ∷ []) all (All-cons P x [] one (All-nil P))

in_base : (most : ℕ) (blocks : List BlockParts) → 1 ≤ most → All (HasAtMost most) blocks → All (HasAtMost most) (base_of blocks)
in_base most blocks some all = with_one (HasAtMost most) (is_some (found blocks empty_list.cid)) blocks empty_list all some

some_same : (x b : BlockParts) → Some x ≡ Some b → x ≡ b
some_same x b same = cc

either_found : (P : BlockParts → Type 0) (test : Bool) (x b : BlockParts) (rest : Option BlockParts) → P x → (rest ≡ Some b → P b) → cond test (Some x) rest ≡ Some b → P b
either_found P true x b rest first later is = subst P (some_same x b is) first
either_found P false x b rest first later is = later is

-- what holds of all blocks holds of the one under a CID
of_found : (P : BlockParts → Type 0) (blocks : List BlockParts) (cid : CidParts) (b : BlockParts) → AllByRecursion P blocks → found blocks cid ≡ Some b → P b
of_found P [] cid b all is = absurd (cc)
of_found P (x ∷ blocks) cid b (first, rest) is =
    either_found P (same_parts x.cid cid) x b (found blocks cid) first (of_found P blocks cid b rest) is

-- a loaded block is below 2^32 bytes long, where the input is
pub found_short : (input : List ℕ) (root : CidParts) (loaded : List BlockParts) (most : ℕ) → IsLoaded input root loaded → length input ≤ most → 1 ≤ most → most < 2 ^ 32 → (cid : CidParts) (b : BlockParts) → found loaded cid ≡ Some b → length b.bytes < 2 ^ 32
found_short input root loaded most is within some short cid b at =
    let all : All (HasAtMost most) loaded =
    subst (All (HasAtMost most)) (sym is.base) (in_base most is.blocks some (in_car most root is.blocks (subst (λ bytes. length bytes ≤ most) is.bytes within))) in
    let few : length b.bytes ≤ most = of_found (HasAtMost most) loaded cid b (recursion_from_All (HasAtMost most) loaded all) at in
    omega arith
