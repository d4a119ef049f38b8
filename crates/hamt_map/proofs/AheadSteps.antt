-- What is read from the front of a canonical node's bytes.
use Rattle.std.proofs.Common.{◌≡◌, ◌≢◌, ℕ, zero, suc, ◌+◌, ◌-◌, ◌*◌, ◌/◌, ◌%◌, ◌^◌, ◌<◌, ◌≤◌, Bool, true, false, cond, eqb, ltb, List, [], ◌∷◌, ◌++◌, length, map, get_or, Some, None, All, refl, sym, ap, subst, ◌∙◌, append_assoc, arith, rules}
use Rattle.std.proofs.lemmas.Bool.{ltb-true}
use Rattle.std.proofs.lemmas.Int.Digits.{number_digits_of}
use Rattle.std.proofs.lemmas.List.{append-nil, length-append, length-map}
use Rattle.std.proofs.lemmas.List.Elements.{All-cons, All-filter, All-head, All-map, All-nil, All-tail}
use Rattle.std.proofs.Math.Nat.{div-div-eq-div-mul, mul_comm, pow-suc}
use Rattle.std.specs.Int.{w16, w32, w64, to_be_bytes}
use Rattle.std.specs.Int.Digits.{digits_of, number_from_digits}
use Rattle.std.specs.List.{flat_map, slice_get}
use Rattle.cid_core.proofs.Digests.{IsCid-cid_of}
use Rattle.fil_base.specs.CidBytes.{cid_bytes}
use Rattle.fil_base.specs.CidParts.{CidParts, IsCid}
use Rattle.dag_cbor.specs.Plain.{IsPlain}
use Rattle.dag_cbor.specs.Spelling.{head, joined, spelled}
use Rattle.dag_cbor.specs.declared.value.Value.{Value}
use Rattle.dag_cbor.specs.declared.value.Value.TheVariants as v
use Rattle.dag_cbor.proofs.Equations.{spelled-Blob, spelled-Link, spelled-List}
use Rattle.dag_cbor.proofs.Fronts.{one_blob, one_head}
use Rattle.dag_cbor.proofs.OneSpelling.{one_spelling_within}
use Rattle.hamt_map.specs.Ahead.{AreAhead, PairsAhead, pointer_text}
use Rattle.hamt_map.specs.Canonical.{node_of}
use Rattle.hamt_map.specs.Groups.{bits_from, by_place, is_group, pointer_to, pointers_of}
use Rattle.hamt_map.specs.Holds.{FitNodes}
use Rattle.hamt_map.specs.Node.{bucket, is_small, node, node_block, pair_value, places}
use Rattle.hamt_map.specs.Pairs.{Pairs, at_place}
use Rattle.hamt_map.proofs.BitFields.{four_bytes, shifted_bits}
use Rattle.hamt_map.proofs.FitNode.{bucket_plain, few_pointers}
use Rattle.hamt_map.proofs.Grouping.{group_at}
use Rattle.hamt_map.proofs.NodeParts.{node_is}
use Rattle.hamt_map.proofs.PlainNodes.{plain_link}
use Rattle.hamt_map.proofs.PointerSteps.{pair_spelled}

-- ---- the bit field

pub field_more : (i number : ℕ) → i < 4 → number < 256 ^ i → number < 2 ^ 24
field_more zero number few small = omega (arith, small)
field_more (suc zero) number few small = omega (arith, small)
field_more (suc (suc zero)) number few small = omega (arith, small)
field_more (suc (suc (suc zero))) number few small = omega (arith, small)
field_more (suc (suc (suc (suc i)))) number few small = absurd (omega (arith, few))

pub field_small : (i number byte : ℕ) → number < 256 ^ i → byte < 256 → number * 256 + byte < 256 ^ (i + 1)
field_small i number byte small fits =
    let next : 256 ^ (i + 1) ≡ 256 ^ i * 256 = ap (λ (k : ℕ). 256 ^ k) (let e : i + 1 ≡ suc i = omega arith in e) ∙ pow-suc 256 i in
    omega (arith, next, small, fits)

-- ---- sizes

-- a part of bytes
part_short : (bytes a parts b part behind : List ℕ) → length bytes < 2 ^ 64 → bytes ≡ a ++ parts → parts ≡ b ++ (part ++ behind) → length part < 2 ^ 64
part_short bytes a parts b part behind short first second =
    let whole : length bytes ≡ length a + length parts = ap length first ∙ length-append a parts in
    let rest : length parts ≡ length b + length (part ++ behind) = ap length second ∙ length-append b (part ++ behind) in
    let own : length (part ++ behind) ≡ length part + length behind = length-append part behind in
    omega (arith, whole, rest, own, short)

two_head : length (head 4 2) ≡ 1
unfolding head
two_head = refl

pair_long : (p : List ℕ × Value) → length p.0 + 1 ≤ length (spelled (pair_value p))
pair_long p =
    let key : List ℕ = head 2 (length p.0) ++ p.0 in
    let whole : length (spelled (pair_value p)) ≡ length (head 4 2) + length (key ++ spelled p.1) = ap length (pair_spelled p) ∙ length-append (head 4 2) (key ++ spelled p.1) in
    let parts : length (key ++ spelled p.1) ≡ length key + length (spelled p.1) = length-append key (spelled p.1) in
    let own : length key ≡ length (head 2 (length p.0)) + length p.0 = length-append (head 2 (length p.0)) p.0 in
    omega (arith, whole, parts, own, two_head)

-- the spellings of pairs
abbrev pub pair_texts : Pairs → List ℕ
pair_texts pairs = joined (map spelled (map pair_value pairs))

pairs_long : (pairs : Pairs) → length pairs ≤ length (pair_texts pairs)
pairs_long [] = omega arith
pairs_long (p ∷ pairs) =
    let rest = pairs_long pairs in
    let own = pair_long p in
    let whole : length (pair_texts (p ∷ pairs)) ≡ length (spelled (pair_value p)) + length (pair_texts pairs) = length-append (spelled (pair_value p)) (pair_texts pairs) in
    omega (arith, rest, own, whole)

keys_short : (n : ℕ) (pairs : Pairs) → length (pair_texts pairs) < n → All (λ p. length p.0 < n) pairs
keys_short n [] short = All-nil (λ p. length p.0 < n)
keys_short n (p ∷ pairs) short =
    let own = pair_long p in
    let whole : length (pair_texts (p ∷ pairs)) ≡ length (spelled (pair_value p)) + length (pair_texts pairs) = length-append (spelled (pair_value p)) (pair_texts pairs) in
    All-cons (λ p. length p.0 < n) p pairs (omega (arith, own, whole, short)) (keys_short n pairs (omega (arith, whole, short)))

bucket_text : (pairs : Pairs) → spelled (bucket pairs) ≡ head 4 (length pairs) ++ pair_texts pairs
bucket_text pairs = spelled-List (map pair_value pairs) ∙ ap (λ (n : ℕ). head 4 n ++ pair_texts pairs) (length-map pairs pair_value)

bucket_short : (pairs : Pairs) → length (spelled (bucket pairs)) < 2 ^ 64 → length (pair_texts pairs) < 2 ^ 64
bucket_short pairs short =
    let whole : length (spelled (bucket pairs)) ≡ length (head 4 (length pairs)) + length (pair_texts pairs) = ap length (bucket_text pairs) ∙ length-append (head 4 (length pairs)) (pair_texts pairs) in
    omega (arith, whole, short)

bucket_fits : (pairs : Pairs) → FitNodes pairs → length (spelled (bucket pairs)) < 2 ^ 64 → IsPlain 126 (bucket pairs)
bucket_fits pairs fit short =
    let texts = bucket_short pairs short in
    let many = pairs_long pairs in
    bucket_plain pairs (record { values = fit; keys = keys_short (2 ^ 64) pairs texts; count = omega (arith, many, texts) })

pub is_cid : (below : ℕ) (group : Pairs) → IsCid (node_block below group).cid
is_cid below group = IsCid-cid_of 0x71 (spelled (node below group)) (omega arith)

pointer_fits : (below : ℕ) (group : Pairs) → FitNodes group → length (spelled (pointer_to below group)) < 2 ^ 64 → IsPlain 126 (pointer_to below group)
unfolding pointer_to
pointer_fits zero group fit short = bucket_fits group fit short
pointer_fits (suc below) group fit short =
    elim (is_small group) as (λ b. length (spelled (cond b (bucket group) (v.Link (node_block below group).cid))) < 2 ^ 64 → IsPlain 126 (cond b (bucket group) (v.Link (node_block below group).cid))) [
      | true ↦ λ short. bucket_fits group fit short
      | false ↦ λ short. plain_link 125 (node_block below group).cid (is_cid below group)
    ] short

-- ---- a node

node_text : (bits : List ℕ) (pointers : List Value) → spelled (node_of bits pointers) ≡ head 4 2 ++ (head 2 (length bits) ++ (bits ++ (head 4 (length pointers) ++ joined (map spelled pointers))))
node_text bits pointers =
    spelled-List (v.Blob bits ∷ (v.List pointers ∷ [])) ∙ (λ i. head 4 2 ++ (spelled-Blob bits i ++ (spelled-List pointers i ++ [])))
    ∙ ap (λ (t : List ℕ). head 4 2 ++ ((head 2 (length bits) ++ bits) ++ t)) (append-nil (head 4 (length pointers) ++ joined (map spelled pointers)))
    ∙ ap (λ (t : List ℕ). head 4 2 ++ t) (append_assoc (head 2 (length bits)) bits (head 4 (length pointers) ++ joined (map spelled pointers)))

pub places_ahead : (below : ℕ) (ps : Pairs) (bytes parts field behind pointers : List ℕ) (two count bits : ℕ) → length bytes < 2 ^ 64 → two < 2 ^ 64 → count < 2 ^ 64
    → bytes ≡ head 4 two ++ parts → parts ≡ head 2 (length field) ++ (field ++ behind) → behind ≡ head 4 count ++ pointers → bits ≡ number_from_digits 256 field
    → bytes ≡ spelled (node below ps) → FitNodes ps → AreAhead below (by_place (51 - below) ps) bits pointers
places_ahead below ps bytes parts field behind pointers two count bits short two_fits count_fits first second third number is fit =
    let groups : List Pairs = by_place (51 - below) ps in
    let digits : List ℕ = digits_of 256 (bits_from 0 groups) in
    let those : List Value = flat_map (pointers_of below) groups in
    let few = four_bytes (51 - below) ps in
    let many : length those ≤ 32 = few_pointers below groups in
    let a = one_head 4 two 2 parts (head 2 (length digits) ++ (digits ++ (head 4 (length those) ++ joined (map spelled those)))) (omega arith) two_fits (omega arith) (sym first ∙ is ∙ ap spelled (node_is below ps) ∙ node_text digits those) in
    let b = one_blob field digits behind (head 4 (length those) ++ joined (map spelled those)) (part_short bytes (head 4 two) parts (head 2 (length field)) field behind short first second) (omega (arith, few)) (sym second ∙ a.1) in
    let c = one_head 4 count (length those) pointers (joined (map spelled those)) (omega arith) count_fits (omega (arith, many)) (sym third ∙ b.1) in
    record {
      fit = All-map FitNodes (λ place. at_place (51 - below) place ps) places (λ k d within. All-filter _ (λ p. IsPlain 124 p.1) ps fit);
      bits_are = number ∙ ap (number_from_digits 256) b.0 ∙ number_digits_of 256 (bits_from 0 groups) (omega arith);
      bytes_are = c.1;
    }

-- ---- the next place

half_bits : (test : Bool) (a b : ℕ) → a ≡ cond test 1 0 + b * 2 → a / 2 ≡ b
half_bits true a b is = omega (arith, is)
half_bits false a b is = omega (arith, is)

even_test : (test : Bool) (a b : ℕ) → a ≡ cond test 1 0 + b * 2 → a % 2 ≡ 0 → test ≡ false
even_test true a b is even = absurd (omega (arith, is, even))
even_test false a b is even = refl

odd_test : (test : Bool) (a b : ℕ) → a ≡ cond test 1 0 + b * 2 → a % 2 ≢ 0 → test ≡ true
odd_test true a b is odd = refl
odd_test false a b is odd = absurd (odd (omega (arith, is)))

next_bits : (group : Pairs) (more : List Pairs) → bits_from 0 (group ∷ more) ≡ cond (is_group group) 1 0 + bits_from 0 more * 2
next_bits group more = ap (λ (n : ℕ). cond (is_group group) 1 0 + n) (shifted_bits 0 more)

pointers_if : (below : ℕ) (group : Pairs) (test : Bool) → is_group group ≡ test → pointers_of below group ≡ cond test (pointer_to below group ∷ []) []
unfolding pointers_of
pointers_if below group test is = ap (λ b. cond b (pointer_to below group ∷ []) []) is

text_if : (below : ℕ) (group : Pairs) (test : Bool) → is_group group ≡ test → cond test (Some (spelled (pointer_to below group))) None ≡ pointer_text below group
text_if below group test is = ap (λ b. cond b (Some (spelled (pointer_to below group))) None) (sym is)

pub no_pointer_next : (below : ℕ) (group : Pairs) (more : List Pairs) (bits half : ℕ) (bytes : List ℕ) → AreAhead below (group ∷ more) bits bytes → half ≡ bits / 2 → bits % 2 ≡ 0
    → (None ≡ pointer_text below group) × AreAhead below more half bytes
no_pointer_next below group more bits half bytes ahead halved even =
    let are : bits ≡ cond (is_group group) 1 0 + bits_from 0 more * 2 = ahead.bits_are ∙ next_bits group more in
    let none = even_test (is_group group) bits (bits_from 0 more) are even in (
      text_if below group false none,
      record {
        fit = All-tail FitNodes group more ahead.fit;
        bits_are = halved ∙ half_bits (is_group group) bits (bits_from 0 more) are;
        bytes_are = ahead.bytes_are ∙ ap (λ (vs : List Value). joined (map spelled (vs ++ flat_map (pointers_of below) more))) (pointers_if below group false none);
      },
    )

pub pointer_next : (below : ℕ) (group : Pairs) (more : List Pairs) (bits half : ℕ) (bytes pointer rest : List ℕ) (value : Value) → length bytes < 2 ^ 64 → IsPlain 126 value → pointer ≡ spelled value → bytes ≡ pointer ++ rest
    → AreAhead below (group ∷ more) bits bytes → half ≡ bits / 2 → bits % 2 ≢ 0 → (Some pointer ≡ pointer_text below group) × AreAhead below more half rest
pointer_next below group more bits half bytes pointer rest value short plain pointer_is parts ahead halved odd =
    let are : bits ≡ cond (is_group group) 1 0 + bits_from 0 more * 2 = ahead.bits_are ∙ next_bits group more in
    let some = odd_test (is_group group) bits (bits_from 0 more) are odd in
    let behind : List ℕ = joined (map spelled (flat_map (pointers_of below) more)) in
    let whole : bytes ≡ spelled (pointer_to below group) ++ behind = ahead.bytes_are ∙ ap (λ (vs : List Value). joined (map spelled (vs ++ flat_map (pointers_of below) more))) (pointers_if below group true some) in
    let long : length bytes ≡ length (spelled (pointer_to below group)) + length behind = ap length whole ∙ length-append (spelled (pointer_to below group)) behind in
    let fits = pointer_fits below group (All-head FitNodes group more ahead.fit) (omega (arith, long, short)) in
    let same = one_spelling_within 126 value (pointer_to below group) rest behind plain fits (ap (λ (t : List ℕ). t ++ rest) (sym pointer_is) ∙ sym parts ∙ whole) in (
      ap Some (pointer_is ∙ ap spelled same.0) ∙ text_if below group true some,
      record {
        fit = All-tail FitNodes group more ahead.fit;
        bits_are = halved ∙ half_bits (is_group group) bits (bits_from 0 more) are;
        bytes_are = same.1;
      },
    )

-- ---- any place

behind_half : (c : Bool) (b k : ℕ) → (cond c 1 0 + b * 2) / 2 ^ suc k ≡ b / 2 ^ k
behind_half c b k =
    let twice : 2 ^ suc k ≡ 2 * 2 ^ k = pow-suc 2 k ∙ mul_comm (2 ^ k) 2 in
    ap (λ (n : ℕ). (cond c 1 0 + b * 2) / n) twice ∙ sym (div-div-eq-div-mul (cond c 1 0 + b * 2) 2 (2 ^ k)) ∙ ap (λ (n : ℕ). n / 2 ^ k) (half_bits c (cond c 1 0 + b * 2) b refl)

first_bit : (c : Bool) (b : ℕ) → (cond c 1 0 + b * 2) % 2 ≡ cond c 1 0
first_bit true b = omega arith
first_bit false b = omega arith

bit_at : (groups : List Pairs) (k : ℕ) → k < length groups → bits_from 0 groups / 2 ^ k % 2 ≡ cond (is_group (get_or groups k [])) 1 0
bit_at [] k within = absurd (omega (arith, within))
bit_at (g ∷ groups) zero within =
    let whole : bits_from 0 (g ∷ groups) / 1 ≡ cond (is_group g) 1 0 + bits_from 0 groups * 2 = omega (arith, next_bits g groups) in
    ap (λ (n : ℕ). n % 2) whole ∙ first_bit (is_group g) (bits_from 0 groups)
bit_at (g ∷ groups) (suc k) within =
    ap (λ (n : ℕ). n / 2 ^ suc k % 2) (next_bits g groups) ∙ ap (λ (n : ℕ). n % 2) (behind_half (is_group g) (bits_from 0 groups) k) ∙ bit_at groups k (omega (arith, within))

zero_test : (b : Bool) (n : ℕ) → n ≡ cond b 1 0 → n ≡ 0 → b ≡ false
zero_test true n is none = absurd (omega (arith, is, none))
zero_test false n is none = refl

-- the bit of a place tells whether it has a pointer
pub no_pointer_at : (below place : ℕ) (ps : Pairs) (bits : ℕ) (bytes : List ℕ) → place < 32 → AreAhead below (by_place (51 - below) ps) bits bytes → bits / 2 ^ place % 2 ≡ 0 → None ≡ pointer_text below (at_place (51 - below) place ps)
no_pointer_at below place ps bits bytes small ahead zero_bit =
    let groups : List Pairs = by_place (51 - below) ps in
    let group = at_place (51 - below) place ps in
    let is : bits / 2 ^ place % 2 ≡ cond (is_group group) 1 0 =
    ap (λ (n : ℕ). n / 2 ^ place % 2) ahead.bits_are ∙ bit_at groups place small ∙ ap (λ (g : Pairs). cond (is_group g) 1 0) (group_at (51 - below) place ps [] small) in
    text_if below group false (zero_test (is_group group) (bits / 2 ^ place % 2) is zero_bit)

-- ---- which pointers are links

list_first : (n x : ℕ) (rest : List ℕ) → Some x ≡ slice_get (head 4 n ++ rest) 0 → x < 216
unfolding head
list_first n x rest e = by (ltb n 24) (ltb n (2 ^ 8)) (ltb n (2 ^ 16)) (ltb n (2 ^ 32)) refl e where
  by : (a b c d : Bool) → ltb n 24 ≡ a → Some x ≡ slice_get (cond a ((32 * 4 + n) ∷ []) (cond b (152 ∷ (n ∷ [])) (cond c (153 ∷ to_be_bytes w16 n) (cond d (154 ∷ to_be_bytes w32 n) (155 ∷ to_be_bytes w64 n)))) ++ rest) 0 → x < 216
  by true b c d small e = let is : x ≡ 32 * 4 + n = cc e in let less = ltb-true n 24 small in omega (arith, is, less)
  by false true c d large e = let is : x ≡ 152 = cc e in omega (arith, is)
  by false false true d large e = let is : x ≡ 153 = cc e in omega (arith, is)
  by false false false true large e = let is : x ≡ 154 = cc e in omega (arith, is)
  by false false false false large e = let is : x ≡ 155 = cc e in omega (arith, is)

link_first : (rest : List ℕ) → slice_get (head 6 42 ++ rest) 0 ≡ Some 216
unfolding head
link_first rest = refl

pub bucket_first : (ps : Pairs) (bytes : List ℕ) (x : ℕ) → bytes ≡ spelled (bucket ps) → Some x ≡ slice_get bytes 0 → x < 216
bucket_first ps bytes x is e = list_first (length ps) x (pair_texts ps) (e ∙ ap (λ (t : List ℕ). slice_get t 0) (is ∙ bucket_text ps))

pub linked_first : (cid : CidParts) (bytes : List ℕ) → bytes ≡ spelled (v.Link cid) → slice_get bytes 0 ≡ Some 216
linked_first cid bytes is = ap (λ (t : List ℕ). slice_get t 0) (is ∙ spelled-Link cid) ∙ link_first (head 2 (length (cid_bytes cid) + 1) ++ (0 ∷ cid_bytes cid))

pub link_is : (cid : CidParts) (value : Value) (bytes : List ℕ) → IsCid cid → IsPlain 128 value → bytes ≡ spelled value → bytes ≡ spelled (v.Link cid) → value ≡ v.Link cid
link_is cid value bytes is plain read spelled_is = (one_spelling_within 128 value (v.Link cid) [] [] plain (plain_link 127 cid is) (ap (λ (t : List ℕ). t ++ []) (sym read ∙ spelled_is))).0

pub no_tag : (x : ℕ) → x < 216 → eqb x 216 ≡ false
no_tag x less = search rules

-- ---- the pairs of a bucket

pub bucket_ahead : (ps : Pairs) (bytes pairs : List ℕ) (count : ℕ) → length bytes < 2 ^ 64 → count < 2 ^ 64 → bytes ≡ head 4 count ++ pairs → bytes ≡ spelled (bucket ps) → FitNodes ps → (count ≡ length ps) × PairsAhead ps pairs
bucket_ahead ps bytes pairs count short count_fits parts is fit =
    let texts = bucket_short ps (subst (λ (t : List ℕ). length t < 2 ^ 64) is short) in
    let many = pairs_long ps in
    let same = one_head 4 count (length ps) pairs (pair_texts ps) (omega arith) count_fits (omega (arith, many, texts)) (sym parts ∙ is ∙ bucket_text ps) in
    (same.0, record { fit = fit; bytes_are = same.1 })

pair_front : (p : List ℕ × Value) (rest : List ℕ) → spelled (pair_value p) ++ rest ≡ head 4 2 ++ (head 2 (length p.0) ++ (p.0 ++ (spelled p.1 ++ rest)))
pair_front p rest =
    ap (λ (t : List ℕ). t ++ rest) (pair_spelled p)
    ∙ append_assoc (head 4 2) ((head 2 (length p.0) ++ p.0) ++ spelled p.1) rest
    ∙ ap (λ (t : List ℕ). head 4 2 ++ t) (append_assoc (head 2 (length p.0) ++ p.0) (spelled p.1) rest ∙ append_assoc (head 2 (length p.0)) p.0 (spelled p.1 ++ rest))

pub pair_next : (p : List ℕ × Value) (more : Pairs) (bytes parts key behind spelling rest : List ℕ) (two : ℕ) (value : Value) → length bytes < 2 ^ 64 → two < 2 ^ 64
    → bytes ≡ head 4 two ++ parts → parts ≡ head 2 (length key) ++ (key ++ behind) → IsPlain 124 value → spelling ≡ spelled value → behind ≡ spelling ++ rest
    → PairsAhead (p ∷ more) bytes → (key ≡ p.0) × (spelling ≡ spelled p.1) × PairsAhead more rest
pair_next p more bytes parts key behind spelling rest two value short two_fits first second plain spelling_is third ahead =
    let own = pair_long p in
    let whole : bytes ≡ spelled (pair_value p) ++ pair_texts more = ahead.bytes_are in
    let long : length bytes ≡ length (spelled (pair_value p)) + length (pair_texts more) = ap length whole ∙ length-append (spelled (pair_value p)) (pair_texts more) in
    let a = one_head 4 two 2 parts (head 2 (length p.0) ++ (p.0 ++ (spelled p.1 ++ pair_texts more))) (omega arith) two_fits (omega arith) (sym first ∙ whole ∙ pair_front p (pair_texts more)) in
    let b = one_blob key p.0 behind (spelled p.1 ++ pair_texts more) (part_short bytes (head 4 two) parts (head 2 (length key)) key behind short first second) (omega (arith, own, long, short)) (sym second ∙ a.1) in
    let c = one_spelling_within 124 value p.1 rest (pair_texts more) plain (All-head (λ q. IsPlain 124 q.1) p more ahead.fit) (ap (λ (t : List ℕ). t ++ rest) (sym spelling_is) ∙ sym third ∙ b.1) in
    (b.0, spelling_is ∙ ap spelled c.0, record { fit = All-tail (λ q. IsPlain 124 q.1) p more ahead.fit; bytes_are = c.1 })
