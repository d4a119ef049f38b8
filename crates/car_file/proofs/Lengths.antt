-- How long the parts of an archive are: a header's length is always below 2^63.
use Rattle.std.proofs.Common.{◌≡◌, ℕ, zero, suc, ◌+◌, ◌/◌, ◌^◌, ◌<◌, ◌≤◌, Bool, true, false, cond, ltb, eqb, pos, List, [], ◌∷◌, ◌++◌, length, inl, inr, sym, ap, ◌∙◌, lit<, arith}
use Rattle.std.proofs.lemmas.Bool.{cases_lt}
use Rattle.std.proofs.lemmas.List.{length-append}
use Rattle.fil_base.specs.CidBytes.{cid_bytes}
use Rattle.fil_base.specs.CidParts.{CidParts, IsCid}
use Rattle.fil_base.specs.Varint.{varint}
use Rattle.fil_base.proofs.Varints.{varint-more, varint-small}
use Rattle.dag_cbor.specs.Spelling.{head, spelled}
use Rattle.dag_cbor.specs.declared.value.Value.TheVariants as v
use Rattle.dag_cbor.proofs.Equations.{spelled-Link, spelled-List, spelled-Map, spelled-pos}
use Rattle.car_file.specs.Car.{header_of, roots, version}

-- ---- numbers of varying length

length-varint-within : (k n : ℕ) → n < 128 ^ (suc k) → length (varint n) ≤ suc k
length-varint-within zero n small = omega (arith, ap length (varint-small n (omega arith)))
length-varint-within (suc k) n small =
    elim (cases_lt n 128) [
      | inl below ↦ omega (arith, ap length (varint-small n below))
      | inr above ↦ omega (arith, ap length (varint-more n above), length-varint-within k (n / 128) (omega arith))
    ]

pub length-varint : (n : ℕ) → n < 2 ^ 63 → length (varint n) ≤ 9
length-varint n small = length-varint-within 8 n small

-- ---- CIDs

length-either : (test : Bool) (x y : List ℕ) (most : ℕ) → length x ≤ most → length y ≤ most → length (cond test x y) ≤ most
length-either true x y most short_x short_y = short_x
length-either false x y most short_x short_y = short_y

pub length-cid_bytes : (cid : CidParts) → IsCid cid → length (cid_bytes cid) ≤ 164
unfolding cid_bytes
length-cid_bytes cid is =
    let after_hash : List ℕ = varint (length cid.digest) ++ cid.digest in
    let after_codec : List ℕ = varint cid.hash ++ after_hash in
    let after_version : List ℕ = varint cid.codec ++ after_codec in
    let whole : length (varint 1 ++ after_version) ≤ 164 = omega (arith, is.digest, length-append (varint 1) after_version, length-append (varint cid.codec) after_codec, length-append (varint cid.hash) after_hash, length-append (varint (length cid.digest)) cid.digest, length-varint 1 (omega arith), length-varint cid.codec is.codec, length-varint cid.hash is.hash, length-varint (length cid.digest) (omega (arith, is.digest))) in
    length-either (eqb cid.version 0) (0x12 ∷ (0x20 ∷ cid.digest)) (varint 1 ++ after_version) 164 (omega (arith, is.digest)) whole

some_either : (test : Bool) (x y held : List ℕ) → cond test (0x12 ∷ x) (varint 1 ++ y) ++ held ≡ [] → ⊥
some_either true x y held none = absurd (cc)
some_either false x y held none =
    absurd (let first : 1 ∷ (y ++ held) ≡ [] = sym (ap (λ one. (one ++ y) ++ held) (varint-small 1 (lit< tt))) ∙ none in cc)

-- a CID has a first byte
pub some_cid_bytes : (cid : CidParts) (held : List ℕ) → cid_bytes cid ++ held ≡ [] → ⊥
unfolding cid_bytes
some_cid_bytes cid held none = some_either (eqb cid.version 0) (0x20 ∷ cid.digest) _ held none

-- ---- headers

length-head : (major n : ℕ) → length (head major n) ≤ 9
unfolding head
length-head major n =
    length-either (ltb n 24) _ _ 9 (omega arith) (length-either (ltb n 256) _ _ 9 (omega arith) (length-either (ltb n 65536) _ _ 9 (omega arith) (length-either (ltb n 4294967296) _ _ 9 (omega arith) (omega arith))))

length-link : (root : CidParts) → IsCid root → length (spelled (v.Link root)) ≤ 183
length-link root is =
    omega (arith, ap length (spelled-Link root), length-append (head 6 42) (head 2 (length (cid_bytes root) + 1) ++ (0 ∷ cid_bytes root)), length-append (head 2 (length (cid_bytes root) + 1)) (0 ∷ cid_bytes root), length-head 6 42, length-head 2 (length (cid_bytes root) + 1), length-cid_bytes root is)

length-roots_item : (root : CidParts) → IsCid root → length (spelled (v.List (v.Link root ∷ []))) ≤ 192
length-roots_item root is =
    omega (arith, ap length (spelled-List (v.Link root ∷ [])), length-append (head 4 1) (spelled (v.Link root) ++ []), length-append (spelled (v.Link root)) [], length-head 4 1, length-link root is)

length-pair : (key item : List ℕ) → length (head 3 (length key) ++ (key ++ item)) ≤ 9 + length key + length item
length-pair key item = omega (arith, length-append (head 3 (length key)) (key ++ item), length-append key item, length-head 3 (length key))

pub length-header : (root : CidParts) → IsCid root → length (spelled (header_of root)) < 2 ^ 63
length-header root is =
    let item = spelled (v.List (v.Link root ∷ [])) in
    let number = spelled (v.Int (pos 1)) in
    let first = head 3 5 ++ (roots ++ item) in
    let second = head 3 7 ++ (version ++ number) in
    omega (arith, ap length (spelled-Map ((roots, v.List (v.Link root ∷ [])) ∷ ((version, v.Int (pos 1)) ∷ []))), length-append (head 5 2) (first ++ (second ++ [])), length-append first (second ++ []), length-append second [], length-pair roots item, length-pair version number, length-head 5 2, length-roots_item root is, ap length (spelled-pos 1), length-head 0 1)
