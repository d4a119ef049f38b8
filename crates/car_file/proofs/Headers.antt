-- Headers: each has one spelling, and bytes that are none have one fault.
use Rattle.std.proofs.Common.{◌≡◌, ℕ, zero, suc, pos, List, [], ◌∷◌, ◌++◌, inl, inr, refl, sym, ap, subst, ◌∙◌, arith}
use lib.Utf8.{encode}
use Rattle.std.specs.List.{IsAmong}
use Rattle.fil_base.specs.CidParts.{CidParts, IsCid}
use Rattle.dag_cbor.specs.declared.value.Value.{Value, out-Value}
use Rattle.dag_cbor.specs.declared.value.Value.TheVariants as v
use Rattle.dag_cbor.specs.declared.value.Value.TheOpen as layer
use Rattle.dag_cbor.specs.Plain.{IsPlain, IsText, KeysRise}
use Rattle.dag_cbor.specs.Spelling.{spelled}
use Rattle.dag_cbor.proofs.Equations.{keys_of, IsPlain-pos, IsPlain-Link, IsPlain-List, IsPlain-Map}
use Rattle.dag_cbor.proofs.OneSpelling.{one_spelling_within}
use Rattle.car_file.specs.Car.{header_of, roots, version}
use Rattle.car_file.specs.CarFault.{IsHeaderFault, IsMap, IsOtherKey, IsVersion1, Pairs}
use Rattle.car_file.specs.declared.fault.CarKind.{CarKind}
use Rattle.car_file.specs.declared.fault.CarKind.TheVariants.{Header, Version, Roots, Section, Cid, HashNotSupported, Digest, Cut}
use Rattle.car_file.proofs.Pairs.{HasOnlyBoth, both_pairs, one_item}

-- ---- one value for bytes

pub one_value : (x y : Value) → IsPlain 128 x → IsPlain 128 y → spelled x ≡ spelled y → x ≡ y
one_value x y plain_x plain_y same = (one_spelling_within 128 x y [] [] plain_x plain_y (ap (λ b. b ++ []) same)).0

same_maps : (pairs others : Pairs) → v.Map pairs ≡ v.Map others → pairs ≡ others
same_maps pairs others same =
    let layers : layer.Map pairs ≡ layer.Map others = sym (v.outs-Map pairs) ∙ (ap out-Value same ∙ v.outs-Map others) in
    cc

same_lists : (items others : List Value) → v.List items ≡ v.List others → items ≡ others
same_lists items others same =
    let layers : layer.List items ≡ layer.List others = sym (v.outs-List items) ∙ (ap out-Value same ∙ v.outs-List others) in
    cc

same_links : (a b : CidParts) → v.Link a ≡ v.Link b → a ≡ b
same_links a b same =
    let layers : layer.Link a ≡ layer.Link b = sym (v.outs-Link a) ∙ (ap out-Value same ∙ v.outs-Link b) in
    cc

pub one_map : (content : List ℕ) (pairs others : Pairs) → IsMap content pairs → IsMap content others → pairs ≡ others
one_map content pairs others m n =
    same_maps pairs others (one_value (v.Map pairs) (v.Map others) m.0 n.0 (sym m.1 ∙ n.1))

rises : (content : List ℕ) (pairs : Pairs) → IsMap content pairs → KeysRise (keys_of pairs)
rises content pairs m = (rw (IsPlain-Map 127 pairs) at m.0).1

-- a key of a map has one item
pub one_item_of : (content : List ℕ) (pairs others : Pairs) (key : List ℕ) (x y : Value) → IsMap content pairs → IsMap content others → IsAmong pairs (key, x) → IsAmong others (key, y) → x ≡ y
one_item_of content pairs others key x y m n has_x has_y =
    one_item pairs key x y (rises content pairs m) has_x (subst (λ all. IsAmong all (key, y)) (sym (one_map content pairs others m n)) has_y)

-- ---- the header of a root

abbrev pub roots_item : CidParts → Value
roots_item root = v.List (v.Link root ∷ [])

abbrev pub header_pairs : CidParts → Pairs
header_pairs root = (roots, roots_item root) ∷ ((version, v.Int (pos 1)) ∷ [])

text_roots : IsText roots
unfolding encode
text_roots = (omega arith, (roots, (refl, refl)))

text_version : IsText version
unfolding encode
text_version = (omega arith, (version, (refl, refl)))

plain_root : (root : CidParts) → IsCid root → IsPlain 127 (roots_item root)
plain_root root is_cid = rw (IsPlain-List 126 (v.Link root ∷ [])) (omega arith, (rw (IsPlain-Link 125 root) is_cid, tt))

plain_version : IsPlain 127 (v.Int (pos 1))
plain_version = rw (IsPlain-pos 126 1) (omega arith)

pub plain_header : (root : CidParts) → IsCid root → IsPlain 128 (header_of root)
plain_header root is_cid =
    rw (IsPlain-Map 127 (header_pairs root)) (omega arith, (refl, tt), ((text_roots, plain_root root is_cid), ((text_version, plain_version), tt)))

pub header_map : (root : CidParts) → IsCid root → IsMap (spelled (header_of root)) (header_pairs root)
header_map root is_cid = (plain_header root is_cid, refl)

has_roots : (root : CidParts) → IsAmong (header_pairs root) (roots, roots_item root)
has_roots root = (0, (omega arith, refl))

has_version : (root : CidParts) → IsAmong (header_pairs root) (version, v.Int (pos 1))
has_version root = (1, (omega arith, refl))

only_both : (root : CidParts) → HasOnlyBoth (header_pairs root)
only_both root key value (zero, (within, is)) other = other.0 (ap (λ (p : List ℕ × Value). p.0) is)
only_both root key value (suc zero, (within, is)) other = other.1 (ap (λ (p : List ℕ × Value). p.0) is)
only_both root key value (suc (suc i), (within, is)) other = absurd (omega arith)

-- one root for bytes
pub one_root : (r s : CidParts) → IsCid r → IsCid s → spelled (header_of r) ≡ spelled (header_of s) → r ≡ s
one_root r s is_r is_s same =
    let items : roots_item r ≡ roots_item s = one_item_of (spelled (header_of r)) (header_pairs r) (header_pairs s) roots (roots_item r) (roots_item s) (header_map r is_r) (plain_header s is_s, same) (has_roots r) (has_roots s) in
    let links : v.Link r ∷ [] ≡ v.Link s ∷ [] = same_lists (v.Link r ∷ []) (v.Link s ∷ []) items in
    let link : v.Link r ≡ v.Link s = cc in
    same_links r s link

root_is_cid : (root : CidParts) → IsPlain 128 (header_of root) → IsCid root
root_is_cid root plain =
    let pairs = (rw (IsPlain-Map 127 (header_pairs root)) at plain).2 in
    let items = (rw (IsPlain-List 126 (v.Link root ∷ [])) at pairs.0.1).1 in
    rw (IsPlain-Link 125 root) at items.0

-- what a map of version 1 with one root, and no other key, is
pub root_found : (content : List ℕ) (pairs : Pairs) (root : CidParts) → IsMap content pairs → IsVersion1 pairs → HasOnlyBoth pairs → IsAmong pairs (roots, roots_item root)
    → IsCid root × (content ≡ spelled (header_of root))
root_found content pairs root m first only has =
    let is : pairs ≡ header_pairs root = both_pairs pairs (roots_item root) (v.Int (pos 1)) (rises content pairs m) has first only in
    let header : IsMap content (header_pairs root) = subst (IsMap content) is m in
    (root_is_cid root header.0, header.1)

-- ---- faults

abbrev IsNone : List ℕ → Type 0
IsNone content = (pairs : Pairs) (value : Value) → IsMap content pairs → IsAmong pairs (version, value) → ⊥

abbrev HasOther : List ℕ → Type 0
HasOther content = (pairs : Pairs) × (key : List ℕ) × (value : Value) × IsMap content pairs × IsVersion1 pairs × IsAmong pairs (key, value) × IsOtherKey key

header_or_version : (content : List ℕ) → IsHeaderFault content Header → IsHeaderFault content Version → ⊥
header_or_version content (inl none) (pairs, value, m, has, differs) = none pairs value m has
header_or_version content (inr (others, key, item, n, first, has_key, other)) (pairs, value, m, has, differs) =
    differs (one_item_of content pairs others version value (v.Int (pos 1)) m n has first)

header_or_roots : (content : List ℕ) → IsHeaderFault content Header → IsHeaderFault content Roots → ⊥
header_or_roots content (inl none) (pairs, m, first, only, no_root) = none pairs (v.Int (pos 1)) m first
header_or_roots content (inr (others, key, item, n, one, has_key, other)) (pairs, m, first, only, no_root) =
    only key item (subst (λ all. IsAmong all (key, item)) (one_map content others pairs n m) has_key) other

version_or_roots : (content : List ℕ) → IsHeaderFault content Version → IsHeaderFault content Roots → ⊥
version_or_roots content (pairs, value, m, has, differs) (others, n, first, only, no_root) =
    differs (one_item_of content pairs others version value (v.Int (pos 1)) m n has first)

pub one_header_fault : (content : List ℕ) (a b : CarKind) → IsHeaderFault content a → IsHeaderFault content b → a ≡ b
one_header_fault content Header Header x y = refl
one_header_fault content Header Version x y = absurd (header_or_version content x y)
one_header_fault content Header Roots x y = absurd (header_or_roots content x y)
one_header_fault content Header Section x y = absurd y
one_header_fault content Header Cid x y = absurd y
one_header_fault content Header HashNotSupported x y = absurd y
one_header_fault content Header Digest x y = absurd y
one_header_fault content Header Cut x y = absurd y
one_header_fault content Version Header x y = absurd (header_or_version content y x)
one_header_fault content Version Version x y = refl
one_header_fault content Version Roots x y = absurd (version_or_roots content x y)
one_header_fault content Version Section x y = absurd y
one_header_fault content Version Cid x y = absurd y
one_header_fault content Version HashNotSupported x y = absurd y
one_header_fault content Version Digest x y = absurd y
one_header_fault content Version Cut x y = absurd y
one_header_fault content Roots Header x y = absurd (header_or_roots content y x)
one_header_fault content Roots Version x y = absurd (version_or_roots content y x)
one_header_fault content Roots Roots x y = refl
one_header_fault content Roots Section x y = absurd y
one_header_fault content Roots Cid x y = absurd y
one_header_fault content Roots HashNotSupported x y = absurd y
one_header_fault content Roots Digest x y = absurd y
one_header_fault content Roots Cut x y = absurd y
one_header_fault content Section b x y = absurd x
one_header_fault content Cid b x y = absurd x
one_header_fault content HashNotSupported b x y = absurd x
one_header_fault content Digest b x y = absurd x
one_header_fault content Cut b x y = absurd x

-- the header of a root has no fault
pub header_has_no_fault : (root : CidParts) (kind : CarKind) → IsCid root → IsHeaderFault (spelled (header_of root)) kind → ⊥
header_has_no_fault root Header is_cid (inl none) = none (header_pairs root) (v.Int (pos 1)) (header_map root is_cid) (has_version root)
header_has_no_fault root Header is_cid (inr (pairs, key, value, m, first, has, other)) =
    only_both root key value (subst (λ all. IsAmong all (key, value)) (one_map (spelled (header_of root)) pairs (header_pairs root) m (header_map root is_cid)) has) other
header_has_no_fault root Version is_cid (pairs, value, m, has, differs) =
    differs (one_item_of (spelled (header_of root)) pairs (header_pairs root) version value (v.Int (pos 1)) m (header_map root is_cid) has (has_version root))
header_has_no_fault root Roots is_cid (pairs, m, first, only, no_root) =
    no_root root (subst (λ all. IsAmong all (roots, roots_item root)) (one_map (spelled (header_of root)) (header_pairs root) pairs (header_map root is_cid) m) (has_roots root))
header_has_no_fault root Section is_cid x = x
header_has_no_fault root Cid is_cid x = x
header_has_no_fault root HashNotSupported is_cid x = x
header_has_no_fault root Digest is_cid x = x
header_has_no_fault root Cut is_cid x = x
