-- Nodes have a spelling.
use Rattle.std.proofs.Common.{ℕ, suc, ◌^◌, ◌<◌, List, [], ◌∷◌, length, sym, subst, arith}
use Rattle.std.proofs.lemmas.List.Elements.{recursion_from_All}
use Rattle.std.specs.List.{AllByRecursion}
use Rattle.std.specs.Prelude.{All}
use Rattle.fil_base.specs.CidParts.{CidParts, IsCid}
use Rattle.dag_cbor.specs.declared.value.Value.{Value}
use Rattle.dag_cbor.specs.declared.value.Value.TheVariants as v
use Rattle.dag_cbor.specs.Plain.{IsPlain}
use Rattle.dag_cbor.proofs.Equations.{IsPlain-Blob, IsPlain-List, IsPlain-Link}
use Rattle.hamt_map.specs.Node.{pair_value}

plain_list : (d : ℕ) (items : List Value) → length items < 2 ^ 64 → AllByRecursion (IsPlain d) items → IsPlain (suc d) (v.List items)
plain_list d items small all = subst (λ (P : Type 0). P) (sym (IsPlain-List d items)) (small, all)

plain_blob : (d : ℕ) (bytes : List ℕ) → length bytes < 2 ^ 64 → IsPlain (suc d) (v.Blob bytes)
plain_blob d bytes small = subst (λ (P : Type 0). P) (sym (IsPlain-Blob d bytes)) small

pub plain_link : (d : ℕ) (cid : CidParts) → IsCid cid → IsPlain (suc d) (v.Link cid)
plain_link d cid is = subst (λ (P : Type 0). P) (sym (IsPlain-Link d cid)) is

pub plain_pair : (key : List ℕ) (value : Value) → length key < 2 ^ 64 → IsPlain 124 value → IsPlain 125 (pair_value (key, value))
plain_pair key value small plain = plain_list 124 (v.Blob key ∷ value ∷ []) (omega arith) (plain_blob 123 key small, (plain, tt))

pub plain_bucket : (items : List Value) → length items < 2 ^ 64 → All (IsPlain 125) items → IsPlain 126 (v.List items)
plain_bucket items small all = plain_list 125 items small (recursion_from_All (IsPlain 125) items all)

pub plain_node : (bits : List ℕ) (pointers : List Value) → length bits < 2 ^ 64 → length pointers < 2 ^ 64 → All (IsPlain 126) pointers → IsPlain 128 (v.List (v.Blob bits ∷ (v.List pointers ∷ [])))
plain_node bits pointers few small all =
    plain_list 127 (v.Blob bits ∷ v.List pointers ∷ []) (omega arith) (plain_blob 126 bits few, (plain_list 126 pointers small (recursion_from_All (IsPlain 126) pointers all), tt))
