-- What is laid out as a value is read back from it.
use Rattle.std.proofs.Common.{◌≡◌, ℕ, ◌^◌, ◌<◌, ◌≤◌, true, List, length, pos, Ok, ltb, eqb, refl, ap, ◌∙◌, arith}
use Rattle.std.proofs.lemmas.Bool.Decides.{nat_tests}
use Rattle.fil_base.specs.declared.token.TheConstants.{GREATEST_AMOUNT}
use Rattle.fil_base.specs.Amount.{amount}
use Rattle.fil_base.specs.CidParts.{CidParts}
use Rattle.dag_cbor.specs.declared.value.Value.{Value}
use Rattle.dag_cbor.specs.declared.value.Value.TheVariants as v
use Rattle.cbor_fields.specs.Readers.{u64_layer, token_layer, cid_layer, bytes_layer, items_layer, list_layer, u64_of, token_of, cid_of, bytes_of, items_of, list_of}
use Rattle.cbor_fields.proofs.Amounts.{amount_found}

pub read_number : (n : ℕ) → n < 2 ^ 64 → u64_of (v.Int (pos n)) ≡ Ok n
read_number n small =
    let fits : ltb n (2 ^ 64) ≡ true = grind (arith, nat_tests) in
    ap u64_layer (v.outs-Int (pos n)) ∙ rw fits refl

pub read_amount : (n : ℕ) → n ≤ GREATEST_AMOUNT → token_of (v.Blob (amount n)) ≡ Ok n
read_amount n small = ap token_layer (v.outs-Blob (amount n)) ∙ amount_found (amount n) n small refl

pub read_cid : (cid : CidParts) → cid_of (v.Link cid) ≡ Ok cid
read_cid cid = ap cid_layer (v.outs-Link cid)

pub read_bytes : (bytes : List ℕ) → bytes_of (v.Blob bytes) ≡ Ok bytes
read_bytes bytes = ap bytes_layer (v.outs-Blob bytes)

pub read_items : (items : List Value) → items_of (v.List items) ≡ Ok items
read_items items = ap items_layer (v.outs-List items)

pub read_list : (items : List Value) → list_of (v.List items) (length items) ≡ Ok items
read_list items =
    let same : eqb (length items) (length items) ≡ true = grind (arith, nat_tests) in
    ap (list_layer (length items)) (v.outs-List items) ∙ rw same refl
