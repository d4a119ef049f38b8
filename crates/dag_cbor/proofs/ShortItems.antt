-- Items whose spelling tells at once where they end.
use Rattle.std.proofs.Common.{◌≡◌, ℕ, zero, suc, ◌+◌, ◌*◌, ◌<◌, ◌≤◌, pos, List, ◌∷◌, ◌++◌, length, take, drop, Result, Ok, sym, ap, subst, ◌∙◌, arith}
use Rattle.std.proofs.lemmas.List.{length-take-le, take-append-drop}
use Rattle.dag_cbor.specs.declared.value.Value.{Value}
use Rattle.dag_cbor.specs.declared.value.Value.TheVariants as v
use Rattle.dag_cbor.specs.declared.fault.Flaw.{Flaw}
use Rattle.dag_cbor.specs.Behind.{behind}
use Rattle.dag_cbor.specs.Plain.{IsPlain}
use Rattle.dag_cbor.specs.Reading.{item_at}
use Rattle.dag_cbor.specs.Spelling.{head, spelled}
use Rattle.dag_cbor.proofs.Equations.{IsPlain-Blob, IsPlain-Null, IsPlain-pos, spelled-Blob, spelled-Null, spelled-pos}
use Rattle.dag_cbor.proofs.Heads.{head-short}
use Rattle.dag_cbor.proofs.Items.{item_again}

-- bytes that begin with the spelling of a value are behind it
passed : (depth : ℕ) (x : Value) (bytes rest : List ℕ) → IsPlain depth x → bytes ≡ spelled x ++ rest → behind (item_at depth bytes) ≡ Ok rest
passed depth x bytes rest plain is = ap (λ (t : List ℕ). behind (item_at depth t)) is ∙ ap (λ (r : Result (Value × List ℕ) Flaw). behind r) (item_again depth x rest plain)

-- a number below 24
pub number_passed : (depth n : ℕ) (bytes rest : List ℕ) → 0 < depth → n < 24 → bytes ≡ n ∷ rest → behind (item_at depth bytes) ≡ Ok rest
number_passed zero n bytes rest some small is = absurd (omega (arith, some))
number_passed (suc depth) n bytes rest some small is =
    let one : n ≡ 32 * 0 + n = omega arith in
    passed (suc depth) (v.Int (pos n)) bytes rest (subst (λ (P : Type 0). P) (sym (IsPlain-pos depth n)) (omega (arith, small)))
    (is ∙ ap (λ (k : ℕ). k ∷ rest) one ∙ ap (λ (t : List ℕ). t ++ rest) (sym (spelled-pos n ∙ head-short 0 n small)))

-- null
pub null_passed : (depth : ℕ) (bytes rest : List ℕ) → 0 < depth → bytes ≡ 0xf6 ∷ rest → behind (item_at depth bytes) ≡ Ok rest
null_passed zero bytes rest some is = absurd (omega (arith, some))
null_passed (suc depth) bytes rest some is =
    passed (suc depth) v.Null bytes rest (rw (IsPlain-Null depth) tt)
    (is ∙ ap (λ (t : List ℕ). t ++ rest) (sym (spelled-Null ∙ head-short 7 22 (omega arith))))

-- a byte string of fewer than 24 bytes
pub string_passed : (depth len first : ℕ) (bytes rest : List ℕ) → 0 < depth → len < 24 → first ≡ 64 + len → len ≤ length rest → bytes ≡ first ∷ rest → behind (item_at depth bytes) ≡ Ok (drop len rest)
string_passed zero len first bytes rest some small one long is = absurd (omega (arith, some))
string_passed (suc depth) len first bytes rest some small one long is =
    let front : first ≡ 32 * 2 + len = omega (arith, one) in
    let size : length (take len rest) ≡ len = length-take-le len rest long in
    passed (suc depth) (v.Blob (take len rest)) bytes (drop len rest) (subst (λ (P : Type 0). P) (sym (IsPlain-Blob depth (take len rest))) (omega (arith, size, small)))
    (is ∙ (λ i. front i ∷ sym (take-append-drop len rest) i) ∙ ap (λ (t : List ℕ). (t ++ take len rest) ++ drop len rest) (sym (ap (head 2) size ∙ head-short 2 len small)) ∙ ap (λ (t : List ℕ). t ++ drop len rest) (sym (spelled-Blob (take len rest))))
