-- Reading some items, one after another.
use Rattle.std.proofs.Common.{◌≡◌, ℕ, zero, suc, ◌-◌, ◌<◌, List, [], ◌∷◌, ◌++◌, Ok, Err, refl, sym, ap, ◌∙◌, arith}
use Rattle.fil_base.specs.Failure.{IfFault}
use Rattle.fil_base.specs.declared.failure.Failure.{Failure}
use Rattle.fil_base.specs.declared.failure.Failure.TheVariants.{NoMemory, Fault}
use Rattle.wasm_decode.specs.declared.fault.Stop.{Stop}
use Rattle.wasm_decode.specs.ReadingValues.{items_at}
use Rattle.wasm_decode.specs.Stops.{◌>>=◌, Found}

-- the next item is read
pub items_next : (A : Type 0) (item : List ℕ → Found A) (done : List A) (left : ℕ) (bytes : List ℕ) → 0 < left
    → items_at item done left bytes ≡ (item bytes >>= λ x. items_at item (done ++ x.0 ∷ []) (left - 1) x.1)
unfolding items_at
items_next A item done zero bytes some = absurd (omega (arith, some))
items_next A item done (suc left) bytes some =
    ap (λ (n : ℕ). item bytes >>= λ x. items_at item (done ++ x.0 ∷ []) n x.1) (let e : left ≡ suc left - 1 = omega arith in e)

-- no more are wanted
pub items_end : (A : Type 0) (item : List ℕ → Found A) (done : List A) (bytes : List ℕ) → items_at item done 0 bytes ≡ Ok (done, bytes)
unfolding items_at
items_end A item done bytes = refl

-- one more item
pub items_more : (A : Type 0) (item : List ℕ → Found A) (done : List A) (left : ℕ) (bytes rest : List ℕ) (x : A) (whole : Found (List A)) → 0 < left → item bytes ≡ Ok (x, rest)
    → items_at item done left bytes ≡ whole → items_at item (done ++ x ∷ []) (left - 1) rest ≡ whole
items_more A item done left bytes rest x whole some is so_far =
    sym (ap (λ (r : Found A). r >>= λ y. items_at item (done ++ y.0 ∷ []) (left - 1) y.1) is) ∙ (sym (items_next A item done left bytes some) ∙ so_far)

-- reading stops in an item
pub items_stop : (A : Type 0) (item : List ℕ → Found A) (done : List A) (left : ℕ) (bytes : List ℕ) (stop : Stop) (whole : Found (List A)) → 0 < left → item bytes ≡ Err stop
    → items_at item done left bytes ≡ whole → whole ≡ Err stop
items_stop A item done left bytes stop whole some is so_far =
    sym so_far ∙ (items_next A item done left bytes some ∙ ap (λ (r : Found A). r >>= λ y. items_at item (done ++ y.0 ∷ []) (left - 1) y.1) is)

-- all are read
pub items_all : (A : Type 0) (item : List ℕ → Found A) (done row : List A) (left : ℕ) (bytes : List ℕ) (whole : Found (List A)) → left ≡ 0 → row ≡ done
    → items_at item done left bytes ≡ whole → whole ≡ Ok (row, bytes)
items_all A item done row left bytes whole none same so_far =
    sym so_far ∙ (ap (λ (n : ℕ). items_at item done n bytes) none ∙ (items_end A item done bytes
    ∙ ap (λ (xs : List A). let found : Found (List A) = Ok (xs, bytes) in found) (sym same)))

-- reading fails in an item
pub items_failed : (A : Type 0) (item : List ℕ → Found A) (done : List A) (left : ℕ) (bytes : List ℕ) (failure : Failure Stop) (whole : Found (List A)) → 0 < left → IfFault failure (λ stop. item bytes ≡ Err stop)
    → items_at item done left bytes ≡ whole → IfFault failure (λ stop. whole ≡ Err stop)
items_failed A item done left bytes NoMemory whole some is so_far = tt
items_failed A item done left bytes (Fault stop) whole some is so_far = items_stop A item done left bytes stop whole some is so_far
