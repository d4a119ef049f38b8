-- The receipts by their places, one by one; and that each has a spelling.
use Rattle.std.proofs.Common.{◌≡◌, ℕ, suc, ◌+◌, ◌^◌, ◌<◌, ◌≤◌, List, [], ◌∷◌, ◌++◌, false, cond, length, map, take, get_or, Some, None, pos, refl, sym, ap, subst, ◌∙◌, arith}
use Rattle.std.proofs.lemmas.Bool.Decides.{nat_tests}
use Rattle.std.proofs.lemmas.List.{length-map, length-take, map_push, take_more}
use Rattle.std.specs.Cmp.{nat_cmp_total}
use Rattle.std.specs.FinMap as finmap
use Rattle.std.specs.FinMap.{from_entries, insert}
use Rattle.std.specs.FinMap.Entries.{find}
use Rattle.std.specs.List.{enumerate_from}
use Rattle.std.specs.Ordering.{eq_by_cmp, nat_cmp}
use Rattle.dag_cbor.specs.Plain.{IsPlain}
use Rattle.dag_cbor.specs.declared.value.Value.{Value}
use Rattle.dag_cbor.specs.declared.value.Value.TheVariants as v
use Rattle.dag_cbor.proofs.Equations.{IsPlain-Blob, IsPlain-List, IsPlain-pos}
use Rattle.fil_message.specs.Layout.{receipt_value}
use Rattle.fil_message.specs.declared.receipt.Receipt.{Receipt}
use Rattle.fil_message.specs.declared.receipt.ReceiptLine.{ReceiptLine}
use Rattle.tipset_exec.specs.Alone.{receipts_of}

-- ---- places

push_at : {X : Type 0} (n : ℕ) (xs : List X) (x : X) → enumerate_from n (xs ++ x ∷ []) ≡ enumerate_from n xs ++ (n + length xs, x) ∷ []
push_at n [] x = ap (λ (k : ℕ). (k, x) ∷ []) (omega arith)
push_at n (y ∷ xs) x = ap (λ es. (n, y) ∷ es) (push_at (n + 1) xs x ∙ ap (λ (k : ℕ). enumerate_from (n + 1) xs ++ (k, x) ∷ []) (omega arith))

other_place : (k n : ℕ) → n < k → eq_by_cmp nat_cmp k n ≡ false
other_place k n below = grind (arith, nat_tests)

new_place : {X : Type 0} (n : ℕ) (xs : List X) (k : ℕ) → n + length xs ≤ k → find nat_cmp k (enumerate_from n xs) ≡ None
new_place n [] k past = refl
new_place n (x ∷ xs) k past =
    ap (λ b. cond b (Some x) (find nat_cmp k (enumerate_from (n + 1) xs))) (other_place k n (omega arith)) ∙ new_place (n + 1) xs k (omega arith)

one_more_value : (vs : List Value) (x : Value) → insert (from_entries {R = nat_cmp} (enumerate_from 0 vs)) (length vs) x ≡ from_entries (enumerate_from 0 (vs ++ x ∷ []))
one_more_value vs x =
    let last : 0 + length vs ≡ length vs = omega arith in
    sym (ap (from_entries {R = nat_cmp}) (push_at 0 vs x ∙ ap (λ (k : ℕ). enumerate_from 0 vs ++ (k, x) ∷ []) last)
    ∙ finmap.from_entries_push nat_cmp_total finmap.nat_cmp-IsAntisymmetric (enumerate_from 0 vs) (length vs) x (new_place 0 vs (length vs) (omega arith)))

pub one_more_receipt : (lines : List ReceiptLine) (i : ℕ) (l : ReceiptLine) → i < length lines → l ≡ get_or lines i l
    → insert (receipts_of (take i lines)) i (receipt_value l.receipt) ≡ receipts_of (take (i + 1) lines)
one_more_receipt lines i l within here =
    let value : ReceiptLine → Value = λ x. receipt_value x.receipt in
    let vs = map value (take i lines) in
    let size : length vs ≡ i = omega (arith, length-map (take i lines) value, length-take i lines) in
    let whole : map value (take (i + 1) lines) ≡ vs ++ value l ∷ [] =
    ap (map value) (take_more lines i l within ∙ ap (λ (x : ReceiptLine). take i lines ++ x ∷ []) (sym here)) ∙ map_push value (take i lines) l in
    ap (λ (k : ℕ). insert (receipts_of (take i lines)) k (value l)) (sym size) ∙ one_more_value vs (value l) ∙ ap (λ (xs : List Value). from_entries {R = nat_cmp} (enumerate_from 0 xs)) (sym whole)

-- ---- spellings

pub plain_receipt : (d : ℕ) (r : Receipt) → r.exit < 2 ^ 64 → length r.returned < 2 ^ 64 → r.used < 2 ^ 64 → IsPlain (suc (suc d)) (receipt_value r)
plain_receipt d r exit returned used =
    let number : (n : ℕ) → n < 2 ^ 64 → IsPlain (suc d) (v.Int (pos n)) = λ n small. subst (λ (P : Type 0). P) (sym (IsPlain-pos d n)) small in
    let blob : IsPlain (suc d) (v.Blob r.returned) = subst (λ (P : Type 0). P) (sym (IsPlain-Blob d r.returned)) returned in
    subst (λ (P : Type 0). P) (sym (IsPlain-List (suc d) _)) (omega arith, (number r.exit exit, (blob, (number r.used used, tt))))
