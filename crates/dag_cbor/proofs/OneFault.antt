-- Bytes have one fault, and those that have one spell no value.
use Rattle.std.proofs.Common.{◌≡◌, ℕ, ◌-◌, cond, eqb, List, length, Err, refl, sym, ap, ◌∙◌, arith, inl, inr}
use Rattle.dag_cbor.specs.declared.value.Value.{Value}
use Rattle.dag_cbor.specs.declared.fault.CborFault.{CborFault}
use Rattle.dag_cbor.specs.declared.fault.CborKind.{CborKind}
use Rattle.dag_cbor.specs.declared.fault.CborKind.TheVariants as kinds
use Rattle.dag_cbor.specs.declared.fault.Flaw.{Flaw}
use Rattle.dag_cbor.specs.declared.decoding.TheConstants.{MAX_DEPTH}
use Rattle.dag_cbor.specs.Plain.{IsPlain}
use Rattle.dag_cbor.specs.Spelling.{spelled}
use Rattle.dag_cbor.specs.Reading.{whole_at}
use Rattle.dag_cbor.specs.Faults.{rank, IsFirst, IsFault, cut, first}
use Rattle.dag_cbor.proofs.Blame.{err_is}
use Rattle.dag_cbor.proofs.RowReads.{row_forces}
use Rattle.dag_cbor.proofs.Whole.{nothing_whole}

-- the kind of this rank
abbrev ranked : ℕ → CborKind
ranked n =
    cond (eqb n 0) kinds.Cut
    (cond (eqb n 1) kinds.LongHead
    (cond (eqb n 2) kinds.Reserved
    (cond (eqb n 3) kinds.Indefinite
    (cond (eqb n 4) kinds.Float
    (cond (eqb n 5) kinds.Simple
    (cond (eqb n 6) kinds.Tag
    (cond (eqb n 7) kinds.LinkForm
    (cond (eqb n 8) kinds.Utf8
    (cond (eqb n 9) kinds.KeyKind
    (cond (eqb n 10) kinds.KeyOrder
    (cond (eqb n 11) kinds.KeyRepeat
    (cond (eqb n 12) kinds.Depth kinds.Trailing))))))))))))

ranked-rank : (kind : CborKind) → ranked (rank kind) ≡ kind
ranked-rank kinds.Cut = refl
ranked-rank kinds.LongHead = refl
ranked-rank kinds.Reserved = refl
ranked-rank kinds.Indefinite = refl
ranked-rank kinds.Float = refl
ranked-rank kinds.Simple = refl
ranked-rank kinds.Tag = refl
ranked-rank kinds.LinkForm = refl
ranked-rank kinds.Utf8 = refl
ranked-rank kinds.KeyKind = refl
ranked-rank kinds.KeyOrder = refl
ranked-rank kinds.KeyRepeat = refl
ranked-rank kinds.Depth = refl
ranked-rank kinds.Trailing = refl

same_kind : (a b : CborKind) → rank a ≡ rank b → a ≡ b
same_kind a b e = sym (ranked-rank a) ∙ ap ranked e ∙ ranked-rank b

-- the first fault is the one that reading meets
record IsMet (bytes : List ℕ) (kind : CborKind) (at : ℕ) : Type 0 where
  pub met : Flaw
  pub read : whole_at bytes ≡ Err met
  pub kind_is : met.kind ≡ kind
  pub place : length bytes - met.left ≡ at

first_met : (bytes : List ℕ) (kind : CborKind) (at : ℕ) → IsFirst bytes kind at → IsMet bytes kind at
first_met bytes kind at is =
    let f = row_forces bytes kind at is.row in
    elim (is.first f.met.kind (length bytes - f.met.left) f.row) [
      | inl lt ↦ absurd (omega (arith, f.same, lt))
      | inr both ↦
          let same : rank f.met.kind ≡ rank kind = omega (arith, f.order, both.1) in
          record { met = f.met; read = f.read; kind_is = same_kind f.met.kind kind same; place = f.place same }
    ]

same_fault : (a b : CborFault) → a.kind ≡ b.kind → a.at ≡ b.at → a ≡ b
same_fault a b kinds_same places_same =
    let of_kind : CborKind → CborFault = λ k. record { kind = k; at = a.at } in
    let of_place : ℕ → CborFault = λ n. record { kind = b.kind; at = n } in
    ap of_kind kinds_same ∙ ap of_place places_same

-- bytes have one fault
pub one_fault : (bytes : List ℕ) (a b : CborFault) → IsFault bytes a → IsFault bytes b → a ≡ b
one_fault bytes a b (cut kind_a is_a) (cut kind_b is_b) = same_fault a b (kind_a ∙ sym kind_b) (is_a.place ∙ sym is_b.place)
one_fault bytes a b (cut kind_a is_a) (first is_b) = absurd (is_a.no_row b.kind b.at is_b.row)
one_fault bytes a b (first is_a) (cut kind_b is_b) = absurd (is_b.no_row a.kind a.at is_a.row)
one_fault bytes a b (first is_a) (first is_b) =
    let p = first_met bytes a.kind a.at is_a in
    let q = first_met bytes b.kind b.at is_b in
    let same : p.met ≡ q.met = err_is p.met q.met (sym p.read ∙ q.read) in
    same_fault a b (sym p.kind_is ∙ ap (λ (f : Flaw). f.kind) same ∙ q.kind_is) (sym p.place ∙ ap (λ (f : Flaw). length bytes - f.left) same ∙ q.place)

-- bytes with a fault spell no value
pub nothing_spelled : (bytes : List ℕ) (fault : CborFault) → IsFault bytes fault → (value : Value) → IsPlain MAX_DEPTH value → bytes ≡ spelled value → ⊥
nothing_spelled bytes fault (cut kind is) value plain parts = is.nothing value plain parts
nothing_spelled bytes fault (first is) value plain parts = let p = first_met bytes fault.kind fault.at is in nothing_whole bytes p.met p.read value plain parts
