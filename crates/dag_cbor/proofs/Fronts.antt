-- A head or a byte string in front of bytes is determined by them, as a whole spelling is (`OneSpelling`).
use Rattle.std.proofs.Common.{◌≡◌, ℕ, ◌++◌, ◌^◌, ◌<◌, List, length, Result, Ok, sym, ap, ◌∙◌, arith}
use Rattle.dag_cbor.specs.declared.fault.Flaw.{Flaw}
use Rattle.dag_cbor.specs.declared.head.Head.{Head}
use Rattle.dag_cbor.specs.Spelling.{head}
use Rattle.dag_cbor.specs.Reading.{head_at}
use Rattle.dag_cbor.specs.Behind.{link_bytes_at}
use Rattle.dag_cbor.proofs.Steps.{ok_is}
use Rattle.dag_cbor.proofs.Heads.{head_again}
use Rattle.dag_cbor.proofs.Tokens.{never_tag, never_simple}
use Rattle.dag_cbor.proofs.LinkBytes.{blob_read}

-- what is read
abbrev found : {A : Type 0} → A → Result A Flaw
found x = Ok x

-- a head of an integer, a string, a list or a map
pub one_head : (major a b : ℕ) (r s : List ℕ) → major < 6 → a < 2 ^ 64 → b < 2 ^ 64 → head major a ++ r ≡ head major b ++ s → (a ≡ b) × (r ≡ s)
one_head major a b r s small a_fits b_fits is =
    let left : Head = record { major = major; number = a } in
    let right : Head = record { major = major; number = b } in
    let large : major < 7 = omega (arith, small) in
    let first = head_again major a r a_fits (never_tag major a small) (never_simple major a large) in
    let second = head_again major b s b_fits (never_tag major b small) (never_simple major b large) in
    let both : found (left, r) ≡ found (right, s) = sym first ∙ ap head_at is ∙ second in
    let same = ok_is (left, r) (right, s) both in
    (ap (λ (x : Head × List ℕ). x.0.number) same, ap (λ (x : Head × List ℕ). x.1) same)

-- a byte string
pub one_blob : (a b r s : List ℕ) → length a < 2 ^ 64 → length b < 2 ^ 64 → head 2 (length a) ++ (a ++ r) ≡ head 2 (length b) ++ (b ++ s) → (a ≡ b) × (r ≡ s)
one_blob a b r s a_fits b_fits is =
    let both : found (a, r) ≡ found (b, s) = sym (blob_read 0 a r a_fits) ∙ ap (link_bytes_at 0) is ∙ blob_read 0 b s b_fits in
    let same = ok_is (a, r) (b, s) both in
    (ap (λ (x : List ℕ × List ℕ). x.0) same, ap (λ (x : List ℕ × List ℕ). x.1) same)
