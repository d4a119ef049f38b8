-- A link is a byte string at its place that is 00 and a CID.
use Rattle.std.proofs.Common.{◌≡◌, ℕ, ◌++◌, ◌^◌, ◌<◌, List, length, eqb, Result, Ok, Err, refl, sym, ap, ◌∙◌, arith}
use Rattle.std.proofs.lemmas.Bool.{eqb-true}
use Rattle.dag_cbor.specs.declared.fault.Flaw.{Flaw}
use Rattle.dag_cbor.specs.declared.fault.CborKind.TheVariants as kinds
use Rattle.dag_cbor.specs.declared.head.Head.{Head}
use Rattle.dag_cbor.specs.Spelling.{head}
use Rattle.dag_cbor.specs.Reading.{◌>>=◌, flaw, head_at, of_link, blob_at, as_cid, link_at}
use Rattle.dag_cbor.specs.Behind.{link_bytes_at}
use Rattle.dag_cbor.proofs.Steps.{bind_ok, check_ok, ok_is}
use Rattle.dag_cbor.proofs.Numbers.{IsBytes}
use Rattle.dag_cbor.proofs.Heads.{head_takes, head_again}
use Rattle.dag_cbor.proofs.Tokens.{blob_takes, blob_again}

-- what is read
abbrev found : {A : Type 0} → A → Result A Flaw
found x = Ok x

-- a fault is no item
apart : {A : Type 0} (at : Flaw) (x : A) → Err at ≡ found x → ⊥
apart at x e = absurd cc

-- one step more behind two
bind_assoc : {A B C : Type 0} (r : Result A Flaw) (f : A → Result B Flaw) (g : B → Result C Flaw) → (r >>= λ x. f x >>= g) ≡ (r >>= f >>= g)
bind_assoc (Ok x) f g = refl
bind_assoc (Err at) f g = refl

-- a link is the byte string at its place, judged
pub link_parts : (left : ℕ) (bytes : List ℕ) → link_at left bytes ≡ (link_bytes_at left bytes >>= as_cid left)
unfolding link_at link_bytes_at
link_parts left bytes = bind_assoc (head_at bytes >>= of_link left) (λ h. blob_at h.0.number h.1) (as_cid left)

-- the byte string that is read is spelled so
pub blob_found : (left : ℕ) (bytes : List ℕ) (b : List ℕ × List ℕ) → IsBytes bytes → link_bytes_at left bytes ≡ Ok b → bytes ≡ head 2 (length b.0) ++ (b.0 ++ b.1)
unfolding link_bytes_at
blob_found left bytes b fits e =
    let a = bind_ok (head_at bytes >>= of_link left) (λ h. blob_at h.0.number h.1) b e in
    let h = bind_ok (head_at bytes) (of_link left) a.0 a.1 in
    let g = check_ok (eqb h.0.0.major 2) (flaw kinds.LinkForm left) h.0 a.0 h.2 in
    let taken = head_takes bytes h.0 fits h.1 in
    let read : blob_at h.0.0.number h.0.1 ≡ Ok b = ap (λ (x : Head × List ℕ). blob_at x.0.number x.1) g.1 ∙ a.2 in
    let blob = blob_takes h.0.0.number h.0.1 b taken.spelling.rest_fits read in
    taken.spelling.parts ∙ ap (λ (m : ℕ). head m h.0.0.number ++ h.0.1) (eqb-true _ _ g.0) ∙ ap (λ (n : ℕ). head 2 n ++ h.0.1) (sym blob.len_is) ∙ ap (λ (t : List ℕ). head 2 (length b.0) ++ t) blob.taken.parts

-- a byte string that is spelled is read
pub blob_read : (left : ℕ) (content rest : List ℕ) → length content < 2 ^ 64 → link_bytes_at left (head 2 (length content) ++ (content ++ rest)) ≡ Ok (content, rest)
unfolding link_bytes_at
blob_read left content rest fits =
    ap (λ (r : Result (Head × List ℕ) Flaw). r >>= of_link left >>= λ h. blob_at h.0.number h.1) (head_again 2 (length content) (content ++ rest) fits (λ e. absurd (omega arith)) (λ e. absurd (omega arith)))
    ∙ blob_again content rest

-- where no byte string is read, none is spelled
pub no_blob : (left : ℕ) (bytes : List ℕ) (at : Flaw) → link_bytes_at left bytes ≡ Err at → (content rest : List ℕ) → length content < 2 ^ 64 → bytes ≡ head 2 (length content) ++ (content ++ rest) → ⊥
no_blob left bytes at e content rest fits is = apart at (content, rest) (sym e ∙ ap (link_bytes_at left) is ∙ blob_read left content rest fits)

-- ---- the head of a list

-- a list's head is spelled so
pub list_found : (bytes : List ℕ) (h : Head) (rest : List ℕ) → IsBytes bytes → head_at bytes ≡ Ok (h, rest) → h.major ≡ 4 → bytes ≡ head 4 h.number ++ rest
list_found bytes h rest fits e is = (head_takes bytes (h, rest) fits e).spelling.parts ∙ ap (λ (m : ℕ). head m h.number ++ rest) is

-- where another head is read, no list's head is spelled
pub other_head : (bytes : List ℕ) (h : Head) (after : List ℕ) → head_at bytes ≡ Ok (h, after) → (h.major ≡ 4 → ⊥) → (count : ℕ) (rest : List ℕ) → count < 2 ^ 64 → bytes ≡ head 4 count ++ rest → ⊥
other_head bytes h after e other count rest fits is =
    let made : Head = record { major = 4; number = count } in
    let both : found (h, after) ≡ found (made, rest) = sym e ∙ ap head_at is ∙ head_again 4 count rest fits (λ z. absurd (omega arith)) (λ z. absurd (omega arith)) in
    other (ap (λ (x : Head × List ℕ). x.0.major) (ok_is (h, after) (made, rest) both))

-- where no head is read, no list's head is spelled
pub no_head : (bytes : List ℕ) (at : Flaw) → head_at bytes ≡ Err at → (count : ℕ) (rest : List ℕ) → count < 2 ^ 64 → bytes ≡ head 4 count ++ rest → ⊥
no_head bytes at e count rest fits is =
    let made : Head = record { major = 4; number = count } in
    apart at (made, rest) (sym e ∙ ap head_at is ∙ head_again 4 count rest fits (λ z. absurd (omega arith)) (λ z. absurd (omega arith)))
