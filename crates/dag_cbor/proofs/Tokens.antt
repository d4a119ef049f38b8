-- Byte strings, texts, links, keys and tokens: what is read is spelled so, and what is spelled is read again.
use Rattle.std.proofs.Common.{◌≡◌, ℕ, zero, suc, ◌+◌, ◌^◌, ◌<◌, ◌≤◌, ltb, eqb, Bool, true, false, cond, pos, negsuc, List, [], ◌∷◌, ◌++◌, length, take, drop, Result, Ok, Err, Option, Some, None, refl, sym, ap, subst, ◌∙◌, append_assoc, arith, length-append, inl, inr}
use Rattle.std.specs.Str.{IsUtf8, is_utf8}
use Rattle.std.specs.declared.cmp.Ordering.{Ordering}
use Rattle.std.specs.declared.cmp.Ordering.TheVariants as orders
use Rattle.std.proofs.lemmas.Str.{is_utf8-from_IsUtf8, IsUtf8-from_is_utf8}
use Rattle.std.proofs.lemmas.Bool.{eqb-true, eqb-false, le-ltb, ltb-false, cases_eq, ne_eqb}
use Rattle.std.proofs.lemmas.List.{take_at, drop_at, take-append-drop, length-take}
use Rattle.fil_base.specs.CidParts.{CidParts, IsCid}
use Rattle.fil_base.specs.CidBytes.{cid_bytes}
use Rattle.dag_cbor.specs.declared.value.Value.{Value}
use Rattle.dag_cbor.specs.declared.value.Value.TheVariants as v
use Rattle.dag_cbor.specs.declared.fault.CborKind.TheVariants as kinds
use Rattle.dag_cbor.specs.declared.fault.Flaw.{Flaw}
use Rattle.dag_cbor.specs.declared.head.Head.{Head}
use Rattle.dag_cbor.specs.declared.token.Token.{Token}
use Rattle.dag_cbor.specs.declared.token.Token.TheVariants as tokens
use Rattle.dag_cbor.specs.Spelling.{head, spelled}
use Rattle.dag_cbor.specs.Plain.{IsText, IsPlain}
use Rattle.dag_cbor.specs.Keys.{last_key, order_after}
use Rattle.dag_cbor.specs.Reading.{◌>>=◌, flaw, head_at, within, blob_at, as_text, text_at, of_link, linked, as_cid, link_at, of_key, in_order, after_last, key_at, simple, blob_token, text_token, link_token, token_after, token_at}
use Rattle.dag_cbor.proofs.Equations.{spelled-Null, spelled-Bool, spelled-pos, spelled-negsuc, spelled-Blob, spelled-Text, spelled-Link, IsPlain-Null, IsPlain-Bool, IsPlain-pos, IsPlain-negsuc, IsPlain-Blob, IsPlain-Text, IsPlain-Link}
use Rattle.dag_cbor.proofs.CidLaw.{cid_of-some, cid_of-is}
use Rattle.dag_cbor.proofs.Steps.{bind_ok, ok_is, guard_ok, check_ok, chosen}
use Rattle.dag_cbor.proofs.Numbers.{IsBytes, IsBytes-drop, Takes, Takes-then}
use Rattle.dag_cbor.proofs.Heads.{TakesHead, head_takes, head_again}

-- ---- what is read is spelled so

pub record TakesBlob (len : ℕ) (bytes : List ℕ) (b : List ℕ × List ℕ) : Type 0 where
  pub taken : Takes bytes b.0 b.1
  pub len_is : length b.0 ≡ len

pub blob_takes : (len : ℕ) (bytes : List ℕ) (b : List ℕ × List ℕ) → IsBytes bytes → blob_at len bytes ≡ Ok b → TakesBlob len bytes b
unfolding blob_at
blob_takes len bytes b fits e =
    let g = guard_ok (ltb (length bytes) len) (flaw kinds.Cut 0) (take len bytes, drop len bytes) b e in
    let le : len ≤ length bytes = ltb-false _ _ g.0 in
    subst (TakesBlob len bytes) g.1 (record { taken = record { parts = sym (take-append-drop len bytes); rest_fits = IsBytes-drop len bytes fits }; len_is = omega (arith, length-take len bytes) })

-- a byte string or a text behind its head
behind_head : (major : ℕ) (bytes : List ℕ) (n : ℕ) (rest : List ℕ) (b : List ℕ × List ℕ) → Takes bytes (head major n) rest → TakesBlob n rest b → Takes bytes (head major (length b.0) ++ b.0) b.1
behind_head major bytes n rest b taken blob =
    subst (λ (k : ℕ). Takes bytes (head major k ++ b.0) b.1) (sym blob.len_is) (Takes-then bytes (head major n) rest b.0 b.1 taken blob.taken)

pub text_takes : (left len : ℕ) (bytes : List ℕ) (b : List ℕ × List ℕ) → IsBytes bytes → text_at left len bytes ≡ Ok b → TakesBlob len bytes b × IsUtf8 b.0
unfolding text_at
text_takes left len bytes b fits e =
    let a = bind_ok (blob_at len bytes) (as_text left) b e in
    let g = check_ok (is_utf8 a.0.0) (flaw kinds.Utf8 left) a.0 b a.2 in
    subst (λ (x : List ℕ × List ℕ). TakesBlob len bytes x × IsUtf8 x.0) g.1 (blob_takes len bytes a.0 fits a.1, IsUtf8-from_is_utf8 a.0.0 g.0)

linked_is : (bytes : List ℕ) (cid : CidParts) → linked bytes ≡ Some cid → IsCid cid × (bytes ≡ 0 ∷ cid_bytes cid)
linked_is [] cid e = absurd cc
linked_is (zero ∷ bytes) cid e = let found = cid_of-some bytes cid e in (found.0, ap (λ (bs : List ℕ). 0 ∷ bs) found.1)
linked_is (suc n ∷ bytes) cid e = absurd cc

as_cid_ok : (o : Option CidParts) (left : ℕ) (rest : List ℕ) (x : CidParts × List ℕ) → elim o as (λ _. Result (CidParts × List ℕ) Flaw) [ Some cid ↦ Ok (cid, rest) | None ↦ Err (flaw kinds.LinkForm left) ] ≡ Ok x
    → (o ≡ Some x.0) × (rest ≡ x.1)
as_cid_ok (Some cid) left rest x e = let is : (cid, rest) ≡ x = ok_is _ _ e in (ap (λ (y : CidParts × List ℕ). Some y.0) is, ap (λ (y : CidParts × List ℕ). y.1) is)
as_cid_ok None left rest x e = absurd cc

-- the bytes of a link behind its tag
abbrev pub link_bytes : CidParts → List ℕ
link_bytes cid = head 2 (length (cid_bytes cid) + 1) ++ (0 ∷ cid_bytes cid)

link_takes : (left : ℕ) (bytes : List ℕ) (x : CidParts × List ℕ) → IsBytes bytes → link_at left bytes ≡ Ok x → Takes bytes (link_bytes x.0) x.1 × IsCid x.0
unfolding link_at
link_takes left bytes x fits e =
    let a = bind_ok (head_at bytes >>= of_link left) (λ h. blob_at h.0.number h.1 >>= as_cid left) x e in
    let h = bind_ok (head_at bytes) (of_link left) a.0 a.1 in
    let g = check_ok (eqb h.0.0.major 2) (flaw kinds.LinkForm left) h.0 a.0 h.2 in
    let taken = head_takes bytes h.0 fits h.1 in
    let spelling : Takes bytes (head 2 a.0.0.number) a.0.1 =
    subst (λ (y : Head × List ℕ). Takes bytes (head 2 y.0.number) y.1) g.1 (subst (λ (m : ℕ). Takes bytes (head m h.0.0.number) h.0.1) (eqb-true _ _ g.0) taken.spelling) in
    let b = bind_ok (blob_at a.0.0.number a.0.1) (as_cid left) x a.2 in
    let blob = blob_takes a.0.0.number a.0.1 b.0 spelling.rest_fits b.1 in
    let c = as_cid_ok (linked b.0.0) left b.0.1 x b.2 in
    let is = linked_is b.0.0 x.0 c.0 in
    let whole : Takes bytes (head 2 (length b.0.0) ++ b.0.0) b.0.1 = behind_head 2 bytes a.0.0.number a.0.1 b.0 spelling blob in
    let len : length b.0.0 ≡ length (cid_bytes x.0) + 1 = ap length is.1 ∙ omega arith in
    (subst (λ (r : List ℕ). Takes bytes (link_bytes x.0) r) c.1 (subst (λ (k : ℕ). Takes bytes (head 2 k ++ (0 ∷ cid_bytes x.0)) b.0.1) len (subst (λ (t : List ℕ). Takes bytes (head 2 (length b.0.0) ++ t) b.0.1) is.1 whole)), is.0)

pub within_ok : (room left : ℕ) (h x : Head × List ℕ) → within room left h ≡ Ok x → (0 < room) × (h ≡ x)
within_ok room left h x e =
    let g = guard_ok (eqb room 0) (flaw kinds.Depth left) h x e in
    elim (cases_eq room 0) [
      | inl none ↦ absurd (eqb-false _ _ g.0 none)
      | inr some ↦ (omega arith, g.1)
    ]

in_order_ok : (o : Ordering) (left : ℕ) (k x : List ℕ × List ℕ) → in_order o left k ≡ Ok x → (o ≡ orders.Less) × (k ≡ x)
in_order_ok orders.Less left k x e = (refl, ok_is _ _ e)
in_order_ok orders.Equal left k x e = absurd cc
in_order_ok orders.Greater left k x e = absurd cc

-- what a key took
pub record TakesKey (room : ℕ) (pairs : List (List ℕ × Value)) (bytes : List ℕ) (k : List ℕ × List ℕ) : Type 0 where
  pub spelling : Takes bytes (head 3 (length k.0) ++ k.0) k.1
  pub text : IsText k.0
  pub order : order_after (last_key pairs) k.0 ≡ orders.Less
  pub some_room : 0 < room

pub key_takes : (room : ℕ) (pairs : List (List ℕ × Value)) (bytes : List ℕ) (k : List ℕ × List ℕ) → IsBytes bytes → key_at room pairs bytes ≡ Ok k → TakesKey room pairs bytes k
unfolding key_at
key_takes room pairs bytes k fits e =
    let left : ℕ = length bytes in
    let c = bind_ok (head_at bytes >>= of_key room left >>= λ h. text_at left h.0.number h.1) (after_last (last_key pairs) left) k e in
    let a = bind_ok (head_at bytes >>= of_key room left) (λ h. text_at left h.0.number h.1) c.0 c.1 in
    let h = bind_ok (head_at bytes) (of_key room left) a.0 a.1 in
    let g = check_ok_or (eqb h.0.0.major 3) (flaw kinds.KeyKind left) (within room left h.0) a.0 h.2 in
    let w = within_ok room left h.0 a.0 g.1 in
    let taken = head_takes bytes h.0 fits h.1 in
    let spelling : Takes bytes (head 3 h.0.0.number) h.0.1 = subst (λ (m : ℕ). Takes bytes (head m h.0.0.number) h.0.1) (eqb-true _ _ g.0) taken.spelling in
    let text_read : text_at left h.0.0.number h.0.1 ≡ Ok c.0 = ap (λ (y : Head × List ℕ). text_at left y.0.number y.1) w.1 ∙ a.2 in
    let t = text_takes left h.0.0.number h.0.1 c.0 spelling.rest_fits text_read in
    let o = in_order_ok (order_after (last_key pairs) c.0.0) left c.0 k c.2 in
    subst (TakesKey room pairs bytes) o.1 (record { spelling = behind_head 3 bytes h.0.0.number h.0.1 c.0 spelling t.0; text = (omega (arith, t.0.len_is, taken.fits), t.1); order = o.0; some_room = w.0 })
  where
    check_ok_or : {A : Type 0} (b : Bool) (at : Flaw) (r : Result A Flaw) (y : A) → cond b r (Err at) ≡ Ok y → (b ≡ true) × (r ≡ Ok y)
    check_ok_or true at r y e = (refl, e)
    check_ok_or false at r y e = absurd cc

-- what a token is the spelling of: a value, or the head of a list or a map
abbrev pub IsTaken : List ℕ → Token × List ℕ → Type 0
IsTaken bytes (tokens.Whole value, rest) = Takes bytes (spelled value) rest × ((d : ℕ) → IsPlain (suc d) value)
IsTaken bytes (tokens.List count, rest) = Takes bytes (head 4 count) rest × (count < 2 ^ 64)
IsTaken bytes (tokens.Map count, rest) = Takes bytes (head 5 count) rest × (count < 2 ^ 64)

-- a whole value whose spelling is known
taken_whole : (bytes text rest : List ℕ) (value : Value) → Takes bytes text rest → spelled value ≡ text → ((d : ℕ) → IsPlain (suc d) value) → IsTaken bytes (tokens.Whole value, rest)
taken_whole bytes text rest value taken is plain = (subst (λ (t : List ℕ). Takes bytes t rest) (sym is) taken, plain)

simple_taken : (bytes : List ℕ) (n : ℕ) (rest : List ℕ) → Takes bytes (head 7 n) rest → 20 ≤ n → n ≤ 22 → IsTaken bytes (tokens.Whole (simple n), rest)
simple_taken bytes n rest taken low high =
    elim (cases_eq n 20) [
      | inl is ↦ rw is (taken_whole bytes (head 7 20) rest (v.Bool false) (rw is at taken) (spelled-Bool false) (λ d. rw (IsPlain-Bool d false) tt))
      | inr not_20 ↦ elim (cases_eq n 21) [
        | inl is ↦ rw is (taken_whole bytes (head 7 21) rest (v.Bool true) (rw is at taken) (spelled-Bool true) (λ d. rw (IsPlain-Bool d true) tt))
        | inr not_21 ↦
            let is : n ≡ 22 = omega arith in
            rw is (taken_whole bytes (head 7 22) rest v.Null (rw is at taken) spelled-Null (λ d. rw (IsPlain-Null d) tt))
      ]
    ]

behind_taken : (left : ℕ) (bytes : List ℕ) (h : Head × List ℕ) (t : Token × List ℕ) → TakesHead bytes h → token_after left h ≡ Ok t → IsTaken bytes t
behind_taken left bytes h t taken e =
    let m : ℕ = h.0.major in
    let n : ℕ = h.0.number in
    let t7 : Result (Token × List ℕ) Flaw = Ok (tokens.Whole (simple n), h.1) in
    let t6 : Result (Token × List ℕ) Flaw = cond (eqb m 6) (link_at left h.1 >>= link_token) t7 in
    let t5 : Result (Token × List ℕ) Flaw = cond (eqb m 5) (Ok (tokens.Map n, h.1)) t6 in
    let t4 : Result (Token × List ℕ) Flaw = cond (eqb m 4) (Ok (tokens.List n, h.1)) t5 in
    let t3 : Result (Token × List ℕ) Flaw = cond (eqb m 3) (text_at left n h.1 >>= text_token) t4 in
    let t2 : Result (Token × List ℕ) Flaw = cond (eqb m 2) (blob_at n h.1 >>= blob_token) t3 in
    let t1 : Result (Token × List ℕ) Flaw = cond (eqb m 1) (Ok (tokens.Whole (v.Int (negsuc n)), h.1)) t2 in
    let here = λ (k : ℕ) (is : m ≡ k). subst (λ (k : ℕ). Takes bytes (head k n) h.1) is taken.spelling in
    let fits = taken.spelling.rest_fits in
    elim (chosen (eqb m 0) (Ok (tokens.Whole (v.Int (pos n)), h.1)) t1 (Ok t) e) [
      | inl p ↦ subst (IsTaken bytes) (ok_is _ _ p.1) (taken_whole bytes (head 0 n) h.1 (v.Int (pos n)) (here 0 (eqb-true _ _ p.0)) (spelled-pos n) (λ d. rw (IsPlain-pos d n) taken.fits))
      | inr p ↦ elim (chosen (eqb m 1) (Ok (tokens.Whole (v.Int (negsuc n)), h.1)) t2 (Ok t) p.1) [
        | inl q ↦ subst (IsTaken bytes) (ok_is _ _ q.1) (taken_whole bytes (head 1 n) h.1 (v.Int (negsuc n)) (here 1 (eqb-true _ _ q.0)) (spelled-negsuc n) (λ d. rw (IsPlain-negsuc d n) taken.fits))
        | inr q ↦ elim (chosen (eqb m 2) (blob_at n h.1 >>= blob_token) t3 (Ok t) q.1) [
          | inl r ↦
              let b = bind_ok (blob_at n h.1) blob_token t r.1 in
              let blob = blob_takes n h.1 b.0 fits b.1 in
              subst (IsTaken bytes) (ok_is _ _ b.2) (taken_whole bytes (head 2 (length b.0.0) ++ b.0.0) b.0.1 (v.Blob b.0.0) (behind_head 2 bytes n h.1 b.0 (here 2 (eqb-true _ _ r.0)) blob) (spelled-Blob b.0.0) (λ d. rw (IsPlain-Blob d b.0.0) (omega (arith, blob.len_is, taken.fits))))
          | inr r ↦ elim (chosen (eqb m 3) (text_at left n h.1 >>= text_token) t4 (Ok t) r.1) [
            | inl s ↦
                let b = bind_ok (text_at left n h.1) text_token t s.1 in
                let text = text_takes left n h.1 b.0 fits b.1 in
                subst (IsTaken bytes) (ok_is _ _ b.2) (taken_whole bytes (head 3 (length b.0.0) ++ b.0.0) b.0.1 (v.Text b.0.0) (behind_head 3 bytes n h.1 b.0 (here 3 (eqb-true _ _ s.0)) text.0) (spelled-Text b.0.0) (λ d. rw (IsPlain-Text d b.0.0) (omega (arith, text.0.len_is, taken.fits), text.1)))
            | inr s ↦ elim (chosen (eqb m 4) (Ok (tokens.List n, h.1)) t5 (Ok t) s.1) [
              | inl u ↦ subst (IsTaken bytes) (ok_is _ _ u.1) (here 4 (eqb-true _ _ u.0), taken.fits)
              | inr u ↦ elim (chosen (eqb m 5) (Ok (tokens.Map n, h.1)) t6 (Ok t) u.1) [
                | inl w ↦ subst (IsTaken bytes) (ok_is _ _ w.1) (here 5 (eqb-true _ _ w.0), taken.fits)
                | inr w ↦ elim (chosen (eqb m 6) (link_at left h.1 >>= link_token) t7 (Ok t) w.1) [
                  | inl x ↦
                      let b = bind_ok (link_at left h.1) link_token t x.1 in
                      let link = link_takes left h.1 b.0 fits b.1 in
                      let tag : Takes bytes (head 6 42) h.1 = subst (λ (k : ℕ). Takes bytes (head 6 k) h.1) (taken.tag (eqb-true _ _ x.0)) (here 6 (eqb-true _ _ x.0)) in
                      subst (IsTaken bytes) (ok_is _ _ b.2) (taken_whole bytes (head 6 42 ++ link_bytes b.0.0) b.0.1 (v.Link b.0.0) (Takes-then bytes (head 6 42) h.1 (link_bytes b.0.0) b.0.1 tag link.0) (spelled-Link b.0.0) (λ d. rw (IsPlain-Link d b.0.0) link.1))
                  | inr x ↦
                      let k0 = eqb-false _ _ p.0 in
                      let k1 = eqb-false _ _ q.0 in
                      let k2 = eqb-false _ _ r.0 in
                      let k3 = eqb-false _ _ s.0 in
                      let k4 = eqb-false _ _ u.0 in
                      let k5 = eqb-false _ _ w.0 in
                      let k6 = eqb-false _ _ x.0 in
                      let le = taken.major in
                      let seven : m ≡ 7 = omega arith in
                      let range = taken.simple seven in
                      subst (IsTaken bytes) (ok_is _ _ x.1) (simple_taken bytes n h.1 (here 7 seven) range.0 range.1)
                ]
              ]
            ]
          ]
        ]
      ]
    ]

pub token_takes : (room : ℕ) (bytes : List ℕ) (t : Token × List ℕ) → IsBytes bytes → token_at room bytes ≡ Ok t → IsTaken bytes t
unfolding token_at
token_takes room bytes t fits e =
    let a = bind_ok (head_at bytes >>= within room (length bytes)) (token_after (length bytes)) t e in
    let h = bind_ok (head_at bytes) (within room (length bytes)) a.0 a.1 in
    let w = within_ok room (length bytes) h.0 a.0 h.2 in
    behind_taken (length bytes) bytes a.0 t (subst (TakesHead bytes) w.1 (head_takes bytes h.0 fits h.1)) a.2

-- ---- what is spelled is read again

-- a head that is good at this depth
pub token_again : (room major n : ℕ) (rest : List ℕ) → 0 < room → n < 2 ^ 64 → (major ≡ 6 → n ≡ 42) → (major ≡ 7 → (20 ≤ n) × (n ≤ 22))
    → token_at room (head major n ++ rest) ≡ token_after (length (head major n ++ rest)) (record { major = major; number = n }, rest)
unfolding token_at
token_again room major n rest some fits tag simple_is =
    let left : ℕ = length (head major n ++ rest) in
    let deep : eqb room 0 ≡ false = ne_eqb room 0 (λ e. omega arith) in
    ap (λ (r : Result (Head × List ℕ) Flaw). r >>= within room left >>= token_after left) (head_again major n rest fits tag simple_is) ∙ rw deep refl

pub blob_again : (bytes rest : List ℕ) → blob_at (length bytes) (bytes ++ rest) ≡ Ok (bytes, rest)
unfolding blob_at
blob_again bytes rest =
    let long : ltb (length (bytes ++ rest)) (length bytes) ≡ false = le-ltb _ _ (omega (arith, length-append bytes rest)) in
    rw (long, take_at bytes rest (length bytes) refl, drop_at bytes rest (length bytes) refl) refl

pub text_again : (left : ℕ) (bytes rest : List ℕ) → IsUtf8 bytes → text_at left (length bytes) (bytes ++ rest) ≡ Ok (bytes, rest)
unfolding text_at
text_again left bytes rest text =
    ap (λ (r : Result (List ℕ × List ℕ) Flaw). r >>= as_text left) (blob_again bytes rest) ∙ rw (is_utf8-from_IsUtf8 bytes text) refl

link_again : (left : ℕ) (cid : CidParts) (rest : List ℕ) → IsCid cid → length (cid_bytes cid) + 1 < 2 ^ 64 → link_at left (link_bytes cid ++ rest) ≡ Ok (cid, rest)
unfolding link_at
link_again left cid rest is fits =
    let blob : List ℕ = 0 ∷ cid_bytes cid in
    let len : ℕ = length (cid_bytes cid) + 1 in
    let len_is : length blob ≡ len = omega arith in
    let found : linked blob ≡ Some cid = cid_of-is (cid_bytes cid) cid is refl in
    ap (λ (bs : List ℕ). head_at bs >>= of_link left >>= λ h. blob_at h.0.number h.1 >>= as_cid left) (append_assoc (head 2 len) blob rest)
    ∙ ap (λ (r : Result (Head × List ℕ) Flaw). r >>= of_link left >>= λ h. blob_at h.0.number h.1 >>= as_cid left) (head_again 2 len (blob ++ rest) fits (λ e. absurd (omega arith)) (λ e. absurd (omega arith)))
    ∙ ap (λ (k : ℕ). blob_at k (blob ++ rest) >>= as_cid left) (sym len_is)
    ∙ ap (λ (r : Result (List ℕ × List ℕ) Flaw). r >>= as_cid left) (blob_again blob rest)
    ∙ ap (λ (o : Option CidParts). elim o as (λ _. Result (CidParts × List ℕ) Flaw) [ Some c ↦ Ok (c, rest) | None ↦ Err (flaw kinds.LinkForm left) ]) found

-- a key whose head is read
abbrev key_behind : ℕ → Option (List ℕ) → Result (Head × List ℕ) Flaw → Result (List ℕ × List ℕ) Flaw
key_behind left last r = r >>= (λ h. text_at left h.0.number h.1) >>= after_last last left

pub key_again : (room : ℕ) (pairs : List (List ℕ × Value)) (key rest : List ℕ) → 0 < room → IsText key → order_after (last_key pairs) key ≡ orders.Less
    → key_at room pairs ((head 3 (length key) ++ key) ++ rest) ≡ Ok (key, rest)
unfolding key_at
key_again room pairs key rest some text order =
    let bytes : List ℕ = (head 3 (length key) ++ key) ++ rest in
    let left : ℕ = length bytes in
    let x : Head × List ℕ = (record { major = 3; number = length key }, key ++ rest) in
    let deep : eqb room 0 ≡ false = ne_eqb room 0 (λ e. omega arith) in
    let h : head_at bytes ≡ Ok x = ap head_at (append_assoc (head 3 (length key)) key rest) ∙ head_again 3 (length key) (key ++ rest) text.0 (λ e. absurd (omega arith)) (λ e. absurd (omega arith)) in
    let roomy : within room left x ≡ Ok x = rw deep refl in
    ap (λ (r : Result (Head × List ℕ) Flaw). key_behind left (last_key pairs) (r >>= of_key room left)) h
    ∙ ap (key_behind left (last_key pairs)) roomy
    ∙ ap (λ (r : Result (List ℕ × List ℕ) Flaw). r >>= after_last (last_key pairs) left) (text_again left key rest text.1)
    ∙ ap (λ (o : Ordering). in_order o left (key, rest)) order

-- whole values

pub never_tag : (m n : ℕ) → m < 6 → m ≡ 6 → n ≡ 42
never_tag m n lt e = absurd (omega arith)

pub never_simple : (m n : ℕ) → m < 7 → m ≡ 7 → (20 ≤ n) × (n ≤ 22)
never_simple m n lt e = absurd (omega arith)

pub blob_token_again : (room : ℕ) (bytes rest : List ℕ) → 0 < room → length bytes < 2 ^ 64 → token_at room (spelled (v.Blob bytes) ++ rest) ≡ Ok (tokens.Whole (v.Blob bytes), rest)
blob_token_again room bytes rest some fits =
    ap (λ (t : List ℕ). token_at room (t ++ rest)) (spelled-Blob bytes) ∙ ap (token_at room) (append_assoc (head 2 (length bytes)) bytes rest)
    ∙ token_again room 2 (length bytes) (bytes ++ rest) some fits (never_tag 2 _ (omega arith)) (never_simple 2 _ (omega arith)) ∙ ap (λ (r : Result (List ℕ × List ℕ) Flaw). r >>= blob_token) (blob_again bytes rest)

pub text_token_again : (room : ℕ) (bytes rest : List ℕ) → 0 < room → IsText bytes → token_at room (spelled (v.Text bytes) ++ rest) ≡ Ok (tokens.Whole (v.Text bytes), rest)
text_token_again room bytes rest some text =
    ap (λ (t : List ℕ). token_at room (t ++ rest)) (spelled-Text bytes) ∙ ap (token_at room) (append_assoc (head 3 (length bytes)) bytes rest)
    ∙ token_again room 3 (length bytes) (bytes ++ rest) some text.0 (never_tag 3 _ (omega arith)) (never_simple 3 _ (omega arith)) ∙ ap (λ (r : Result (List ℕ × List ℕ) Flaw). r >>= text_token) (text_again (length (head 3 (length bytes) ++ (bytes ++ rest))) bytes rest text.1)

pub link_token_again : (room : ℕ) (cid : CidParts) (rest : List ℕ) → 0 < room → IsCid cid → length (cid_bytes cid) + 1 < 2 ^ 64 → token_at room (spelled (v.Link cid) ++ rest) ≡ Ok (tokens.Whole (v.Link cid), rest)
link_token_again room cid rest some is fits =
    ap (λ (t : List ℕ). token_at room (t ++ rest)) (spelled-Link cid) ∙ ap (token_at room) (append_assoc (head 6 42) (link_bytes cid) rest)
    ∙ token_again room 6 42 (link_bytes cid ++ rest) some (omega arith) (λ e. refl) (never_simple 6 _ (omega arith)) ∙ ap (λ (r : Result (CidParts × List ℕ) Flaw). r >>= link_token) (link_again (length (head 6 42 ++ (link_bytes cid ++ rest))) cid rest is fits)

pub pos_token_again : (room n : ℕ) (rest : List ℕ) → 0 < room → n < 2 ^ 64 → token_at room (spelled (v.Int (pos n)) ++ rest) ≡ Ok (tokens.Whole (v.Int (pos n)), rest)
pos_token_again room n rest some fits = ap (λ (t : List ℕ). token_at room (t ++ rest)) (spelled-pos n) ∙ token_again room 0 n rest some fits (never_tag 0 _ (omega arith)) (never_simple 0 _ (omega arith))

pub negsuc_token_again : (room n : ℕ) (rest : List ℕ) → 0 < room → n < 2 ^ 64 → token_at room (spelled (v.Int (negsuc n)) ++ rest) ≡ Ok (tokens.Whole (v.Int (negsuc n)), rest)
negsuc_token_again room n rest some fits = ap (λ (t : List ℕ). token_at room (t ++ rest)) (spelled-negsuc n) ∙ token_again room 1 n rest some fits (never_tag 1 _ (omega arith)) (never_simple 1 _ (omega arith))

pub null_token_again : (room : ℕ) (rest : List ℕ) → 0 < room → token_at room (spelled v.Null ++ rest) ≡ Ok (tokens.Whole v.Null, rest)
null_token_again room rest some = ap (λ (t : List ℕ). token_at room (t ++ rest)) spelled-Null ∙ token_again room 7 22 rest some (omega arith) (λ e. absurd (omega arith)) (λ e. (omega arith, omega arith))

pub bool_token_again : (room : ℕ) (b : Bool) (rest : List ℕ) → 0 < room → token_at room (spelled (v.Bool b) ++ rest) ≡ Ok (tokens.Whole (v.Bool b), rest)
bool_token_again room true rest some = ap (λ (t : List ℕ). token_at room (t ++ rest)) (spelled-Bool true) ∙ token_again room 7 21 rest some (omega arith) (λ e. absurd (omega arith)) (λ e. (omega arith, omega arith))
bool_token_again room false rest some = ap (λ (t : List ℕ). token_at room (t ++ rest)) (spelled-Bool false) ∙ token_again room 7 20 rest some (omega arith) (λ e. absurd (omega arith)) (λ e. (omega arith, omega arith))
