-- A fault that reading meets is one that the bytes have.
use Rattle.std.proofs.Common.{◌≡◌, ℕ, zero, suc, ◌-◌, ◌/◌, ◌%◌, ◌^◌, ◌<◌, cond, eqb, ltb, pos, negsuc, List, [], ◌∷◌, ◌++◌, length, take, drop, Result, Ok, Err, Option, Some, None, refl, sym, ap, subst, ◌∙◌, append_assoc, arith, inl, inr, ◌⊎◌}
use Rattle.std.specs.Int.{Width, w8, w16, w32, w64, byte_len, from_be_bytes}
use Rattle.std.specs.Str.{IsUtf8, is_utf8}
use Rattle.std.proofs.lemmas.Str.{is_utf8-from_IsUtf8}
use Rattle.std.proofs.lemmas.Bool.{both_ways, eqb-true, eqb-false}
use Rattle.fil_base.specs.CidParts.{CidParts, IsCid}
use Rattle.fil_base.specs.CidBytes.{cid_bytes}
use Rattle.dag_cbor.specs.declared.value.Value.TheVariants as v
use Rattle.dag_cbor.specs.declared.fault.Flaw.{Flaw}
use Rattle.dag_cbor.specs.declared.fault.CborKind.{CborKind}
use Rattle.dag_cbor.specs.declared.fault.CborKind.TheVariants as kinds
use Rattle.dag_cbor.specs.declared.head.RawHead.{RawHead}
use Rattle.dag_cbor.specs.declared.head.Head.{Head}
use Rattle.dag_cbor.specs.declared.token.Token.{Token}
use Rattle.dag_cbor.specs.declared.token.Token.TheVariants as tokens
use Rattle.dag_cbor.specs.HeadRows.{head_fault}
use Rattle.dag_cbor.specs.Spelling.{head}
use Rattle.dag_cbor.specs.Reading.{◌>>=◌, flaw, number_at, number_behind, with_number, unless, judged, within, of_link, as_cid, as_text, linked, blob_at, text_at, raw_head_at, head_at, link_at, simple, blob_token, text_token, link_token, token_after, token_at}
use Rattle.dag_cbor.specs.Faults.{Level, opened, IsOpen, Spot, item, content, before, IsSpot, IsItemSpot, DepthRow, ContentRow, LinkRow, TextRow, Row}
use Rattle.dag_cbor.proofs.CidLaw.{cid_of-is}
use Rattle.dag_cbor.proofs.Steps.{bind_ok, ok_is, chosen}
use Rattle.dag_cbor.proofs.Numbers.{IsBytes, Takes}
use Rattle.dag_cbor.proofs.Heads.{unless_ok, TakesHead, head_takes}
use Rattle.dag_cbor.proofs.Tokens.{TakesBlob, blob_takes, within_ok}
use Rattle.dag_cbor.proofs.RowReads.{to_row, fault_shown, left_place}

-- ---- steps that failed

abbrev pub failed : {A : Type 0} → Flaw → Result A Flaw
failed at = Err at

pub err_is : {A : Type 0} (at met : Flaw) → failed {A = A} at ≡ Err met → at ≡ met
err_is at met e = cc

pub bind_err : {A B : Type 0} (r : Result A Flaw) (next : A → Result B Flaw) (at : Flaw) → (r >>= next) ≡ Err at → (r ≡ Err at) ⊎ ((x : A) × (r ≡ Ok x) × (next x ≡ Err at))
bind_err (Ok x) next at e = inr (x, refl, e)
bind_err (Err met) next at e = inl cc

pub not_failed : {A : Type 0} (x : A) (at : Flaw) → Ok x ≡ failed at → ⊥
not_failed x at e = cc

abbrev pub IsCutFlaw : Flaw → Type 0
IsCutFlaw at = flaw kinds.Cut 0 ≡ at

number_err : (width : Width) (bytes : List ℕ) (at : Flaw) → number_at width bytes ≡ Err at → IsCutFlaw at
number_err width bytes at e =
    elim (chosen (ltb (length bytes) (byte_len width)) (Err (flaw kinds.Cut 0)) (Ok (from_be_bytes width (take (byte_len width) bytes), drop (byte_len width) bytes)) (Err at) e) [
      | inl p ↦ err_is _ _ p.1
      | inr p ↦ absurd (not_failed _ at p.1)
    ]

behind_err : (info : ℕ) (bytes : List ℕ) (at : Flaw) → number_behind info bytes ≡ Err at → IsCutFlaw at
behind_err info bytes at e =
    let l : Result (ℕ × List ℕ) Flaw = cond (eqb info 27) (number_at w64 bytes) (Ok (info, bytes)) in
    let m : Result (ℕ × List ℕ) Flaw = cond (eqb info 26) (number_at w32 bytes) l in
    let k : Result (ℕ × List ℕ) Flaw = cond (eqb info 25) (number_at w16 bytes) m in
    elim (chosen (eqb info 24) (number_at w8 bytes) k (Err at) e) [
      | inl p ↦ number_err w8 bytes at p.1
      | inr p ↦ elim (chosen (eqb info 25) (number_at w16 bytes) m (Err at) p.1) [
        | inl q ↦ number_err w16 bytes at q.1
        | inr q ↦ elim (chosen (eqb info 26) (number_at w32 bytes) l (Err at) q.1) [
          | inl r ↦ number_err w32 bytes at r.1
          | inr r ↦ elim (chosen (eqb info 27) (number_at w64 bytes) (Ok (info, bytes)) (Err at) r.1) [
            | inl s ↦ number_err w64 bytes at s.1
            | inr s ↦ absurd (not_failed _ at s.1)
          ]
        ]
      ]
    ]

raw_err : (bytes : List ℕ) (at : Flaw) → raw_head_at bytes ≡ Err at → IsCutFlaw at
unfolding raw_head_at
raw_err [] at e = err_is _ _ e
raw_err (first ∷ rest) at e =
    elim (bind_err (number_behind (first % 32) rest) (with_number (first / 32) (first % 32)) at e) [
      | inl p ↦ behind_err (first % 32) rest at p
      | inr x ↦ absurd (not_failed _ at x.2)
    ]

-- a head that has a fault by itself
record BadHead (rest : List ℕ) (at : Flaw) : Type 0 where
  pub raw : RawHead
  pub after : List ℕ
  pub kind : CborKind
  pub read : raw_head_at rest ≡ Ok (raw, after)
  pub fault : head_fault raw ≡ Some kind
  pub is : flaw kind (length rest) ≡ at

unless_err : (fault : Option CborKind) (left : ℕ) (x : Head × List ℕ) (at : Flaw) → unless fault left x ≡ Err at → (kind : CborKind) × (fault ≡ Some kind) × (flaw kind left ≡ at)
unless_err None left x at e = absurd (not_failed _ at e)
unless_err (Some kind) left x at e = (kind, refl, err_is _ _ e)

head_err : (rest : List ℕ) (at : Flaw) → head_at rest ≡ Err at → IsCutFlaw at ⊎ BadHead rest at
unfolding head_at
head_err rest at e =
    elim (bind_err (raw_head_at rest) (judged (length rest)) at e) [
      | inl p ↦ inl (raw_err rest at p)
      | inr x ↦
          let u = unless_err (head_fault x.0.0) (length rest) (record { major = x.0.0.major; number = x.0.0.number }, x.0.1) at x.2 in
          inr (record { raw = x.0.0; after = x.0.1; kind = u.0; read = x.1; fault = u.1; is = u.2 })
    ]

-- a head that has none
pub record GoodHead (rest : List ℕ) (h : Head × List ℕ) : Type 0 where
  pub raw : RawHead
  pub after : List ℕ
  pub read : raw_head_at rest ≡ Ok (raw, after)
  pub major_is : raw.major ≡ h.0.major

pub head_ok : (rest : List ℕ) (h : Head × List ℕ) → head_at rest ≡ Ok h → GoodHead rest h
unfolding head_at
head_ok rest h e =
    let r = bind_ok (raw_head_at rest) (judged (length rest)) h e in
    let u = unless_ok (head_fault r.0.0) (length rest) (record { major = r.0.0.major; number = r.0.0.number }, r.0.1) h r.2 in
    record { raw = r.0.0; after = r.0.1; read = r.1; major_is = ap (λ (x : Head × List ℕ). x.0.major) u.1 }

blob_err : (len : ℕ) (bytes : List ℕ) (at : Flaw) → blob_at len bytes ≡ Err at → IsCutFlaw at
unfolding blob_at
blob_err len bytes at e =
    elim (chosen (ltb (length bytes) len) (Err (flaw kinds.Cut 0)) (Ok (take len bytes, drop len bytes)) (Err at) e) [
      | inl p ↦ err_is _ _ p.1
      | inr p ↦ absurd (not_failed _ at p.1)
    ]

-- bytes that are no text
record BadText (left len : ℕ) (bytes : List ℕ) (at : Flaw) : Type 0 where
  pub b : List ℕ × List ℕ
  pub read : blob_at len bytes ≡ Ok b
  pub other : IsUtf8 b.0 → ⊥
  pub is : flaw kinds.Utf8 left ≡ at

text_err : (left len : ℕ) (bytes : List ℕ) (at : Flaw) → text_at left len bytes ≡ Err at → IsCutFlaw at ⊎ BadText left len bytes at
unfolding text_at
text_err left len bytes at e =
    elim (bind_err (blob_at len bytes) (as_text left) at e) [
      | inl p ↦ inl (blob_err len bytes at p)
      | inr x ↦ elim (chosen (is_utf8 x.0.0) (Ok x.0) (Err (flaw kinds.Utf8 left)) (Err at) x.2) [
        | inl t ↦ absurd (not_failed _ at t.1)
        | inr t ↦ inr (record { b = x.0; read = x.1; other = λ text. both_ways _ t.0 (is_utf8-from_IsUtf8 x.0.0 text); is = err_is _ _ t.1 })
      ]
    ]

pub within_err : (room left : ℕ) (h : Head × List ℕ) (at : Flaw) → within room left h ≡ Err at → (room ≡ 0) × (flaw kinds.Depth left ≡ at)
within_err room left h at e =
    elim (chosen (eqb room 0) (Err (flaw kinds.Depth left)) (Ok h) (Err at) e) [
      | inl p ↦ (eqb-true _ _ p.0, err_is _ _ p.1)
      | inr p ↦ absurd (not_failed _ at p.1)
    ]

-- ---- blame

-- the fault is that the bytes end, or one that they have
abbrev pub Blamed : List ℕ → Flaw → Type 0
Blamed bytes at = IsCutFlaw at ⊎ Row bytes at.kind (length bytes - at.left)

pub head_blame : (spot : Spot) (room : ℕ) (bytes rest : List ℕ) (at : Flaw) → IsSpot room spot → bytes ≡ before spot ++ rest → head_at rest ≡ Err at → Blamed bytes at
head_blame spot room bytes rest at here parts e =
    elim (head_err rest at e) [
      | inl cut ↦ inl cut
      | inr bad ↦
          let shown = fault_shown bad.raw bad.kind bad.fault in
          subst (Blamed bytes) bad.is (inr (to_row bad.raw bytes bad.kind (length bytes - length rest) shown
          (record { spot = spot; room = room; rest = rest; raw = bad.raw; after = bad.after; here = here; parts = parts; read = bad.read; shown = shown; place = left_place bytes (before spot) rest parts })))
    ]

-- a byte string or a text in its place
pub blob_parts : (rest : List ℕ) (major n : ℕ) (after : List ℕ) (b : List ℕ × List ℕ) → Takes rest (head major n) after → TakesBlob n after b → rest ≡ head major (length b.0) ++ (b.0 ++ b.1)
blob_parts rest major n after b taken blob =
    taken.parts ∙ ap (λ (k : ℕ). head major k ++ after) (sym blob.len_is) ∙ ap (λ (t : List ℕ). head major (length b.0) ++ t) blob.taken.parts

-- a text that is not UTF-8, at the spot of an item or a key
pub text_blame : (spot : Spot) (room : ℕ) (bytes rest : List ℕ) (n : ℕ) (after : List ℕ) (at : Flaw) → IsItemSpot (suc room) spot → bytes ≡ before spot ++ rest → Takes rest (head 3 n) after → n < 2 ^ 64
    → text_at (length rest) n after ≡ Err at → Blamed bytes at
text_blame spot room bytes rest n after at here parts taken fits e =
    elim (text_err (length rest) n after at e) [
      | inl cut ↦ inl cut
      | inr bad ↦
          let blob = blob_takes n after bad.b taken.rest_fits bad.read in
          let whole = blob_parts rest 3 n after bad.b taken blob in
          let row : TextRow bytes (length bytes - length rest) = record {
            spot = spot;
            room = room;
            text = bad.b.0;
            rest = bad.b.1;
            here = here;
            fits = omega (arith, blob.len_is);
            parts = parts ∙ ap (λ (t : List ℕ). before spot ++ t) whole;
            other = bad.other;
            place = left_place bytes (before spot) rest parts;
          } in
          subst (Blamed bytes) bad.is (inr row)
    ]

as_cid_err : (o : Option CidParts) (left : ℕ) (rest : List ℕ) (at : Flaw) → elim o as (λ _. Result (CidParts × List ℕ) Flaw) [ Some cid ↦ Ok (cid, rest) | None ↦ Err (flaw kinds.LinkForm left) ] ≡ Err at
    → (o ≡ None) × (flaw kinds.LinkForm left ≡ at)
as_cid_err (Some cid) left rest at e = absurd (not_failed _ at e)
as_cid_err None left rest at e = (refl, err_is _ _ e)

linked_some : (blob : List ℕ) (cid : CidParts) → IsCid cid → blob ≡ 0 ∷ cid_bytes cid → linked blob ≡ Some cid
linked_some blob cid is e = ap linked e ∙ cid_of-is (cid_bytes cid) cid is refl

none_not_some : (cid : CidParts) (o : Option CidParts) → o ≡ None → o ≡ Some cid → ⊥
none_not_some cid o none some = let both : None ≡ Some cid = sym none ∙ some in cc

link_blame : (levels : List Level) (room : ℕ) (bytes rest after : List ℕ) (at : Flaw) → IsOpen (suc room) levels → bytes ≡ opened levels ++ rest → Takes rest (head 6 42) after → link_at (length rest) after ≡ Err at → Blamed bytes at
unfolding link_at
link_blame levels room bytes rest after at here parts tag e =
    let left : ℕ = length rest in
    let tagged : bytes ≡ opened levels ++ (head 6 42 ++ after) = parts ∙ ap (λ (t : List ℕ). opened levels ++ t) tag.parts in
    let place : length bytes - left ≡ length (opened levels) = left_place bytes (opened levels) rest parts in
    elim (bind_err (head_at after >>= of_link left) (λ h. blob_at h.0.number h.1 >>= as_cid left) at e) [
      | inl p ↦ elim (bind_err (head_at after) (of_link left) at p) [
        | inl q ↦ head_blame (content levels) room bytes after at here (tagged ∙ sym (append_assoc (opened levels) (head 6 42) after)) q
        | inr h ↦ elim (chosen (eqb h.0.0.major 2) (Ok h.0) (Err (flaw kinds.LinkForm left)) (Err at) h.2) [
          | inl r ↦ absurd (not_failed _ at r.1)
          | inr r ↦
              let good = head_ok after h.0 h.1 in
              let row : ContentRow bytes (length bytes - left) = record {
                levels = levels;
                room = room;
                rest = after;
                raw = good.raw;
                after = good.after;
                here = here;
                parts = tagged;
                read = good.read;
                other = λ two. eqb-false _ _ r.0 (sym good.major_is ∙ two);
                place = place;
              } in
              subst (Blamed bytes) (err_is _ _ r.1) (inr (inl row))
        ]
      ]
      | inr x ↦
          let h = bind_ok (head_at after) (of_link left) x.0 x.1 in
          elim (chosen (eqb h.0.0.major 2) (Ok h.0) (Err (flaw kinds.LinkForm left)) (Ok x.0) h.2) [
            | inr r ↦ absurd (not_failed x.0 (flaw kinds.LinkForm left) (sym r.1))
            | inl r ↦
                let same : h.0 ≡ x.0 = ok_is _ _ r.1 in
                let taken = head_takes after h.0 tag.rest_fits h.1 in
                let two : Takes after (head 2 x.0.0.number) x.0.1 = subst (λ (y : Head × List ℕ). Takes after (head 2 y.0.number) y.1) same (subst (λ (m : ℕ). Takes after (head m h.0.0.number) h.0.1) (eqb-true _ _ r.0) taken.spelling) in
                let fits : x.0.0.number < 2 ^ 64 = subst (λ (y : Head × List ℕ). y.0.number < 2 ^ 64) same taken.fits in
                elim (bind_err (blob_at x.0.0.number x.0.1) (as_cid left) at x.2) [
                  | inl s ↦ inl (blob_err x.0.0.number x.0.1 at s)
                  | inr b ↦
                      let none = as_cid_err (linked b.0.0) left b.0.1 at b.2 in
                      let blob = blob_takes x.0.0.number x.0.1 b.0 two.rest_fits b.1 in
                      let whole = blob_parts after 2 x.0.0.number x.0.1 b.0 two blob in
                      let row : LinkRow bytes (length bytes - left) = record {
                        levels = levels;
                        room = room;
                        blob = b.0.0;
                        rest = b.0.1;
                        here = here;
                        fits = omega (arith, blob.len_is);
                        parts = tagged ∙ ap (λ (t : List ℕ). opened levels ++ (head 6 42 ++ t)) whole;
                        other = λ cid is blob_is. none_not_some cid (linked b.0.0) none.0 (linked_some b.0.0 cid is blob_is);
                        place = place;
                      } in
                      subst (Blamed bytes) none.1 (inr (inr row))
                ]
          ]
    ]

after_blame : (levels : List Level) (room : ℕ) (bytes rest : List ℕ) (h : Head × List ℕ) (at : Flaw) → IsOpen (suc room) levels → bytes ≡ opened levels ++ rest → TakesHead rest h → token_after (length rest) h ≡ Err at → Blamed bytes at
after_blame levels room bytes rest h at here parts taken e =
    let m : ℕ = h.0.major in
    let n : ℕ = h.0.number in
    let left : ℕ = length rest in
    let t7 : Result (Token × List ℕ) Flaw = Ok (tokens.Whole (simple n), h.1) in
    let t6 : Result (Token × List ℕ) Flaw = cond (eqb m 6) (link_at left h.1 >>= link_token) t7 in
    let t5 : Result (Token × List ℕ) Flaw = cond (eqb m 5) (Ok (tokens.Map n, h.1)) t6 in
    let t4 : Result (Token × List ℕ) Flaw = cond (eqb m 4) (Ok (tokens.List n, h.1)) t5 in
    let t3 : Result (Token × List ℕ) Flaw = cond (eqb m 3) (text_at left n h.1 >>= text_token) t4 in
    let t2 : Result (Token × List ℕ) Flaw = cond (eqb m 2) (blob_at n h.1 >>= blob_token) t3 in
    let t1 : Result (Token × List ℕ) Flaw = cond (eqb m 1) (Ok (tokens.Whole (v.Int (negsuc n)), h.1)) t2 in
    elim (chosen (eqb m 0) (Ok (tokens.Whole (v.Int (pos n)), h.1)) t1 (Err at) e) [
      | inl p ↦ absurd (not_failed _ at p.1)
      | inr p ↦ elim (chosen (eqb m 1) (Ok (tokens.Whole (v.Int (negsuc n)), h.1)) t2 (Err at) p.1) [
        | inl q ↦ absurd (not_failed _ at q.1)
        | inr q ↦ elim (chosen (eqb m 2) (blob_at n h.1 >>= blob_token) t3 (Err at) q.1) [
          | inl r ↦ elim (bind_err (blob_at n h.1) blob_token at r.1) [ inl b ↦ inl (blob_err n h.1 at b) | inr b ↦ absurd (not_failed _ at b.2) ]
          | inr r ↦ elim (chosen (eqb m 3) (text_at left n h.1 >>= text_token) t4 (Err at) r.1) [
            | inl s ↦ elim (bind_err (text_at left n h.1) text_token at s.1) [
              | inl b ↦ text_blame (item levels) room bytes rest n h.1 at here parts (subst (λ (k : ℕ). Takes rest (head k n) h.1) (eqb-true _ _ s.0) taken.spelling) taken.fits b
              | inr b ↦ absurd (not_failed _ at b.2)
            ]
            | inr s ↦ elim (chosen (eqb m 4) (Ok (tokens.List n, h.1)) t5 (Err at) s.1) [
              | inl u ↦ absurd (not_failed _ at u.1)
              | inr u ↦ elim (chosen (eqb m 5) (Ok (tokens.Map n, h.1)) t6 (Err at) u.1) [
                | inl w ↦ absurd (not_failed _ at w.1)
                | inr w ↦ elim (chosen (eqb m 6) (link_at left h.1 >>= link_token) t7 (Err at) w.1) [
                  | inl x ↦ elim (bind_err (link_at left h.1) link_token at x.1) [
                    | inl b ↦
                        let six : m ≡ 6 = eqb-true _ _ x.0 in
                        let tag : Takes rest (head 6 42) h.1 = subst (λ (k : ℕ). Takes rest (head 6 k) h.1) (taken.tag six) (subst (λ (k : ℕ). Takes rest (head k n) h.1) six taken.spelling) in
                        link_blame levels room bytes rest h.1 at here parts tag b
                    | inr b ↦ absurd (not_failed _ at b.2)
                  ]
                  | inr x ↦ absurd (not_failed _ at x.1)
                ]
              ]
            ]
          ]
        ]
      ]
    ]

item_depth : (levels : List Level) (room : ℕ) (bytes rest : List ℕ) (h : Head × List ℕ) (at : Flaw) → IsOpen room levels → bytes ≡ opened levels ++ rest → head_at rest ≡ Ok h → within room (length rest) h ≡ Err at → Blamed bytes at
item_depth levels room bytes rest h at here parts read e =
    let w = within_err room (length rest) h at e in
    let good = head_ok rest h read in
    let row : DepthRow bytes (length bytes - length rest) = record {
      spot = item levels;
      rest = rest;
      raw = good.raw;
      after = good.after;
      here = subst (λ (r : ℕ). IsOpen r levels) w.0 here;
      parts = parts;
      read = good.read;
      place = left_place bytes (opened levels) rest parts;
    } in
    subst (Blamed bytes) w.1 (inr row)

pub token_blame : (room : ℕ) (levels : List Level) (bytes rest : List ℕ) (at : Flaw) → IsOpen room levels → bytes ≡ opened levels ++ rest → IsBytes rest → token_at room rest ≡ Err at → Blamed bytes at
unfolding token_at
token_blame zero levels bytes rest at here parts fits e =
    elim (bind_err (head_at rest >>= within 0 (length rest)) (token_after (length rest)) at e) [
      | inl p ↦ elim (bind_err (head_at rest) (within 0 (length rest)) at p) [
        | inl q ↦ head_blame (item levels) 0 bytes rest at here parts q
        | inr h ↦ item_depth levels 0 bytes rest h.0 at here parts h.1 h.2
      ]
      | inr x ↦ let h = bind_ok (head_at rest) (within 0 (length rest)) x.0 x.1 in let w = within_ok 0 (length rest) h.0 x.0 h.2 in absurd (omega (arith, w.0))
    ]
token_blame (suc room) levels bytes rest at here parts fits e =
    elim (bind_err (head_at rest >>= within (suc room) (length rest)) (token_after (length rest)) at e) [
      | inl p ↦ elim (bind_err (head_at rest) (within (suc room) (length rest)) at p) [
        | inl q ↦ head_blame (item levels) (suc room) bytes rest at here parts q
        | inr h ↦ item_depth levels (suc room) bytes rest h.0 at here parts h.1 h.2
      ]
      | inr x ↦
          let h = bind_ok (head_at rest) (within (suc room) (length rest)) x.0 x.1 in
          let w = within_ok (suc room) (length rest) h.0 x.0 h.2 in
          after_blame levels room bytes rest x.0 at here parts (subst (TakesHead rest) w.1 (head_takes rest h.0 fits h.1)) x.2
    ]
