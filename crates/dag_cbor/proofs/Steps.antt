-- Steps of reading, and the bytes that they leave.
use Rattle.std.proofs.Common.{◌≡◌, ℕ, suc, ◌+◌, ◌/◌, ◌%◌, ◌<◌, ◌≤◌, Bool, true, false, cond, ltb, eqb, List, [], ◌∷◌, length, take, drop, Result, Ok, Err, Option, Some, None, pos, negsuc, refl, ap, subst, arith, inl, inr, ◌⊎◌}
use Rattle.std.specs.Int.{Width, w8, w16, w32, w64, byte_len, from_be_bytes}
use Rattle.std.specs.Str.{is_utf8}
use Rattle.std.specs.declared.cmp.Ordering.{Ordering}
use Rattle.std.specs.declared.cmp.Ordering.TheVariants as orders
use Rattle.std.proofs.lemmas.List.{length-drop}
use Rattle.fil_base.specs.CidParts.{CidParts}
use Rattle.dag_cbor.specs.declared.value.Value.{Value}
use Rattle.dag_cbor.specs.declared.fault.Flaw.{Flaw}
use Rattle.dag_cbor.specs.declared.fault.CborKind.{CborKind}
use Rattle.dag_cbor.specs.declared.fault.CborKind.TheVariants as kinds
use Rattle.dag_cbor.specs.declared.head.Head.{Head}
use Rattle.dag_cbor.specs.declared.token.Token.{Token}
use Rattle.dag_cbor.specs.declared.token.Token.TheVariants as tokens
use Rattle.dag_cbor.specs.declared.value.Value.TheVariants as v
use Rattle.dag_cbor.specs.declared.partial.Partial.{Partial}
use Rattle.dag_cbor.specs.declared.partial.Partial.TheVariants as partials
use Rattle.dag_cbor.specs.declared.frame.Frame.{Frame}
use Rattle.dag_cbor.specs.HeadRows.{head_fault}
use Rattle.dag_cbor.specs.Keys.{last_key, order_after}
use Rattle.dag_cbor.specs.Reading.{◌>>=◌, flaw, number_at, number_behind, with_number, raw_head_at, unless, judged, head_at, within, blob_at, as_text, text_at, of_link, linked, as_cid, link_at, of_key, in_order, after_last, key_at, blob_token, text_token, link_token, simple, token_after, token_at}
use Rattle.dag_cbor.specs.Nesting.{with_key, begun}

-- the value of a step that did not fail
pub bind_ok : {A B : Type 0} (r : Result A Flaw) (next : A → Result B Flaw) (y : B) → (r >>= next) ≡ Ok y → (x : A) × (r ≡ Ok x) × (next x ≡ Ok y)
bind_ok (Ok x) next y e = (x, refl, e)
bind_ok (Err at) next y e = absurd cc

abbrev done : {A : Type 0} → A → Result A Flaw
done x = Ok x

pub ok_is : {A : Type 0} (x y : A) → done x ≡ done y → x ≡ y
ok_is x y e = cc

-- a test that did not fail
pub guard_ok : {A : Type 0} (b : Bool) (at : Flaw) (x y : A) → cond b (Err at) (Ok x) ≡ Ok y → (b ≡ false) × (x ≡ y)
guard_ok true at x y e = absurd cc
guard_ok false at x y e = (refl, cc)

-- a test that succeeded
pub check_ok : {A : Type 0} (b : Bool) (at : Flaw) (x y : A) → cond b (Ok x) (Err at) ≡ Ok y → (b ≡ true) × (x ≡ y)
check_ok true at x y e = (refl, cc)
check_ok false at x y e = absurd cc

-- which way a test went
pub chosen : {A : Type 0} (b : Bool) (x y z : A) → cond b x y ≡ z → ((b ≡ true) × (x ≡ z)) ⊎ ((b ≡ false) × (y ≡ z))
chosen true x y z e = inl (refl, e)
chosen false x y z e = inr (refl, e)

-- ---- how many bytes a step leaves

-- what is left, and so many bytes more, is no longer
abbrev pub Leaves : {A : Type 0} → Result (A × List ℕ) Flaw → ℕ → ℕ → Type 0
Leaves (Ok x) more len = length x.1 + more ≤ len
Leaves (Err at) more len = Unit {0}

leaves_then : {A B : Type 0} (r : Result (A × List ℕ) Flaw) (f : A × List ℕ → Result (B × List ℕ) Flaw) (more len : ℕ) → Leaves r more len → ((x : A × List ℕ) → Leaves (f x) 0 (length x.1)) → Leaves (r >>= f) more len
leaves_then (Ok x) f more len h g = widen (f x) more (length x.1) len h (g x)
  where
    widen : {C : Type 0} (s : Result (C × List ℕ) Flaw) (more mid len : ℕ) → mid + more ≤ len → Leaves s 0 mid → Leaves s more len
    widen (Ok y) more mid len h g = omega arith
    widen (Err at) more mid len h g = tt
leaves_then (Err at) f more len h g = tt

leaves_if : {A : Type 0} (b : Bool) (r s : Result (A × List ℕ) Flaw) (more len : ℕ) → Leaves r more len → Leaves s more len → Leaves (cond b r s) more len
leaves_if true r s more len h g = h
leaves_if false r s more len h g = g

weaker : {A : Type 0} (r : Result (A × List ℕ) Flaw) (len : ℕ) → Leaves r 1 len → Leaves r 0 len
weaker (Ok x) len h = omega arith
weaker (Err at) len h = tt

number_leaves : (width : Width) (bytes : List ℕ) (len : ℕ) → length bytes < len → Leaves (number_at width bytes) 1 len
number_leaves width bytes len lt =
    leaves_if (ltb (length bytes) (byte_len width)) (Err (flaw kinds.Cut 0)) (Ok (from_be_bytes width (take (byte_len width) bytes), drop (byte_len width) bytes)) 1 len tt (omega (arith, length-drop (byte_len width) bytes))

behind_leaves : (info : ℕ) (bytes : List ℕ) (len : ℕ) → length bytes < len → Leaves (number_behind info bytes) 1 len
behind_leaves info bytes len lt =
    let short : Leaves (done (info, bytes)) 1 len = omega arith in
    let l : Result (ℕ × List ℕ) Flaw = cond (eqb info 27) (number_at w64 bytes) (Ok (info, bytes)) in
    let m : Result (ℕ × List ℕ) Flaw = cond (eqb info 26) (number_at w32 bytes) l in
    let n : Result (ℕ × List ℕ) Flaw = cond (eqb info 25) (number_at w16 bytes) m in
    leaves_if (eqb info 24) (number_at w8 bytes) n 1 len (number_leaves w8 bytes len lt)
    (leaves_if (eqb info 25) (number_at w16 bytes) m 1 len (number_leaves w16 bytes len lt)
    (leaves_if (eqb info 26) (number_at w32 bytes) l 1 len (number_leaves w32 bytes len lt)
    (leaves_if (eqb info 27) (number_at w64 bytes) (Ok (info, bytes)) 1 len (number_leaves w64 bytes len lt) short)))

raw_leaves : (bytes : List ℕ) → Leaves (raw_head_at bytes) 1 (length bytes)
unfolding raw_head_at
raw_leaves [] = tt
raw_leaves (first ∷ rest) = leaves_then (number_behind (first % 32) rest) (with_number (first / 32) (first % 32)) 1 (suc (length rest)) (behind_leaves (first % 32) rest (suc (length rest)) (omega arith)) (λ n. omega arith)

unless_leaves : {A : Type 0} (fault : Option CborKind) (left : ℕ) (x : A × List ℕ) → Leaves (unless fault left x) 0 (length x.1)
unless_leaves None left x = omega arith
unless_leaves (Some kind) left x = tt

head_leaves : (bytes : List ℕ) → Leaves (head_at bytes) 1 (length bytes)
unfolding head_at
head_leaves bytes = leaves_then (raw_head_at bytes) (judged (length bytes)) 1 (length bytes) (raw_leaves bytes) (λ x. unless_leaves (head_fault x.0) (length bytes) (record { major = x.0.major; number = x.0.number }, x.1))

same_leaves : {A : Type 0} (x : A × List ℕ) → Leaves (done x) 0 (length x.1)
same_leaves x = omega arith

within_leaves : (room left : ℕ) (h : Head × List ℕ) → Leaves (within room left h) 0 (length h.1)
within_leaves room left h = leaves_if (eqb room 0) (Err (flaw kinds.Depth left)) (Ok h) 0 (length h.1) tt (same_leaves h)

blob_leaves : (len : ℕ) (bytes : List ℕ) → Leaves (blob_at len bytes) 0 (length bytes)
unfolding blob_at
blob_leaves len bytes = leaves_if (ltb (length bytes) len) (Err (flaw kinds.Cut 0)) (Ok (take len bytes, drop len bytes)) 0 (length bytes) tt (omega (arith, length-drop len bytes))

text_leaves : (left len : ℕ) (bytes : List ℕ) → Leaves (text_at left len bytes) 0 (length bytes)
unfolding text_at
text_leaves left len bytes = leaves_then (blob_at len bytes) (as_text left) 0 (length bytes) (blob_leaves len bytes) (λ b. leaves_if (is_utf8 b.0) (Ok b) (Err (flaw kinds.Utf8 left)) 0 (length b.1) (same_leaves b) tt)

cid_leaves : (cid : Option CidParts) (left : ℕ) (rest : List ℕ) → Leaves (elim cid as (λ _. Result (CidParts × List ℕ) Flaw) [ Some c ↦ Ok (c, rest) | None ↦ Err (flaw kinds.LinkForm left) ]) 0 (length rest)
cid_leaves (Some c) left rest = omega arith
cid_leaves None left rest = tt

link_leaves : (left : ℕ) (bytes : List ℕ) → Leaves (link_at left bytes) 1 (length bytes)
unfolding link_at
link_leaves left bytes =
    leaves_then (head_at bytes >>= of_link left) (λ h. blob_at h.0.number h.1 >>= as_cid left) 1 (length bytes)
    (leaves_then (head_at bytes) (of_link left) 1 (length bytes) (head_leaves bytes) (λ h. leaves_if (eqb h.0.major 2) (Ok h) (Err (flaw kinds.LinkForm left)) 0 (length h.1) (same_leaves h) tt))
    (λ h. leaves_then (blob_at h.0.number h.1) (as_cid left) 0 (length h.1) (blob_leaves h.0.number h.1) (λ b. cid_leaves (linked b.0) left b.1))

order_leaves : (o : Ordering) (left : ℕ) (key : List ℕ × List ℕ) → Leaves (in_order o left key) 0 (length key.1)
order_leaves orders.Less left key = omega arith
order_leaves orders.Equal left key = tt
order_leaves orders.Greater left key = tt

key_leaves : (room : ℕ) (pairs : List (List ℕ × Value)) (bytes : List ℕ) → Leaves (key_at room pairs bytes) 1 (length bytes)
unfolding key_at
key_leaves room pairs bytes =
    leaves_then (head_at bytes >>= of_key room (length bytes) >>= λ h. text_at (length bytes) h.0.number h.1) (after_last (last_key pairs) (length bytes)) 1 (length bytes)
    (leaves_then (head_at bytes >>= of_key room (length bytes)) (λ h. text_at (length bytes) h.0.number h.1) 1 (length bytes)
    (leaves_then (head_at bytes) (of_key room (length bytes)) 1 (length bytes) (head_leaves bytes)
    (λ h. leaves_if (eqb h.0.major 3) (within room (length bytes) h) (Err (flaw kinds.KeyKind (length bytes))) 0 (length h.1) (within_leaves room (length bytes) h) tt))
    (λ h. text_leaves (length bytes) h.0.number h.1))
    (λ k. order_leaves (order_after (last_key pairs) k.0) (length bytes) k)

after_leaves : (left : ℕ) (h : Head × List ℕ) → Leaves (token_after left h) 0 (length h.1)
after_leaves left h =
    let m : ℕ = h.0.major in
    let n : ℕ = h.0.number in
    let len : ℕ = length h.1 in
    let t7 : Result (Token × List ℕ) Flaw = Ok (tokens.Whole (simple n), h.1) in
    let t6 : Result (Token × List ℕ) Flaw = cond (eqb m 6) (link_at left h.1 >>= link_token) t7 in
    let t5 : Result (Token × List ℕ) Flaw = cond (eqb m 5) (Ok (tokens.Map n, h.1)) t6 in
    let t4 : Result (Token × List ℕ) Flaw = cond (eqb m 4) (Ok (tokens.List n, h.1)) t5 in
    let t3 : Result (Token × List ℕ) Flaw = cond (eqb m 3) (text_at left n h.1 >>= text_token) t4 in
    let t2 : Result (Token × List ℕ) Flaw = cond (eqb m 2) (blob_at n h.1 >>= blob_token) t3 in
    let t1 : Result (Token × List ℕ) Flaw = cond (eqb m 1) (Ok (tokens.Whole (v.Int (negsuc n)), h.1)) t2 in
    let same : len + 0 ≤ len = omega arith in
    leaves_if (eqb m 0) (Ok (tokens.Whole (v.Int (pos n)), h.1)) t1 0 len same
    (leaves_if (eqb m 1) (Ok (tokens.Whole (v.Int (negsuc n)), h.1)) t2 0 len same
    (leaves_if (eqb m 2) (blob_at n h.1 >>= blob_token) t3 0 len (leaves_then (blob_at n h.1) blob_token 0 len (blob_leaves n h.1) (λ b. omega arith))
    (leaves_if (eqb m 3) (text_at left n h.1 >>= text_token) t4 0 len (leaves_then (text_at left n h.1) text_token 0 len (text_leaves left n h.1) (λ b. omega arith))
    (leaves_if (eqb m 4) (Ok (tokens.List n, h.1)) t5 0 len same
    (leaves_if (eqb m 5) (Ok (tokens.Map n, h.1)) t6 0 len same
    (leaves_if (eqb m 6) (link_at left h.1 >>= link_token) t7 0 len (leaves_then (link_at left h.1) link_token 0 len (weaker (link_at left h.1) len (link_leaves left h.1)) (λ b. omega arith)) same))))))

-- a token takes at least one byte
pub token_shorter : (room : ℕ) (bytes : List ℕ) (token : Token) (after : List ℕ) → token_at room bytes ≡ Ok (token, after) → length after < length bytes
unfolding token_at
token_shorter room bytes token after e =
    let leaves : Leaves (head_at bytes >>= within room (length bytes) >>= token_after (length bytes)) 1 (length bytes) =
    leaves_then (head_at bytes >>= within room (length bytes)) (token_after (length bytes)) 1 (length bytes)
    (leaves_then (head_at bytes) (within room (length bytes)) 1 (length bytes) (head_leaves bytes) (λ h. within_leaves room (length bytes) h))
    (λ h. after_leaves (length bytes) h) in
    let here : length after + 1 ≤ length bytes = subst (λ (r : Result (Token × List ℕ) Flaw). Leaves r 1 (length bytes)) e leaves in
    omega arith

with_key_leaves : (inner : Partial) (k : List ℕ × List ℕ) → Leaves (with_key inner k) 0 (length k.1)
with_key_leaves (partials.List items wanted) (key, rest) = omega arith
with_key_leaves (partials.Map items wanted) (key, rest) = omega arith

-- what waits for an item has no more bytes before it
pub begun_shorter : (room : ℕ) (inner : Partial) (bytes : List ℕ) (frame : Frame) (behind_key : List ℕ) → begun room inner bytes ≡ Ok (frame, behind_key) → length behind_key ≤ length bytes
begun_shorter room (partials.List items wanted) bytes frame behind_key e = omega (arith, ap (λ (x : Frame × List ℕ). length x.1) (ok_is _ _ e))
begun_shorter room (partials.Map items wanted) bytes frame behind_key e =
    let leaves : Leaves (begun room (partials.Map items wanted) bytes) 0 (length bytes) =
    weaker (begun room (partials.Map items wanted) bytes) (length bytes) (leaves_then (key_at room items.items bytes) (with_key (partials.Map items wanted)) 1 (length bytes) (key_leaves room items.items bytes) (λ k. with_key_leaves (partials.Map items wanted) k)) in
    let here : length behind_key + 0 ≤ length bytes = subst (λ (r : Result (Frame × List ℕ) Flaw). Leaves r 0 (length bytes)) e leaves in
    omega arith
