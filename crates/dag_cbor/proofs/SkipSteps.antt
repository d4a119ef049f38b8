-- What is left behind an item, where nothing is made of it.
use Rattle.std.proofs.Common.{◌≡◌, ℕ, zero, suc, ◌+◌, ◌-◌, ◌<◌, ◌≤◌, Bool, true, false, cond, eqb, pos, negsuc, List, [], ◌∷◌, ◌++◌, length, Result, Ok, Err, Option, Some, None, refl, sym, ap, ◌∙◌, arith}
use Rattle.std.proofs.lemmas.Bool.{ne_eqb}
use Rattle.dag_cbor.specs.declared.value.Value.{Value}
use Rattle.dag_cbor.specs.declared.value.Value.TheVariants as v
use Rattle.dag_cbor.specs.declared.fault.Flaw.{Flaw}
use Rattle.dag_cbor.specs.declared.fault.CborKind.TheVariants as kinds
use Rattle.dag_cbor.specs.declared.head.Head.{Head}
use Rattle.dag_cbor.specs.declared.token.Token.{Token}
use Rattle.dag_cbor.specs.declared.token.Token.TheVariants as tokens
use Rattle.dag_cbor.specs.Keys.{last_key}
use Rattle.dag_cbor.specs.Reading.{◌>>=◌, flaw, head_at, within, blob_at, text_at, link_at, after_last, key_at, simple, blob_token, text_token, link_token, token_after, token_at, listed, mapped, opened_at, item_at}
use Rattle.dag_cbor.specs.Behind.{behind, any_key_at, key_after, behind_items, behind_pairs}
use Rattle.dag_cbor.proofs.Items.{Reads, last_key-push}
use Rattle.dag_cbor.proofs.Stack.{Read, no_token, reads_token}

-- what reading a token gives
abbrev TokenRead : Type 0
TokenRead = Result (Token × List ℕ) Flaw

-- ---- steps

behind_step : {A B : Type 0} (r : Result (A × List ℕ) Flaw) (f : A × List ℕ → Result (B × List ℕ) Flaw) (g : List ℕ → Result (List ℕ) Flaw) → ((x : A × List ℕ) → behind (f x) ≡ g x.1) → behind (r >>= f) ≡ (behind r >>= g)
behind_step (Ok x) f g same = same x
behind_step (Err at) f g same = refl

behind_next : {A B : Type 0} (r : Result A Flaw) (f : A → Result (B × List ℕ) Flaw) (g : A → Result (List ℕ) Flaw) → ((x : A) → behind (f x) ≡ g x) → behind (r >>= f) ≡ (r >>= g)
behind_next (Ok x) f g same = same x
behind_next (Err at) f g same = refl

-- ---- items and pairs

-- what is left behind a list does not show what was read of it
pub listed_behind : (item : Reads) (done : List Value) (n : ℕ) (bytes : List ℕ) → behind (listed item done n bytes) ≡ behind_items item n bytes
unfolding listed behind_items
listed_behind item done zero bytes = refl
listed_behind item done (suc n) bytes = behind_step (item bytes) (λ x. listed item (done ++ x.0 ∷ []) n x.1) (behind_items item n) (λ x. listed_behind item (done ++ x.0 ∷ []) n x.1)

-- a key behind pairs is one that comes after the last of their keys
key_of_last : (d : ℕ) (done : List (List ℕ × Value)) (bytes : List ℕ) → key_at d done bytes ≡ key_after d (last_key done) bytes
unfolding key_at key_after any_key_at
key_of_last d done bytes = refl

-- what is left behind a map shows no more of what was read than its last key
pub mapped_behind : (d : ℕ) (item : Reads) (done : List (List ℕ × Value)) (n : ℕ) (bytes : List ℕ) → behind (mapped d item done n bytes) ≡ behind_pairs d item (last_key done) n bytes
unfolding mapped behind_pairs
mapped_behind d item done zero bytes = refl
mapped_behind d item done (suc n) bytes =
    behind_next (key_at d done bytes) (λ k. item k.1 >>= λ x. mapped d item (done ++ (k.0, x.0) ∷ []) n x.1) (λ k. behind (item k.1) >>= λ rest. behind_pairs d item (Some k.0) n rest)
    (λ k. behind_step (item k.1) (λ x. mapped d item (done ++ (k.0, x.0) ∷ []) n x.1) (λ rest. behind_pairs d item (Some k.0) n rest)
    (λ x. mapped_behind d item (done ++ (k.0, x.0) ∷ []) n x.1 ∙ ap (λ (o : Option (List ℕ)). behind_pairs d item o n x.1) (last_key-push done (k.0, x.0))))
    ∙ ap (λ (r : Result (List ℕ × List ℕ) Flaw). r >>= λ k. behind (item k.1) >>= λ rest. behind_pairs d item (Some k.0) n rest) (key_of_last d done bytes)

-- the first key comes after none
first_key : (d : ℕ) (bytes : List ℕ) → key_after d None bytes ≡ any_key_at d bytes
unfolding key_after
first_key d bytes = same (any_key_at d bytes)
  where
    same : (r : Result (List ℕ × List ℕ) Flaw) → (r >>= after_last None (length bytes)) ≡ r
    same (Ok k) = refl
    same (Err at) = refl

-- ---- the loops

-- one item more is passed
pub item_passed : (item : Reads) (n i : ℕ) (rest after : List ℕ) (whole : Result (List ℕ) Flaw) → i < n → behind (item rest) ≡ Ok after → behind_items item (n - i) rest ≡ whole → behind_items item (n - (i + 1)) after ≡ whole
unfolding behind_items
item_passed item n i rest after whole lt e so_far =
    let m : ℕ = n - (i + 1) in
    let more : n - i ≡ suc m = omega arith in
    sym (ap (λ (r : Result (List ℕ) Flaw). r >>= behind_items item m) e) ∙ sym (ap (λ (k : ℕ). behind_items item k rest) more) ∙ so_far

-- an item has a fault
pub item_fails : (item : Reads) (n i : ℕ) (rest : List ℕ) (at : Flaw) (whole : Result (List ℕ) Flaw) → i < n → behind (item rest) ≡ Err at → behind_items item (n - i) rest ≡ whole → whole ≡ Err at
unfolding behind_items
item_fails item n i rest at whole lt e so_far =
    let m : ℕ = n - (i + 1) in
    let more : n - i ≡ suc m = omega arith in
    sym so_far ∙ ap (λ (k : ℕ). behind_items item k rest) more ∙ ap (λ (r : Result (List ℕ) Flaw). r >>= behind_items item m) e

-- no item is left
pub items_passed : (item : Reads) (n i : ℕ) (rest : List ℕ) (whole : Result (List ℕ) Flaw) → n ≤ i → behind_items item (n - i) rest ≡ whole → whole ≡ Ok rest
unfolding behind_items
items_passed item n i rest whole le so_far = let none : n - i ≡ 0 = omega arith in sym so_far ∙ ap (λ (k : ℕ). behind_items item k rest) none

-- one pair more is passed
pub pair_passed : (d : ℕ) (item : Reads) (last key : List ℕ) (n i : ℕ) (rest behind_key after : List ℕ) (whole : Result (List ℕ) Flaw) → i < n → key_after d (Some last) rest ≡ Ok (key, behind_key) → behind (item behind_key) ≡ Ok after
    → behind_pairs d item (Some last) (n - i) rest ≡ whole → behind_pairs d item (Some key) (n - (i + 1)) after ≡ whole
unfolding behind_pairs
pair_passed d item last key n i rest behind_key after whole lt k e so_far =
    let m : ℕ = n - (i + 1) in
    let more : n - i ≡ suc m = omega arith in
    sym (ap (λ (r : Result (List ℕ × List ℕ) Flaw). r >>= λ x. behind (item x.1) >>= λ y. behind_pairs d item (Some x.0) m y) k ∙ ap (λ (r : Result (List ℕ) Flaw). r >>= λ y. behind_pairs d item (Some key) m y) e)
    ∙ sym (ap (λ (j : ℕ). behind_pairs d item (Some last) j rest) more) ∙ so_far

-- the key of a pair has a fault
pub key_fails : (d : ℕ) (item : Reads) (last : List ℕ) (n i : ℕ) (rest : List ℕ) (at : Flaw) (whole : Result (List ℕ) Flaw) → i < n → key_after d (Some last) rest ≡ Err at
    → behind_pairs d item (Some last) (n - i) rest ≡ whole → whole ≡ Err at
unfolding behind_pairs
key_fails d item last n i rest at whole lt k so_far =
    let m : ℕ = n - (i + 1) in
    let more : n - i ≡ suc m = omega arith in
    sym so_far ∙ ap (λ (j : ℕ). behind_pairs d item (Some last) j rest) more
    ∙ ap (λ (r : Result (List ℕ × List ℕ) Flaw). r >>= λ x. behind (item x.1) >>= λ y. behind_pairs d item (Some x.0) m y) k

-- the item of a pair has a fault
pub pair_fails : (d : ℕ) (item : Reads) (last key : List ℕ) (n i : ℕ) (rest behind_key : List ℕ) (at : Flaw) (whole : Result (List ℕ) Flaw) → i < n → key_after d (Some last) rest ≡ Ok (key, behind_key) → behind (item behind_key) ≡ Err at
    → behind_pairs d item (Some last) (n - i) rest ≡ whole → whole ≡ Err at
unfolding behind_pairs
pair_fails d item last key n i rest behind_key at whole lt k e so_far =
    let m : ℕ = n - (i + 1) in
    let more : n - i ≡ suc m = omega arith in
    sym so_far ∙ ap (λ (j : ℕ). behind_pairs d item (Some last) j rest) more
    ∙ ap (λ (r : Result (List ℕ × List ℕ) Flaw). r >>= λ x. behind (item x.1) >>= λ y. behind_pairs d item (Some x.0) m y) k
    ∙ ap (λ (r : Result (List ℕ) Flaw). r >>= λ y. behind_pairs d item (Some key) m y) e

-- no pair is left
pub pairs_passed : (d : ℕ) (item : Reads) (last : List ℕ) (n i : ℕ) (rest : List ℕ) (whole : Result (List ℕ) Flaw) → n ≤ i → behind_pairs d item (Some last) (n - i) rest ≡ whole → whole ≡ Ok rest
unfolding behind_pairs
pairs_passed d item last n i rest whole le so_far = let none : n - i ≡ 0 = omega arith in sym so_far ∙ ap (λ (j : ℕ). behind_pairs d item (Some last) j rest) none

-- ---- the pairs of a map from the first

-- there is no pair
pub no_pairs : (d : ℕ) (item : Reads) (n : ℕ) (bytes : List ℕ) → n ≡ 0 → behind (mapped d item [] n bytes) ≡ Ok bytes
unfolding mapped
no_pairs d item n bytes none = ap (λ (k : ℕ). behind (mapped d item [] k bytes)) none

-- the pairs of a map, of which there is one at least
some_pairs : (d : ℕ) (item : Reads) (n : ℕ) (bytes : List ℕ) → (n ≡ 0 → ⊥)
    → behind (mapped d item [] n bytes) ≡ (any_key_at d bytes >>= λ k. behind (item k.1) >>= λ rest. behind_pairs d item (Some k.0) (n - 1) rest)
unfolding behind_pairs
some_pairs d item n bytes some =
    let m : ℕ = n - 1 in
    let more : n ≡ suc m = omega arith in
    mapped_behind d item [] n bytes ∙ ap (λ (k : ℕ). behind_pairs d item None k bytes) more
    ∙ ap (λ (r : Result (List ℕ × List ℕ) Flaw). r >>= λ k. behind (item k.1) >>= λ rest. behind_pairs d item (Some k.0) m rest) (first_key d bytes)

-- the first key has a fault
pub first_key_fails : (d : ℕ) (item : Reads) (n : ℕ) (bytes : List ℕ) (at : Flaw) → (n ≡ 0 → ⊥) → any_key_at d bytes ≡ Err at → behind (mapped d item [] n bytes) ≡ Err at
first_key_fails d item n bytes at some k = some_pairs d item n bytes some ∙ ap (λ (r : Result (List ℕ × List ℕ) Flaw). r >>= λ x. behind (item x.1) >>= λ y. behind_pairs d item (Some x.0) (n - 1) y) k

-- the first item has a fault
pub first_pair_fails : (d : ℕ) (item : Reads) (n : ℕ) (bytes key behind_key : List ℕ) (at : Flaw) → (n ≡ 0 → ⊥) → any_key_at d bytes ≡ Ok (key, behind_key) → behind (item behind_key) ≡ Err at → behind (mapped d item [] n bytes) ≡ Err at
first_pair_fails d item n bytes key behind_key at some k e =
    some_pairs d item n bytes some ∙ ap (λ (r : Result (List ℕ × List ℕ) Flaw). r >>= λ x. behind (item x.1) >>= λ y. behind_pairs d item (Some x.0) (n - 1) y) k
    ∙ ap (λ (r : Result (List ℕ) Flaw). r >>= λ y. behind_pairs d item (Some key) (n - 1) y) e

-- the first pair is passed
pub first_pair_passed : (d : ℕ) (item : Reads) (n : ℕ) (bytes key behind_key after : List ℕ) → (n ≡ 0 → ⊥) → any_key_at d bytes ≡ Ok (key, behind_key) → behind (item behind_key) ≡ Ok after
    → behind (mapped d item [] n bytes) ≡ behind_pairs d item (Some key) (n - 1) after
first_pair_passed d item n bytes key behind_key after some k e =
    some_pairs d item n bytes some ∙ ap (λ (r : Result (List ℕ × List ℕ) Flaw). r >>= λ x. behind (item x.1) >>= λ y. behind_pairs d item (Some x.0) (n - 1) y) k
    ∙ ap (λ (r : Result (List ℕ) Flaw). r >>= λ y. behind_pairs d item (Some key) (n - 1) y) e

-- ---- items

no_token_there : (d : ℕ) (bytes : List ℕ) (at : Flaw) → head_at bytes ≡ Err at → token_at d bytes ≡ Err at
unfolding token_at
no_token_there d bytes at e = ap (λ (r : Result (Head × List ℕ) Flaw). r >>= within d (length bytes) >>= token_after (length bytes)) e

no_depth : (bytes : List ℕ) (x : Head × List ℕ) → head_at bytes ≡ Ok x → token_at 0 bytes ≡ Err (flaw kinds.Depth (length bytes))
unfolding token_at
no_depth bytes x e = ap (λ (r : Result (Head × List ℕ) Flaw). r >>= within 0 (length bytes) >>= token_after (length bytes)) e

-- there is no head
pub headless : (d : ℕ) (bytes : List ℕ) (at : Flaw) → head_at bytes ≡ Err at → behind (item_at d bytes) ≡ Err at
headless d bytes at e = ap (λ (r : Read). behind r) (no_token d bytes at (no_token_there d bytes at e))

-- there is a head, and no depth for it
pub too_deep : (d : ℕ) (bytes : List ℕ) (x : Head × List ℕ) → head_at bytes ≡ Ok x → d ≡ 0 → behind (item_at d bytes) ≡ Err (flaw kinds.Depth (length bytes))
too_deep d bytes x e none = ap (λ (r : Read). behind r) (no_token d bytes (flaw kinds.Depth (length bytes)) (ap (λ (k : ℕ). token_at k bytes) none ∙ no_depth bytes x e))

-- the token whose head is read
token_is : (d : ℕ) (bytes : List ℕ) (x : Head × List ℕ) → head_at bytes ≡ Ok x → (d ≡ 0 → ⊥) → token_at d bytes ≡ token_after (length bytes) x
unfolding token_at
token_is d bytes x e some =
    let left : ℕ = length bytes in
    let roomy : within d left x ≡ Ok x = rw (ne_eqb d 0 some) refl in
    ap (λ (r : Result (Head × List ℕ) Flaw). r >>= within d left >>= token_after left) e ∙ ap (λ (r : Result (Head × List ℕ) Flaw). r >>= token_after left) roomy

-- the item is a list
pub list_behind : (d : ℕ) (bytes : List ℕ) (h : Head) (after : List ℕ) → head_at bytes ≡ Ok (h, after) → (d ≡ 0 → ⊥) → h.major ≡ 4 → behind (item_at d bytes) ≡ behind_items (item_at (d - 1)) h.number after
list_behind d bytes h after e some is =
    let of_list : token_after (length bytes) (h, after) ≡ Ok (tokens.List h.number, after) = rw is refl in
    ap (λ (r : Read). behind r) (reads_token d bytes (tokens.List h.number, after) (token_is d bytes (h, after) e some ∙ of_list)).1 ∙ listed_behind (item_at (d - 1)) [] h.number after

-- the item is a map
pub map_behind : (d : ℕ) (bytes : List ℕ) (h : Head) (after : List ℕ) → head_at bytes ≡ Ok (h, after) → (d ≡ 0 → ⊥) → h.major ≡ 5 → behind (item_at d bytes) ≡ behind (mapped (d - 1) (item_at (d - 1)) [] h.number after)
map_behind d bytes h after e some is =
    let of_map : token_after (length bytes) (h, after) ≡ Ok (tokens.Map h.number, after) = rw is refl in
    ap (λ (r : Read). behind r) (reads_token d bytes (tokens.Map h.number, after) (token_is d bytes (h, after) e some ∙ of_map)).1

-- what is left behind the item is what is left behind its token
abbrev EndsThere : ℕ → Reads → TokenRead → Type 0
EndsThere d item r = behind (r >>= opened_at d item) ≡ behind r

ends_if : (d : ℕ) (item : Reads) (b : Bool) (r s : TokenRead) → EndsThere d item r → EndsThere d item s → EndsThere d item (cond b r s)
ends_if d item true r s one other = one
ends_if d item false r s one other = other

ends_else : (d : ℕ) (item : Reads) (b : Bool) (r s : TokenRead) → b ≡ false → EndsThere d item s → EndsThere d item (cond b r s)
ends_else d item true r s never other = absurd cc
ends_else d item false r s never other = other

ends_then : {A : Type 0} (d : ℕ) (item : Reads) (r : Result A Flaw) (f : A → TokenRead) → ((x : A) → EndsThere d item (f x)) → EndsThere d item (r >>= f)
ends_then d item (Ok x) f same = same x
ends_then d item (Err at) f same = refl

after_ends : (d : ℕ) (item : Reads) (left : ℕ) (h : Head × List ℕ) → (h.0.major ≡ 4 → ⊥) → (h.0.major ≡ 5 → ⊥) → EndsThere d item (token_after left h)
after_ends d item left h no_list no_map =
    let m : ℕ = h.0.major in
    let n : ℕ = h.0.number in
    let t7 : TokenRead = Ok (tokens.Whole (simple n), h.1) in
    let t6 : TokenRead = cond (eqb m 6) (link_at left h.1 >>= link_token) t7 in
    let t5 : TokenRead = cond (eqb m 5) (Ok (tokens.Map n, h.1)) t6 in
    let t4 : TokenRead = cond (eqb m 4) (Ok (tokens.List n, h.1)) t5 in
    let t3 : TokenRead = cond (eqb m 3) (text_at left n h.1 >>= text_token) t4 in
    let t2 : TokenRead = cond (eqb m 2) (blob_at n h.1 >>= blob_token) t3 in
    let t1 : TokenRead = cond (eqb m 1) (Ok (tokens.Whole (v.Int (negsuc n)), h.1)) t2 in
    ends_if d item (eqb m 0) (Ok (tokens.Whole (v.Int (pos n)), h.1)) t1 refl
    (ends_if d item (eqb m 1) (Ok (tokens.Whole (v.Int (negsuc n)), h.1)) t2 refl
    (ends_if d item (eqb m 2) (blob_at n h.1 >>= blob_token) t3 (ends_then d item (blob_at n h.1) blob_token (λ b. refl))
    (ends_if d item (eqb m 3) (text_at left n h.1 >>= text_token) t4 (ends_then d item (text_at left n h.1) text_token (λ b. refl))
    (ends_else d item (eqb m 4) (Ok (tokens.List n, h.1)) t5 (ne_eqb m 4 no_list)
    (ends_else d item (eqb m 5) (Ok (tokens.Map n, h.1)) t6 (ne_eqb m 5 no_map)
    (ends_if d item (eqb m 6) (link_at left h.1 >>= link_token) t7 (ends_then d item (link_at left h.1) link_token (λ b. refl)) refl))))))

-- the item is no list and no map
pub token_behind : (d : ℕ) (bytes : List ℕ) (h : Head) (after : List ℕ) → head_at bytes ≡ Ok (h, after) → (d ≡ 0 → ⊥) → (h.major ≡ 4 → ⊥) → (h.major ≡ 5 → ⊥)
    → behind (item_at d bytes) ≡ behind (token_after (length bytes) (h, after))
unfolding item_at
token_behind zero bytes h after e some no_list no_map = absurd (some refl)
token_behind (suc d) bytes h after e some no_list no_map =
    ap (λ (r : TokenRead). behind (r >>= opened_at d (item_at d))) (token_is (suc d) bytes (h, after) e some) ∙ after_ends d (item_at d) (length bytes) (h, after) no_list no_map
