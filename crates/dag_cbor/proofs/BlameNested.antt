-- A fault that reading meets is one that the bytes have: in keys, lists and maps, and in the whole.
use Rattle.std.proofs.Common.{◌≡◌, ℕ, zero, suc, ◌+◌, ◌-◌, ◌^◌, ◌<◌, ◌≤◌, cond, eqb, List, [], ◌∷◌, ◌++◌, length, map, Ok, Err, Option, refl, sym, ap, subst, ◌∙◌, append_assoc, arith, length-append, inl, inr, ◌⊎◌}
use Rattle.std.specs.List.{AllByRecursion}
use Rattle.std.specs.declared.cmp.Ordering.{Ordering}
use Rattle.std.specs.declared.cmp.Ordering.TheVariants as orders
use Rattle.std.proofs.lemmas.Bool.{eqb-true, eqb-false}
use Rattle.std.proofs.lemmas.List.{append-nil}
use Rattle.dag_cbor.specs.declared.value.Value.{Value}
use Rattle.dag_cbor.specs.declared.value.Value.TheVariants as v
use Rattle.dag_cbor.specs.declared.fault.Flaw.{Flaw}
use Rattle.dag_cbor.specs.declared.fault.CborKind.{CborKind}
use Rattle.dag_cbor.specs.declared.fault.CborKind.TheVariants as kinds
use Rattle.dag_cbor.specs.declared.head.Head.{Head}
use Rattle.dag_cbor.specs.declared.token.Token.{Token}
use Rattle.dag_cbor.specs.declared.token.Token.TheVariants as tokens
use Rattle.dag_cbor.specs.declared.decoding.TheConstants.{MAX_DEPTH}
use Rattle.dag_cbor.specs.Spelling.{head, joined, spelled}
use Rattle.dag_cbor.specs.Plain.{KeysRise, IsPlain}
use Rattle.dag_cbor.specs.Keys.{last_key, order_after}
use Rattle.dag_cbor.specs.Reading.{◌>>=◌, flaw, within, in_order, after_last, of_key, text_at, head_at, key_at, token_at, listed, mapped, opened_at, item_at, whole_at}
use Rattle.dag_cbor.specs.Faults.{pair_bytes, map_bytes, list_bytes, Level, in_list, in_map, IsOpenMap, opened, IsOpen, key, before, IsSpot, KeyKindRow, DepthRow, KeyRow, TrailingRow, rank, moment, IsFault, cut, first}
use Rattle.dag_cbor.proofs.Equations.{IsPlainPair, keys_of}
use Rattle.dag_cbor.proofs.Steps.{bind_ok, chosen}
use Rattle.dag_cbor.proofs.Numbers.{IsBytes, Takes}
use Rattle.dag_cbor.proofs.Heads.{head_takes}
use Rattle.dag_cbor.proofs.Tokens.{text_takes, within_ok, key_takes, IsTaken, token_takes}
use Rattle.dag_cbor.proofs.Items.{RiseBehind, rise_more, rise_less, last_key-push, item_takes}
use Rattle.dag_cbor.proofs.Stack.{reads_token}
use Rattle.dag_cbor.proofs.Whole.{nothing_whole}
use Rattle.dag_cbor.proofs.RowReads.{left_place, Forced, row_forces}
use Rattle.dag_cbor.proofs.Blame.{err_is, bind_err, not_failed, Blamed, head_blame, text_blame, head_ok, within_err, blob_parts, token_blame}

-- ---- keys

-- a key's head that is good by itself, and has a fault as a key's
key_head_blame : (levels : List Level) (total : ℕ) (pairs : List (List ℕ × Value)) (room : ℕ) (bytes rest : List ℕ) (h : Head × List ℕ) (at : Flaw) → IsSpot room (key levels total pairs)
    → bytes ≡ before (key levels total pairs) ++ rest → head_at rest ≡ Ok h → of_key room (length rest) h ≡ Err at → Blamed bytes at
key_head_blame levels total pairs room bytes rest h at here parts read e =
    let left : ℕ = length rest in
    let place : length bytes - left ≡ length (before (key levels total pairs)) = left_place bytes (before (key levels total pairs)) rest parts in
    let good = head_ok rest h read in
    elim (chosen (eqb h.0.major 3) (within room left h) (Err (flaw kinds.KeyKind left)) (Err at) e) [
      | inl p ↦
          let w = within_err room left h at p.1 in
          let row : DepthRow bytes (length bytes - left) = record {
            spot = key levels total pairs;
            rest = rest;
            raw = good.raw;
            after = good.after;
            here = subst (λ (r : ℕ). IsSpot r (key levels total pairs)) w.0 here;
            parts = parts;
            read = good.read;
            place = place;
          } in
          subst (Blamed bytes) w.1 (inr row)
      | inr p ↦
          let row : KeyKindRow bytes (length bytes - left) = record {
            levels = levels;
            total = total;
            pairs = pairs;
            room = room;
            rest = rest;
            raw = good.raw;
            after = good.after;
            here = here;
            parts = parts;
            read = good.read;
            other = λ three. eqb-false _ _ p.0 (sym good.major_is ∙ three);
            place = place;
          } in
          subst (Blamed bytes) (err_is _ _ p.1) (inr row)
    ]

in_order_err : (order : Ordering) (left : ℕ) (k : List ℕ × List ℕ) (at : Flaw) → in_order order left k ≡ Err at → ((order ≡ orders.Equal) × (flaw kinds.KeyRepeat left ≡ at)) ⊎ ((order ≡ orders.Greater) × (flaw kinds.KeyOrder left ≡ at))
in_order_err orders.Less left k at e = absurd (not_failed k at e)
in_order_err orders.Equal left k at e = inl (refl, err_is _ _ e)
in_order_err orders.Greater left k at e = inr (refl, err_is _ _ e)

-- a key's head that is good
record KeyHead (rest : List ℕ) (x : Head × List ℕ) : Type 0 where
  pub spelling : Takes rest (head 3 x.0.number) x.1
  pub fits : x.0.number < 2 ^ 64

key_head : (room left : ℕ) (rest : List ℕ) (x : Head × List ℕ) → IsBytes rest → (head_at rest >>= of_key room left) ≡ Ok x → (0 < room) × KeyHead rest x
key_head room left rest x fits e =
    let h = bind_ok (head_at rest) (of_key room left) x e in
    elim (chosen (eqb h.0.0.major 3) (within room left h.0) (Err (flaw kinds.KeyKind left)) (Ok x) h.2) [
      | inr p ↦ absurd (not_failed x (flaw kinds.KeyKind left) (sym p.1))
      | inl p ↦
          let w = within_ok room left h.0 x p.1 in
          let taken = head_takes rest h.0 fits h.1 in
          let three : Takes rest (head 3 h.0.0.number) h.0.1 = subst (λ (m : ℕ). Takes rest (head m h.0.0.number) h.0.1) (eqb-true _ _ p.0) taken.spelling in
          let made : KeyHead rest h.0 = record { spelling = three; fits = taken.fits } in
          (w.0, subst (KeyHead rest) w.1 made)
    ]

-- the text of a key is not UTF-8
key_text_blame : (levels : List Level) (total : ℕ) (pairs : List (List ℕ × Value)) (room : ℕ) (bytes rest : List ℕ) (x : Head × List ℕ) (at : Flaw) → IsSpot room (key levels total pairs)
    → bytes ≡ before (key levels total pairs) ++ rest → 0 < room → KeyHead rest x → text_at (length rest) x.0.number x.1 ≡ Err at → Blamed bytes at
key_text_blame levels total pairs zero bytes rest x at here parts some h e = absurd (omega arith)
key_text_blame levels total pairs (suc room) bytes rest x at here parts some h e = text_blame (key levels total pairs) room bytes rest x.0.number x.1 at here parts h.spelling h.fits e

-- a key stands wrong to the one before it
key_order_row : (levels : List Level) (total : ℕ) (pairs : List (List ℕ × Value)) (room : ℕ) (bytes rest : List ℕ) (x : Head × List ℕ) (k : List ℕ × List ℕ) (order : Ordering) → IsSpot room (key levels total pairs)
    → bytes ≡ before (key levels total pairs) ++ rest → 0 < room → KeyHead rest x → text_at (length rest) x.0.number x.1 ≡ Ok k → order_after (last_key pairs) k.0 ≡ order → KeyRow bytes order (length bytes - length rest)
key_order_row levels total pairs zero bytes rest x k order here parts some h read stands = absurd (omega arith)
key_order_row levels total pairs (suc room) bytes rest x k order here parts some h read stands =
    let t = text_takes (length rest) x.0.number x.1 k h.spelling.rest_fits read in
    let whole = blob_parts rest 3 x.0.number x.1 k h.spelling t.0 in
    record {
      levels = levels;
      total = total;
      pairs = pairs;
      room = room;
      text = k.0;
      rest = k.1;
      here = here;
      is_text = (omega (arith, t.0.len_is, h.fits), t.1);
      parts = parts ∙ ap (λ (s : List ℕ). before (key levels total pairs) ++ s) whole;
      stands = stands;
      place = left_place bytes (before (key levels total pairs)) rest parts;
    }

key_blame : (levels : List Level) (total : ℕ) (pairs : List (List ℕ × Value)) (room : ℕ) (bytes rest : List ℕ) (at : Flaw) → IsSpot room (key levels total pairs) → bytes ≡ before (key levels total pairs) ++ rest → IsBytes rest
    → key_at room pairs rest ≡ Err at → Blamed bytes at
unfolding key_at
key_blame levels total pairs room bytes rest at here parts fits e =
    let left : ℕ = length rest in
    elim (bind_err (head_at rest >>= of_key room left >>= λ h. text_at left h.0.number h.1) (after_last (last_key pairs) left) at e) [
      | inl p ↦ elim (bind_err (head_at rest >>= of_key room left) (λ h. text_at left h.0.number h.1) at p) [
        | inl q ↦ elim (bind_err (head_at rest) (of_key room left) at q) [
          | inl r ↦ head_blame (key levels total pairs) room bytes rest at here parts r
          | inr h ↦ key_head_blame levels total pairs room bytes rest h.0 at here parts h.1 h.2
        ]
        | inr x ↦ let h = key_head room left rest x.0 fits x.1 in key_text_blame levels total pairs room bytes rest x.0 at here parts h.0 h.1 x.2
      ]
      | inr k ↦
          let x = bind_ok (head_at rest >>= of_key room left) (λ h. text_at left h.0.number h.1) k.0 k.1 in
          let h = key_head room left rest x.0 fits x.1 in
          elim (in_order_err (order_after (last_key pairs) k.0.0) left k.0 at k.2) [
            | inl o ↦ subst (Blamed bytes) o.1 (inr (key_order_row levels total pairs room bytes rest x.0 k.0 orders.Equal here parts h.0 h.1 x.2 o.0))
            | inr o ↦ subst (Blamed bytes) o.1 (inr (key_order_row levels total pairs room bytes rest x.0 k.0 orders.Greater here parts h.0 h.1 x.2 o.0))
          ]
    ]

-- ---- lists and maps

all_push : {A : Type 0} (P : A → Type 0) (xs : List A) (x : A) → AllByRecursion P xs → P x → AllByRecursion P (xs ++ x ∷ [])
all_push P [] x all p = (p, tt)
all_push P (y ∷ xs) x all p = (all.0, all_push P xs x all.1 p)

joined_push : {A : Type 0} (f : A → List ℕ) (xs : List A) (x : A) → joined (map f (xs ++ x ∷ [])) ≡ joined (map f xs) ++ f x
joined_push f [] x = append-nil (f x)
joined_push f (y ∷ xs) x = ap (λ (t : List ℕ). f y ++ t) (joined_push f xs x) ∙ sym (append_assoc (f y) (joined (map f xs)) (f x))

-- keys that rise, and one more behind them
rise_join : (done ps : List (List ℕ × Value)) (text : List ℕ) → RiseBehind (last_key done) (keys_of ps) → order_after (last_key (done ++ ps)) text ≡ orders.Less → RiseBehind (last_key done) (keys_of ps ++ text ∷ [])
rise_join done [] text rise less = rise_more (last_key done) text [] (ap (λ (ps : List (List ℕ × Value)). order_after (last_key ps) text) (sym (append-nil done)) ∙ less) tt
rise_join done (p ∷ ps) text rise less =
    let first_of = rise_less (last_key done) p.0 (keys_of ps) rise in
    let push = last_key-push done p in
    let others : RiseBehind (last_key (done ++ p ∷ [])) (keys_of ps) = subst (λ (o : Option (List ℕ)). RiseBehind o (keys_of ps)) (sym push) first_of.1 in
    let less_here : order_after (last_key ((done ++ p ∷ []) ++ ps)) text ≡ orders.Less = ap (λ (qs : List (List ℕ × Value)). order_after (last_key qs) text) (append_assoc done (p ∷ []) ps) ∙ less in
    let more = rise_join (done ++ p ∷ []) ps text others less_here in
    rise_more (last_key done) p.0 (keys_of ps ++ text ∷ []) first_of.0 (subst (λ (o : Option (List ℕ)). RiseBehind o (keys_of ps ++ text ∷ [])) push more)

rise_push : (ps : List (List ℕ × Value)) (p : List ℕ × Value) → KeysRise (keys_of ps) → order_after (last_key ps) p.0 ≡ orders.Less → KeysRise (keys_of (ps ++ p ∷ []))
rise_push ps p rise less = subst KeysRise (keys_push ps p) (rise_join [] ps p.0 rise less)
  where
    keys_push : (ps : List (List ℕ × Value)) (p : List ℕ × Value) → keys_of ps ++ p.0 ∷ [] ≡ keys_of (ps ++ p ∷ [])
    keys_push [] p = refl
    keys_push (q ∷ ps) p = ap (λ (ks : List (List ℕ)). q.0 ∷ ks) (keys_push ps p)

abbrev ItemBlamed : ℕ → Type 0
ItemBlamed d = (levels : List Level) (bytes rest : List ℕ) (at : Flaw) → IsOpen d levels → bytes ≡ opened levels ++ rest → IsBytes rest → item_at d rest ≡ Err at → Blamed bytes at

listed_blame : (d : ℕ) (blames : ItemBlamed d) (levels : List Level) (total : ℕ) (done : List Value) (n : ℕ) (bytes rest : List ℕ) (at : Flaw) → IsOpen (suc d) levels → length done + n ≡ total → total < 2 ^ 64
    → AllByRecursion (IsPlain d) done → bytes ≡ (opened levels ++ list_bytes total done) ++ rest → IsBytes rest → listed (item_at d) done n rest ≡ Err at → Blamed bytes at
unfolding listed IsOpen opened
listed_blame d blames levels total done zero bytes rest at here count small plain parts fits e = absurd (not_failed (v.List done, rest) at e)
listed_blame d blames levels total done (suc n) bytes rest at here count small plain parts fits e =
    elim (bind_err (item_at d rest) (λ x. listed (item_at d) (done ++ x.0 ∷ []) n x.1) at e) [
      | inl p ↦ blames (in_list total done ∷ levels) bytes rest at ((omega arith, small, plain), here) parts fits p
      | inr x ↦
          let taken = item_takes d rest x.0 fits x.1 in
          let value : Value = x.0.0 in
          let after : List ℕ = x.0.1 in
          let text : list_bytes total (done ++ value ∷ []) ≡ list_bytes total done ++ spelled value = ap (λ (t : List ℕ). head 4 total ++ t) (joined_push spelled done value) ∙ sym (append_assoc (head 4 total) (joined (map spelled done)) (spelled value)) in
          let more : bytes ≡ (opened levels ++ list_bytes total (done ++ value ∷ [])) ++ after =
          parts ∙ ap (λ (t : List ℕ). (opened levels ++ list_bytes total done) ++ t) taken.0.parts ∙ sym (append_assoc (opened levels ++ list_bytes total done) (spelled value) after)
          ∙ ap (λ (t : List ℕ). t ++ after) (append_assoc (opened levels) (list_bytes total done) (spelled value) ∙ ap (λ (t : List ℕ). opened levels ++ t) (sym text)) in
          listed_blame d blames levels total (done ++ value ∷ []) n bytes after at here (omega (arith, length-append done (value ∷ []))) small (all_push (IsPlain d) done value plain taken.1) more taken.0.rest_fits x.2
    ]

mapped_blame : (d : ℕ) (blames : ItemBlamed d) (levels : List Level) (total : ℕ) (done : List (List ℕ × Value)) (n : ℕ) (bytes rest : List ℕ) (at : Flaw) → IsOpen (suc d) levels → length done + n ≡ total → total < 2 ^ 64
    → KeysRise (keys_of done) → AllByRecursion (IsPlainPair d) done → bytes ≡ (opened levels ++ map_bytes total done) ++ rest → IsBytes rest → mapped d (item_at d) done n rest ≡ Err at → Blamed bytes at
unfolding mapped IsOpen opened
mapped_blame d blames levels total done zero bytes rest at here count small rise plain parts fits e = absurd (not_failed (v.Map done, rest) at e)
mapped_blame d blames levels total done (suc n) bytes rest at here count small rise plain parts fits e =
    let is_open : IsOpenMap d total done = (omega arith, small, rise, plain) in
    elim (bind_err (key_at d done rest) (λ k. item_at d k.1 >>= λ x. mapped d (item_at d) (done ++ (k.0, x.0) ∷ []) n x.1) at e) [
      | inl p ↦ key_blame levels total done d bytes rest at (here, is_open) parts fits p
      | inr k ↦
          let taken_key = key_takes d done rest k.0 fits k.1 in
          let text : List ℕ = k.0.0 in
          let behind : List ℕ = k.0.1 in
          let of_key_is : bytes ≡ (opened levels ++ (map_bytes total done ++ (head 3 (length text) ++ text))) ++ behind =
          parts ∙ ap (λ (t : List ℕ). (opened levels ++ map_bytes total done) ++ t) taken_key.spelling.parts ∙ sym (append_assoc (opened levels ++ map_bytes total done) (head 3 (length text) ++ text) behind)
          ∙ ap (λ (t : List ℕ). t ++ behind) (append_assoc (opened levels) (map_bytes total done) (head 3 (length text) ++ text)) in
          elim (bind_err (item_at d behind) (λ x. mapped d (item_at d) (done ++ (text, x.0) ∷ []) n x.1) at k.2) [
            | inl p ↦ blames (in_map total done text ∷ levels) bytes behind at ((taken_key.some_room, is_open, taken_key.text, taken_key.order), here) of_key_is taken_key.spelling.rest_fits p
            | inr x ↦
                let taken = item_takes d behind x.0 taken_key.spelling.rest_fits x.1 in
                let pair : List ℕ × Value = (text, x.0.0) in
                let after : List ℕ = x.0.1 in
                let whole : map_bytes total (done ++ pair ∷ []) ≡ (map_bytes total done ++ (head 3 (length text) ++ text)) ++ spelled x.0.0 =
                ap (λ (t : List ℕ). head 5 total ++ t) (joined_push pair_bytes done pair) ∙ regroup (head 5 total) (joined (map pair_bytes done)) (head 3 (length text)) text (spelled x.0.0) in
                let more : bytes ≡ (opened levels ++ map_bytes total (done ++ pair ∷ [])) ++ after =
                of_key_is ∙ ap (λ (t : List ℕ). (opened levels ++ (map_bytes total done ++ (head 3 (length text) ++ text))) ++ t) taken.0.parts
                ∙ sym (append_assoc (opened levels ++ (map_bytes total done ++ (head 3 (length text) ++ text))) (spelled x.0.0) after)
                ∙ ap (λ (t : List ℕ). t ++ after) (append_assoc (opened levels) (map_bytes total done ++ (head 3 (length text) ++ text)) (spelled x.0.0) ∙ ap (λ (t : List ℕ). opened levels ++ t) (sym whole)) in
                mapped_blame d blames levels total (done ++ pair ∷ []) n bytes after at here (omega (arith, length-append done (pair ∷ []))) small (rise_push done pair rise taken_key.order) (all_push (IsPlainPair d) done pair plain (taken_key.text, taken.1)) more taken.0.rest_fits x.2
          ]
    ]
  where
    regroup : (a b c e f : List ℕ) → a ++ (b ++ (c ++ (e ++ f))) ≡ ((a ++ b) ++ (c ++ e)) ++ f
    regroup a b c e f = sym (simp append_assoc)

-- ---- items

opened_blame : (d : ℕ) (blames : ItemBlamed d) (levels : List Level) (bytes rest : List ℕ) (t : Token × List ℕ) (at : Flaw) → IsOpen (suc d) levels → bytes ≡ opened levels ++ rest → IsTaken rest t → opened_at d (item_at d) t ≡ Err at → Blamed bytes at
opened_blame d blames levels bytes rest (tokens.Whole value, after) at here parts taken e = absurd (not_failed (value, after) at e)
opened_blame d blames levels bytes rest (tokens.List count, after) at here parts taken e =
    let whole : bytes ≡ (opened levels ++ list_bytes count []) ++ after =
    parts ∙ ap (λ (t : List ℕ). opened levels ++ t) taken.0.parts ∙ sym (append_assoc (opened levels) (head 4 count) after) ∙ ap (λ (t : List ℕ). (opened levels ++ t) ++ after) (sym (append-nil (head 4 count))) in
    listed_blame d blames levels count [] count bytes after at here (omega arith) taken.1 tt whole taken.0.rest_fits e
opened_blame d blames levels bytes rest (tokens.Map count, after) at here parts taken e =
    let whole : bytes ≡ (opened levels ++ map_bytes count []) ++ after =
    parts ∙ ap (λ (t : List ℕ). opened levels ++ t) taken.0.parts ∙ sym (append_assoc (opened levels) (head 5 count) after) ∙ ap (λ (t : List ℕ). (opened levels ++ t) ++ after) (sym (append-nil (head 5 count))) in
    mapped_blame d blames levels count [] count bytes after at here (omega arith) taken.1 tt tt whole taken.0.rest_fits e

item_blame : (d : ℕ) → ItemBlamed d
unfolding item_at
item_blame zero levels bytes rest at here parts fits e =
    elim (bind_err (token_at 0 rest) (λ t. Err (flaw kinds.Depth (length rest))) at e) [
      | inl p ↦ token_blame 0 levels bytes rest at here parts fits p
      | inr t ↦ let deep = (reads_token 0 rest t.0 t.1).0 in absurd (omega arith)
    ]
item_blame (suc d) levels bytes rest at here parts fits e =
    elim (bind_err (token_at (suc d) rest) (opened_at d (item_at d)) at e) [
      | inl p ↦ token_blame (suc d) levels bytes rest at here parts fits p
      | inr t ↦ opened_blame d (λ ls bs r f h p i s. item_blame d ls bs r f h p i s) levels bytes rest t.0 at here parts (token_takes (suc d) rest t.0 fits t.1) t.2
    ]

trailing_blame : (bytes : List ℕ) (x : Value × List ℕ) (at : Flaw) → IsPlain MAX_DEPTH x.0 → bytes ≡ spelled x.0 ++ x.1 → (length x.1 ≡ 0 → ⊥) → flaw kinds.Trailing (length x.1) ≡ at → Blamed bytes at
trailing_blame bytes (value, []) at plain parts some is = absurd (some refl)
trailing_blame bytes (value, next ∷ rest) at plain parts some is =
    let row : TrailingRow bytes (length bytes - length (next ∷ rest)) = record { value = value; next = next; rest = rest; plain = plain; parts = parts; place = left_place bytes (spelled value) (next ∷ rest) parts } in
    subst (Blamed bytes) is (inr row)

whole_blame : (bytes : List ℕ) (at : Flaw) → IsBytes bytes → whole_at bytes ≡ Err at → Blamed bytes at
unfolding whole_at IsOpen opened
whole_blame bytes at fits e =
    elim (bind_err (item_at MAX_DEPTH bytes) (λ x. cond (eqb (length x.1) 0) (Ok x.0) (Err (flaw kinds.Trailing (length x.1)))) at e) [
      | inl p ↦ item_blame MAX_DEPTH [] bytes bytes at refl refl fits p
      | inr x ↦ elim (chosen (eqb (length x.0.1) 0) (Ok x.0.0) (Err (flaw kinds.Trailing (length x.0.1))) (Err at) x.2) [
        | inl p ↦ absurd (not_failed x.0.0 at p.1)
        | inr p ↦ let taken = item_takes MAX_DEPTH bytes x.0 fits x.1 in trailing_blame bytes x.0 at taken.1 taken.0.parts (eqb-false _ _ p.0) (err_is _ _ p.1)
      ]
    ]

-- ---- the first fault

-- any fault that the bytes have is that which reading meets, or comes after it at its moment
forced_first : (bytes : List ℕ) (at : Flaw) (other : CborKind) (place : ℕ) → whole_at bytes ≡ Err at → Forced bytes other place
    → (moment bytes at.kind (length bytes - at.left) ≡ moment bytes other place) × (rank at.kind ≤ rank other) × (1 ≤ rank at.kind)
forced_first bytes at other place e forced =
    let same : forced.met ≡ at = err_is _ _ (sym forced.read ∙ e) in
    subst (λ (f : Flaw). (moment bytes f.kind (length bytes - f.left) ≡ moment bytes other place) × (rank f.kind ≤ rank other) × (1 ≤ rank f.kind)) same (forced.same, forced.order, forced.later)

-- the fault that reading meets is the fault of the bytes
pub fault_is : (bytes : List ℕ) (at : Flaw) → IsBytes bytes → whole_at bytes ≡ Err at → IsFault bytes (record { kind = at.kind; at = length bytes - at.left })
fault_is bytes at fits e =
    elim (whole_blame bytes at fits e) [
      | inl is ↦ cut (sym (ap (λ (f : Flaw). f.kind) is)) (record {
        place = omega (arith, ap (λ (f : Flaw). f.left) is);
        nothing = nothing_whole bytes at e;
        no_row = λ other place row.
            let f = forced_first bytes at other place e (row_forces bytes other place row) in
            let none : rank at.kind ≡ 0 = ap (λ (f : Flaw). rank f.kind) (sym is) in
            absurd (omega (arith, f.2));
      })
      | inr row ↦ first (record {
        row = row;
        first = λ other place r. let f = forced_first bytes at other place e (row_forces bytes other place r) in inr (f.0, f.1);
      })
    ]
