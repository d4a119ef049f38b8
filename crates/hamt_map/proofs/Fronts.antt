-- What stands at the front of the bytes of a value.
use Rattle.std.proofs.Common.{◌≡◌, ℕ, suc, ◌+◌, ◌^◌, ◌<◌, List, [], ◌∷◌, ◌++◌, length, map, None, pos, negsuc, refl, sym, ap, ◌∙◌, append_assoc}
use Rattle.std.proofs.lemmas.List.{append-nil}
use Rattle.dag_cbor.specs.Spelling.{head, joined, spelled}
use Rattle.dag_cbor.specs.declared.value.Value.{Value, out-Value}
use Rattle.dag_cbor.specs.declared.value.Value.TheVariants as v
use Rattle.dag_cbor.proofs.Equations.{IsPlain-Blob, PlainCases, null, bool, natural, negative, blob, text, list, map_of, link, cases_of_plain, pair_bytes, spelled-Blob, spelled-Bool, spelled-Link, spelled-List, spelled-Map, spelled-Null, spelled-Text, spelled-negsuc, spelled-pos}
use Rattle.dag_cbor.proofs.OneSpelling.{one_spelling_within}
use Rattle.fil_base.specs.CidBytes.{cid_bytes}
use Rattle.tree_blocks.specs.Forms.{bytes_in, items_in}
use Rattle.hamt_map.specs.ReadPointers.{AreAt, IsAt}
use Rattle.hamt_map.proofs.FrontHeads.{same_kind, same_number}

-- ---- an item

-- only one value stands at the front
pub one_front : (d : ℕ) (x y : Value) (bytes behind rest : List ℕ) → IsAt d x bytes behind → IsAt d y bytes rest → (x ≡ y) × (behind ≡ rest)
one_front d x y bytes behind rest first second = one_spelling_within d x y behind rest first.plain second.plain (sym first.parts ∙ second.parts)

-- the first of values
pub first_at : (d : ℕ) (x : Value) (xs : List Value) (bytes rest : List ℕ) → AreAt d (x ∷ xs) bytes rest → IsAt d x bytes (joined (map spelled xs) ++ rest)
first_at d x xs bytes rest all = record { plain = all.plain.0; parts = all.parts ∙ append_assoc (spelled x) (joined (map spelled xs)) rest }

-- and those behind it
pub others_at : (d : ℕ) (x : Value) (xs : List Value) (bytes behind rest : List ℕ) → AreAt d (x ∷ xs) bytes rest → behind ≡ joined (map spelled xs) ++ rest → AreAt d xs behind rest
others_at d x xs bytes behind rest all is = record { plain = all.plain.1; parts = is }

-- ---- a head

-- a head with what is behind it
abbrev Begins : ℕ → List ℕ → Type 0
Begins major bytes = (n : ℕ) × (behind : List ℕ) × (bytes ≡ head major n ++ behind)

joins : (bytes : List ℕ) (x : Value) (rest : List ℕ) (major n : ℕ) (behind : List ℕ) → bytes ≡ spelled x ++ rest → spelled x ≡ head major n ++ behind → Begins major bytes
joins bytes x rest major n behind is spells = (n, behind ++ rest, is ∙ ap (λ (t : List ℕ). t ++ rest) spells ∙ append_assoc (head major n) behind rest)

apart : {X : Type 0} (a b n : ℕ) (bytes behind : List ℕ) → (a ≡ b → ⊥) → bytes ≡ head a n ++ behind → Begins b bytes → X
apart a b n bytes behind differ here there = absurd (differ (same_kind a b n there.0 behind there.1 (sym here ∙ there.2)).0)

no_rest : (t : List ℕ) → t ≡ t ++ []
no_rest t = sym (append-nil t)

-- ---- a list

-- the list whose head is at the front, with its items behind it
pub record IsListAt (d : ℕ) (x : Value) (n : ℕ) (behind rest : List ℕ) : Type 0 where
  pub items : List Value
  pub is : x ≡ v.List items
  pub count : n ≡ length items
  pub at : AreAt d items behind rest

pub list_found : (d n : ℕ) (x : Value) (bytes behind rest : List ℕ) → n < 2 ^ 64 → bytes ≡ head 4 n ++ behind → IsAt (suc d) x bytes rest → IsListAt d x n behind rest
list_found d n x bytes behind rest fits here at = by (cases_of_plain d x at.plain) where
  other : (major m : ℕ) (t : List ℕ) → (4 ≡ major → ⊥) → spelled x ≡ head major m ++ t → IsListAt d x n behind rest
  other major m t differ spells = apart 4 major n bytes behind differ here (joins bytes x rest major m t at.parts spells)

  by : PlainCases d x → IsListAt d x n behind rest
  by (null is) = other 7 22 [] (λ e. absurd (cc e)) (ap spelled (sym is) ∙ spelled-Null ∙ no_rest (head 7 22))
  by (bool b is) = other 7 _ [] (λ e. absurd (cc e)) (ap spelled (sym is) ∙ spelled-Bool b ∙ no_rest _)
  by (natural m small is) = other 0 m [] (λ e. absurd (cc e)) (ap spelled (sym is) ∙ spelled-pos m ∙ no_rest (head 0 m))
  by (negative m small is) = other 1 m [] (λ e. absurd (cc e)) (ap spelled (sym is) ∙ spelled-negsuc m ∙ no_rest (head 1 m))
  by (blob t small is) = other 2 (length t) t (λ e. absurd (cc e)) (ap spelled (sym is) ∙ spelled-Blob t)
  by (text t good is) = other 3 (length t) t (λ e. absurd (cc e)) (ap spelled (sym is) ∙ spelled-Text t)
  by (list items small plain is) =
      let whole : bytes ≡ head 4 (length items) ++ (joined (map spelled items) ++ rest) =
      at.parts ∙ ap (λ (t : List ℕ). t ++ rest) (ap spelled (sym is) ∙ spelled-List items) ∙ append_assoc (head 4 (length items)) (joined (map spelled items)) rest in
      let both = same_number 4 n (length items) behind (joined (map spelled items) ++ rest) fits small (sym here ∙ whole) in
      record { items = items; is = sym is; count = both.0; at = record { plain = plain; parts = both.1 } }
  by (map_of ps small rise plain is) = other 5 (length ps) (joined (map pair_bytes ps)) (λ e. absurd (cc e)) (ap spelled (sym is) ∙ spelled-Map ps)
  by (link cid good is) = other 6 42 (head 2 (length (cid_bytes cid) + 1) ++ (0 ∷ cid_bytes cid)) (λ e. absurd (cc e)) (ap spelled (sym is) ∙ spelled-Link cid)

pub list_none : (d : ℕ) (x : Value) (bytes rest : List ℕ) → ((count : ℕ) (behind : List ℕ) → count < 2 ^ 64 → bytes ≡ head 4 count ++ behind → ⊥) → IsAt (suc d) x bytes rest → items_in (out-Value x) ≡ None
list_none d x bytes rest only at = by (cases_of_plain d x at.plain) where
  by : PlainCases d x → items_in (out-Value x) ≡ None
  by (null is) = rw (← is, v.outs-Null) refl
  by (bool b is) = rw (← is, v.outs-Bool b) refl
  by (natural m small is) = rw (← is, v.outs-Int (pos m)) refl
  by (negative m small is) = rw (← is, v.outs-Int (negsuc m)) refl
  by (blob t small is) = rw (← is, v.outs-Blob t) refl
  by (text t good is) = rw (← is, v.outs-Text t) refl
  by (list items small plain is) =
      absurd (only (length items) (joined (map spelled items) ++ rest) small (at.parts ∙ ap (λ (t : List ℕ). t ++ rest) (ap spelled (sym is) ∙ spelled-List items) ∙ append_assoc (head 4 (length items)) (joined (map spelled items)) rest))
  by (map_of ps small rise plain is) = rw (← is, v.outs-Map ps) refl
  by (link cid good is) = rw (← is, v.outs-Link cid) refl

-- ---- a byte string

pub blob_found : (d : ℕ) (content : List ℕ) (x : Value) (bytes behind rest : List ℕ) → length content < 2 ^ 64 → bytes ≡ head 2 (length content) ++ (content ++ behind) → IsAt (suc d) x bytes rest → (v.Blob content ≡ x) × (behind ≡ rest)
blob_found d content x bytes behind rest fits here at =
    one_front (suc d) (v.Blob content) x bytes behind rest (record {
      plain = rw (IsPlain-Blob d content) fits;
      parts = here ∙ sym (append_assoc (head 2 (length content)) content behind) ∙ ap (λ (t : List ℕ). t ++ behind) (sym (spelled-Blob content));
    }) at

pub blob_none : (d : ℕ) (x : Value) (bytes rest : List ℕ) → ((content behind : List ℕ) → length content < 2 ^ 64 → bytes ≡ head 2 (length content) ++ (content ++ behind) → ⊥) → IsAt (suc d) x bytes rest → bytes_in (out-Value x) ≡ None
blob_none d x bytes rest only at = by (cases_of_plain d x at.plain) where
  by : PlainCases d x → bytes_in (out-Value x) ≡ None
  by (null is) = rw (← is, v.outs-Null) refl
  by (bool b is) = rw (← is, v.outs-Bool b) refl
  by (natural m small is) = rw (← is, v.outs-Int (pos m)) refl
  by (negative m small is) = rw (← is, v.outs-Int (negsuc m)) refl
  by (blob t small is) =
      absurd (only t rest small (at.parts ∙ ap (λ (t : List ℕ). t ++ rest) (ap spelled (sym is) ∙ spelled-Blob t) ∙ append_assoc (head 2 (length t)) t rest))
  by (text t good is) = rw (← is, v.outs-Text t) refl
  by (list items small plain is) = rw (← is, v.outs-List items) refl
  by (map_of ps small rise plain is) = rw (← is, v.outs-Map ps) refl
  by (link cid good is) = rw (← is, v.outs-Link cid) refl
