-- Items: what is read is spelled so, and what is spelled is read again.
use Rattle.std.proofs.Common.{◌≡◌, ℕ, zero, suc, ◌-◌, ◌^◌, ◌<◌, List, [], ◌∷◌, ◌++◌, length, map, Result, Ok, Err, Option, Some, None, refl, sym, ap, subst, ◌∙◌, append_assoc, arith, length-append}
use Rattle.std.specs.List.{AllByRecursion}
use Rattle.std.specs.Prelude.{slice_get}
use Rattle.std.specs.Option.{option_map}
use Rattle.std.specs.declared.cmp.Ordering.TheVariants as orders
use Rattle.std.proofs.lemmas.List.{append-nil}
use Rattle.dag_cbor.specs.declared.value.Value.{Value}
use Rattle.dag_cbor.specs.declared.value.Value.TheVariants as v
use Rattle.dag_cbor.specs.declared.fault.Flaw.{Flaw}
use Rattle.dag_cbor.specs.declared.token.Token.{Token}
use Rattle.dag_cbor.specs.declared.token.Token.TheVariants as tokens
use Rattle.dag_cbor.specs.Spelling.{head, joined, spelled}
use Rattle.dag_cbor.specs.Plain.{KeysRise, IsPlain}
use Rattle.dag_cbor.specs.Keys.{last_key, order_after}
use Rattle.dag_cbor.specs.Reading.{◌>>=◌, key_at, token_at, listed, mapped, opened_at, item_at}
use Rattle.dag_cbor.proofs.Equations.{spelled-List, spelled-Map, pair_bytes, IsPlainPair, keys_of, IsPlain-List, IsPlain-Map, IsPlain-zero, PlainCases, null, bool, natural, negative, blob, text, list, map_of, link, cases_of_plain}
use Rattle.dag_cbor.proofs.CidLaw.{cid_short}
use Rattle.dag_cbor.proofs.Steps.{bind_ok, ok_is}
use Rattle.dag_cbor.proofs.Numbers.{IsBytes, Takes, Takes-then}
use Rattle.dag_cbor.proofs.Tokens.{key_takes, IsTaken, token_takes, token_again, key_again, blob_token_again, text_token_again, link_token_again, pos_token_again, negsuc_token_again, null_token_again, bool_token_again}

-- ---- what is read is spelled so

abbrev pub Reads : Type 0
Reads = List ℕ → Result (Value × List ℕ) Flaw

-- what reading the rest of a list took
record TakesItems (d : ℕ) (done : List Value) (n : ℕ) (bytes : List ℕ) (x : Value × List ℕ) : Type 0 where
  pub items : List Value
  pub is : x.0 ≡ v.List (done ++ items)
  pub count : length items ≡ n
  pub spelling : Takes bytes (joined (map spelled items)) x.1
  pub plain : AllByRecursion (IsPlain d) items

abbrev ItemTakes : ℕ → Reads → Type 0
ItemTakes d item = (bytes : List ℕ) (x : Value × List ℕ) → IsBytes bytes → item bytes ≡ Ok x → Takes bytes (spelled x.0) x.1 × IsPlain d x.0

listed_takes : (d : ℕ) (item : Reads) (takes : ItemTakes d item) (done : List Value) (n : ℕ) (bytes : List ℕ) (x : Value × List ℕ)
    → IsBytes bytes → listed item done n bytes ≡ Ok x → TakesItems d done n bytes x
unfolding listed
listed_takes d item takes done zero bytes x fits e =
    subst (TakesItems d done 0 bytes) (ok_is (v.List done, bytes) x e) (record {
      items = [];
      is = ap v.List (sym (append-nil done));
      count = refl;
      spelling = record { parts = refl; rest_fits = fits };
      plain = tt;
    })
listed_takes d item takes done (suc n) bytes x fits e =
    let a = bind_ok (item bytes) (λ y. listed item (done ++ y.0 ∷ []) n y.1) x e in
    let first = takes bytes a.0 fits a.1 in
    let others = listed_takes d item takes (done ++ a.0.0 ∷ []) n a.0.1 x first.0.rest_fits a.2 in
    record {
      items = a.0.0 ∷ others.items;
      is = others.is ∙ ap v.List (append_assoc done (a.0.0 ∷ []) others.items);
      count = ap suc others.count;
      spelling = Takes-then bytes (spelled a.0.0) a.0.1 (joined (map spelled others.items)) x.1 first.0 others.spelling;
      plain = (first.1, others.plain);
    }

list_taken : (d : ℕ) (bytes : List ℕ) (count : ℕ) (rest : List ℕ) (x : Value × List ℕ) → Takes bytes (head 4 count) rest → count < 2 ^ 64 → TakesItems d [] count rest x → Takes bytes (spelled x.0) x.1 × IsPlain (suc d) x.0
list_taken d bytes count rest x taken fits of_items =
    let both = Takes-then bytes (head 4 count) rest (joined (map spelled of_items.items)) x.1 taken of_items.spelling in
    let text : head 4 count ++ joined (map spelled of_items.items) ≡ spelled x.0 =
    ap (λ (n : ℕ). head 4 n ++ joined (map spelled of_items.items)) (sym of_items.count) ∙ sym (spelled-List of_items.items) ∙ ap spelled (sym of_items.is) in
    let plain : IsPlain (suc d) (v.List of_items.items) = rw (IsPlain-List d of_items.items) (omega (arith, of_items.count), of_items.plain) in
    (subst (λ (t : List ℕ). Takes bytes t x.1) text both, subst (IsPlain (suc d)) (sym of_items.is) plain)

-- keys that rise, behind the last one
abbrev pub RiseBehind : Option (List ℕ) → List (List ℕ) → Type 0
RiseBehind None keys = KeysRise keys
RiseBehind (Some last) keys = KeysRise (last ∷ keys)

pub rise_more : (last : Option (List ℕ)) (key : List ℕ) (keys : List (List ℕ)) → order_after last key ≡ orders.Less → KeysRise (key ∷ keys) → RiseBehind last (key ∷ keys)
rise_more None key keys less rise = rise
rise_more (Some last) key keys less rise = (less, rise)

pub rise_less : (last : Option (List ℕ)) (key : List ℕ) (keys : List (List ℕ)) → RiseBehind last (key ∷ keys) → (order_after last key ≡ orders.Less) × KeysRise (key ∷ keys)
rise_less None key keys rise = (refl, rise)
rise_less (Some last) key keys rise = rise

slice_get-push : {A : Type 0} (xs : List A) (x : A) → slice_get (xs ++ x ∷ []) (length xs) ≡ Some x
slice_get-push [] x = refl
slice_get-push (y ∷ xs) x = slice_get-push xs x

pub last_key-push : (done : List (List ℕ × Value)) (p : List ℕ × Value) → last_key (done ++ p ∷ []) ≡ Some p.0
last_key-push done p =
    let len : length (done ++ p ∷ []) - 1 ≡ length done = omega (arith, length-append done (p ∷ [])) in
    ap (λ (i : ℕ). option_map (λ (q : List ℕ × Value). q.0) (slice_get (done ++ p ∷ []) i)) len ∙ ap (option_map (λ (q : List ℕ × Value). q.0)) (slice_get-push done p)

-- what reading the rest of a map took
record TakesPairs (d : ℕ) (done : List (List ℕ × Value)) (n : ℕ) (bytes : List ℕ) (x : Value × List ℕ) : Type 0 where
  pub pairs : List (List ℕ × Value)
  pub is : x.0 ≡ v.Map (done ++ pairs)
  pub count : length pairs ≡ n
  pub spelling : Takes bytes (joined (map pair_bytes pairs)) x.1
  pub rise : RiseBehind (last_key done) (keys_of pairs)
  pub plain : AllByRecursion (IsPlainPair d) pairs

rise_none : (last : Option (List ℕ)) → RiseBehind last []
rise_none None = tt
rise_none (Some last) = tt

mapped_takes : (d : ℕ) (item : Reads) (takes : ItemTakes d item) (done : List (List ℕ × Value)) (n : ℕ) (bytes : List ℕ) (x : Value × List ℕ)
    → IsBytes bytes → mapped d item done n bytes ≡ Ok x → TakesPairs d done n bytes x
unfolding mapped
mapped_takes d item takes done zero bytes x fits e =
    subst (TakesPairs d done 0 bytes) (ok_is (v.Map done, bytes) x e) (record {
      pairs = [];
      is = ap v.Map (sym (append-nil done));
      count = refl;
      spelling = record { parts = refl; rest_fits = fits };
      rise = rise_none (last_key done);
      plain = tt;
    })
mapped_takes d item takes done (suc n) bytes x fits e =
    let k = bind_ok (key_at d done bytes) (λ k. item k.1 >>= λ y. mapped d item (done ++ (k.0, y.0) ∷ []) n y.1) x e in
    let key = key_takes d done bytes k.0 fits k.1 in
    let a = bind_ok (item k.0.1) (λ y. mapped d item (done ++ (k.0.0, y.0) ∷ []) n y.1) x k.2 in
    let first = takes k.0.1 a.0 key.spelling.rest_fits a.1 in
    let pair : List ℕ × Value = (k.0.0, a.0.0) in
    let others = mapped_takes d item takes (done ++ pair ∷ []) n a.0.1 x first.0.rest_fits a.2 in
    let rise : KeysRise (k.0.0 ∷ keys_of others.pairs) = subst (λ (o : Option (List ℕ)). RiseBehind o (keys_of others.pairs)) (last_key-push done pair) others.rise in
    let both : Takes bytes ((head 3 (length k.0.0) ++ k.0.0) ++ spelled a.0.0) a.0.1 = Takes-then bytes (head 3 (length k.0.0) ++ k.0.0) k.0.1 (spelled a.0.0) a.0.1 key.spelling first.0 in
    let of_pair : Takes bytes (pair_bytes pair) a.0.1 = subst (λ (t : List ℕ). Takes bytes t a.0.1) (append_assoc (head 3 (length k.0.0)) k.0.0 (spelled a.0.0)) both in
    record {
      pairs = pair ∷ others.pairs;
      is = others.is ∙ ap v.Map (append_assoc done (pair ∷ []) others.pairs);
      count = ap suc others.count;
      spelling = Takes-then bytes (pair_bytes pair) a.0.1 (joined (map pair_bytes others.pairs)) x.1 of_pair others.spelling;
      rise = rise_more (last_key done) k.0.0 (keys_of others.pairs) key.order rise;
      plain = ((key.text, first.1), others.plain);
    }

map_taken : (d : ℕ) (bytes : List ℕ) (count : ℕ) (rest : List ℕ) (x : Value × List ℕ) → Takes bytes (head 5 count) rest → count < 2 ^ 64 → TakesPairs d [] count rest x → Takes bytes (spelled x.0) x.1 × IsPlain (suc d) x.0
map_taken d bytes count rest x taken fits of_pairs =
    let inner : List ℕ = joined (map pair_bytes of_pairs.pairs) in
    let both = Takes-then bytes (head 5 count) rest inner x.1 taken of_pairs.spelling in
    let text_is : head 5 count ++ inner ≡ spelled x.0 =
    ap (λ (n : ℕ). head 5 n ++ inner) (sym of_pairs.count) ∙ sym (spelled-Map of_pairs.pairs) ∙ ap spelled (sym of_pairs.is) in
    let plain : IsPlain (suc d) (v.Map of_pairs.pairs) = rw (IsPlain-Map d of_pairs.pairs) (omega (arith, of_pairs.count), of_pairs.rise, of_pairs.plain) in
    (subst (λ (t : List ℕ). Takes bytes t x.1) text_is both, subst (IsPlain (suc d)) (sym of_pairs.is) plain)

opened_takes : (d : ℕ) (takes : ItemTakes d (item_at d)) (bytes : List ℕ) (t : Token × List ℕ) (x : Value × List ℕ) → IsTaken bytes t → opened_at d (item_at d) t ≡ Ok x → Takes bytes (spelled x.0) x.1 × IsPlain (suc d) x.0
opened_takes d takes bytes (tokens.Whole value, rest) x taken e =
    subst (λ (y : Value × List ℕ). Takes bytes (spelled y.0) y.1 × IsPlain (suc d) y.0) (ok_is (value, rest) x e) (taken.0, taken.1 d)
opened_takes d takes bytes (tokens.List count, rest) x taken e =
    list_taken d bytes count rest x taken.0 taken.1 (listed_takes d (item_at d) takes [] count rest x taken.0.rest_fits e)
opened_takes d takes bytes (tokens.Map count, rest) x taken e =
    map_taken d bytes count rest x taken.0 taken.1 (mapped_takes d (item_at d) takes [] count rest x taken.0.rest_fits e)

pub item_takes : (d : ℕ) (bytes : List ℕ) (x : Value × List ℕ) → IsBytes bytes → item_at d bytes ≡ Ok x → Takes bytes (spelled x.0) x.1 × IsPlain d x.0
unfolding item_at
item_takes zero bytes x fits e = let t = bind_ok (token_at 0 bytes) _ x e in absurd (never t.2)
  where
    never : {at : Flaw} → Err at ≡ Ok x → ⊥
    never e = cc
item_takes (suc d) bytes x fits e =
    let t = bind_ok (token_at (suc d) bytes) (opened_at d (item_at d)) x e in
    opened_takes d (λ bs y fit is. item_takes d bs y fit is) bytes t.0 x (token_takes (suc d) bytes t.0 fits t.1) t.2

-- ---- what is spelled is read again

abbrev pub ItemAgain : ℕ → Reads → Type 0
ItemAgain d item = (x : Value) (rest : List ℕ) → IsPlain d x → item (spelled x ++ rest) ≡ Ok (x, rest)

listed_again : (d : ℕ) (item : Reads) (again : ItemAgain d item) (done vs : List Value) (rest : List ℕ) → AllByRecursion (IsPlain d) vs
    → listed item done (length vs) (joined (map spelled vs) ++ rest) ≡ Ok (v.List (done ++ vs), rest)
unfolding listed
listed_again d item again done [] rest plain = ap (λ (vs : List Value). Ok (v.List vs, rest)) (sym (append-nil done))
listed_again d item again done (x ∷ vs) rest plain =
    let parts : (spelled x ++ joined (map spelled vs)) ++ rest ≡ spelled x ++ (joined (map spelled vs) ++ rest) = append_assoc (spelled x) (joined (map spelled vs)) rest in
    ap (listed item done (suc (length vs))) parts
    ∙ ap (λ (r : Result (Value × List ℕ) Flaw). r >>= λ y. listed item (done ++ y.0 ∷ []) (length vs) y.1) (again x (joined (map spelled vs) ++ rest) plain.0)
    ∙ listed_again d item again (done ++ x ∷ []) vs rest plain.1
    ∙ ap (λ (all : List Value). Ok (v.List all, rest)) (append_assoc done (x ∷ []) vs)

pub some_depth : (d : ℕ) (x : Value) → IsPlain d x → 0 < d
some_depth zero x plain = absurd (IsPlain-zero x plain)
some_depth (suc d) x plain = omega arith

mapped_again : (d : ℕ) (item : Reads) (again : ItemAgain d item) (done ps : List (List ℕ × Value)) (rest : List ℕ) → RiseBehind (last_key done) (keys_of ps) → AllByRecursion (IsPlainPair d) ps
    → mapped d item done (length ps) (joined (map pair_bytes ps) ++ rest) ≡ Ok (v.Map (done ++ ps), rest)
unfolding mapped
mapped_again d item again done [] rest rise plain = ap (λ (ps : List (List ℕ × Value)). Ok (v.Map ps, rest)) (sym (append-nil done))
mapped_again d item again done (p ∷ ps) rest rise plain =
    let inner : List ℕ = joined (map pair_bytes ps) in
    let key : List ℕ = p.0 in
    let x : Value = p.1 in
    let parts : (pair_bytes p ++ inner) ++ rest ≡ (head 3 (length key) ++ key) ++ (spelled x ++ (inner ++ rest)) = simp append_assoc in
    let less = rise_less (last_key done) key (keys_of ps) rise in
    let some : 0 < d = some_depth d x plain.0.1 in
    let next : RiseBehind (last_key (done ++ p ∷ [])) (keys_of ps) = subst (λ (o : Option (List ℕ)). RiseBehind o (keys_of ps)) (sym (last_key-push done p)) less.1 in
    ap (mapped d item done (suc (length ps))) parts
    ∙ ap (λ (r : Result (List ℕ × List ℕ) Flaw). r >>= λ k. item k.1 >>= λ y. mapped d item (done ++ (k.0, y.0) ∷ []) (length ps) y.1) (key_again d done key (spelled x ++ (inner ++ rest)) some plain.0.0 less.0)
    ∙ ap (λ (r : Result (Value × List ℕ) Flaw). r >>= λ y. mapped d item (done ++ (key, y.0) ∷ []) (length ps) y.1) (again x (inner ++ rest) plain.0.1)
    ∙ mapped_again d item again (done ++ p ∷ []) ps rest next plain.1
    ∙ ap (λ (all : List (List ℕ × Value)). Ok (v.Map all, rest)) (append_assoc done (p ∷ []) ps)

-- an item whose token is known
pub opened_again : (d : ℕ) (bytes : List ℕ) (t : Token × List ℕ) → token_at (suc d) bytes ≡ Ok t → item_at (suc d) bytes ≡ opened_at d (item_at d) t
unfolding item_at
opened_again d bytes t e = ap (λ (r : Result (Token × List ℕ) Flaw). r >>= opened_at d (item_at d)) e

IsAgain : ℕ → List ℕ → Value → Type 0
IsAgain d rest x = item_at (suc d) (spelled x ++ rest) ≡ Ok (x, rest)

case_again : (d : ℕ) (again : ItemAgain d (item_at d)) (x : Value) (rest : List ℕ) → PlainCases d x → IsAgain d rest x
unfolding IsAgain
case_again d again x rest (null is) = subst (IsAgain d rest) is (opened_again d _ _ (null_token_again (suc d) rest (omega arith)))
case_again d again x rest (bool b is) = subst (IsAgain d rest) is (opened_again d _ _ (bool_token_again (suc d) b rest (omega arith)))
case_again d again x rest (natural n fits is) = subst (IsAgain d rest) is (opened_again d _ _ (pos_token_again (suc d) n rest (omega arith) fits))
case_again d again x rest (negative n fits is) = subst (IsAgain d rest) is (opened_again d _ _ (negsuc_token_again (suc d) n rest (omega arith) fits))
case_again d again x rest (blob bytes fits is) = subst (IsAgain d rest) is (opened_again d _ _ (blob_token_again (suc d) bytes rest (omega arith) fits))
case_again d again x rest (text bytes good is) = subst (IsAgain d rest) is (opened_again d _ _ (text_token_again (suc d) bytes rest (omega arith) good))
case_again d again x rest (link cid good is) = subst (IsAgain d rest) is (opened_again d _ _ (link_token_again (suc d) cid rest (omega arith) good (cid_short cid good)))
case_again d again x rest (list vs fits plain is) =
    let inner : List ℕ = joined (map spelled vs) in
    let bytes : spelled (v.List vs) ++ rest ≡ head 4 (length vs) ++ (inner ++ rest) = ap (λ (t : List ℕ). t ++ rest) (spelled-List vs) ∙ append_assoc (head 4 (length vs)) inner rest in
    subst (IsAgain d rest) is
    (ap (item_at (suc d)) bytes ∙ opened_again d (head 4 (length vs) ++ (inner ++ rest)) (tokens.List (length vs), inner ++ rest) (token_again (suc d) 4 (length vs) (inner ++ rest) (omega arith) fits (λ e. absurd (omega arith)) (λ e. absurd (omega arith)))
    ∙ listed_again d (item_at d) again [] vs rest plain)
case_again d again x rest (map_of ps fits rise plain is) =
    let inner : List ℕ = joined (map pair_bytes ps) in
    let bytes : spelled (v.Map ps) ++ rest ≡ head 5 (length ps) ++ (inner ++ rest) = ap (λ (t : List ℕ). t ++ rest) (spelled-Map ps) ∙ append_assoc (head 5 (length ps)) inner rest in
    subst (IsAgain d rest) is
    (ap (item_at (suc d)) bytes ∙ opened_again d (head 5 (length ps) ++ (inner ++ rest)) (tokens.Map (length ps), inner ++ rest) (token_again (suc d) 5 (length ps) (inner ++ rest) (omega arith) fits (λ e. absurd (omega arith)) (λ e. absurd (omega arith)))
    ∙ mapped_again d (item_at d) again [] ps rest rise plain)

pub item_again : (d : ℕ) (x : Value) (rest : List ℕ) → IsPlain d x → item_at d (spelled x ++ rest) ≡ Ok (x, rest)
unfolding IsAgain
item_again zero x rest plain = absurd (IsPlain-zero x plain)
item_again (suc d) x rest plain = case_again d (λ y after is. item_again d y after is) x rest (cases_of_plain d x plain)
