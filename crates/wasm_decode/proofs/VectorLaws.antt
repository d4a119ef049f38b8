-- Names, vectors and sized parts: what is read is spelled so, and what is spelled so is read.
use Rattle.std.proofs.Common.{◌≡◌, ℕ, zero, suc, ◌≤◌, Bool, true, false, not, nat_lt, if◌then◌else◌, List, [], ◌∷◌, ◌++◌, length, take, drop, Ok, Err, refl, sym, ap, subst, ◌∙◌, arith}
use Rattle.std.specs.Bool.{IsTrue}
use Rattle.std.specs.Str.{is_utf8}
use Rattle.std.proofs.lemmas.Bool.{le-ltb, ltb-false, not-false, not_from_true}
use Rattle.std.proofs.lemmas.List.{append-nil, append_assoc, drop_at, length-append, length-take-le, take-append-drop, take_at}
use Rattle.wasm_decode.specs.declared.fault.Stop.TheVariants.{Short, Flaw}
use Rattle.wasm_decode.specs.declared.fault.WasmKind.TheVariants as kinds
use Rattle.wasm_decode.specs.Layout.{◌⨾◌, Just, SpellsAll, SpellsSized, SpellsVectorUpTo}
use Rattle.wasm_decode.specs.ReadingValues.{blob_at, byte_at, bytes_at, count_at, items_at, name_at, part_at, sized_at, vector_at}
use Rattle.wasm_decode.specs.Stops.{Found, Part, closed, refused, unless}
use Rattle.wasm_decode.specs.Values.{SpellsBytes, SpellsName, SpellsU32}
use Rattle.wasm_decode.proofs.Fronts.{Again, Front, Takes, both, found, go, just, just_is, left, passes, same_found, same_value, seen, split, step}
use Rattle.wasm_decode.proofs.NumberLaws.{u32_again, u32_takes}

-- what is read to the end is laid out so as a whole
pub whole : {P : List ℕ → Type 0} {bytes : List ℕ} → Front P bytes [] → P bytes
whole {P = P} {bytes = bytes} h = subst P (sym (h.parts ∙ append-nil h.front)) h.laid

pub from_whole : (P : List ℕ → Type 0) (bytes : List ℕ) → P bytes → Front P bytes []
from_whole P bytes laid = record { front = bytes; parts = sym (append-nil bytes); laid = laid }

-- ---- bytes

pub byte_takes : (bytes rest : List ℕ) (byte : ℕ) → byte_at bytes ≡ Ok (byte, rest) → bytes ≡ byte ∷ rest
byte_takes [] rest byte e = absurd cc
byte_takes (first ∷ behind) rest byte e = let same = same_found e in ap (λ (b : ℕ). b ∷ behind) same.0 ∙ ap (λ (bs : List ℕ). byte ∷ bs) same.1

pub byte_again : (bytes rest : List ℕ) (byte : ℕ) → bytes ≡ byte ∷ rest → byte_at bytes ≡ Ok (byte, rest)
byte_again bytes rest byte is = ap byte_at is

-- one byte is just this one
pub one_byte : (byte wanted : ℕ) (bytes rest : List ℕ) → bytes ≡ byte ∷ rest → byte ≡ wanted → Front (Just (wanted ∷ [])) bytes rest
one_byte byte wanted bytes rest is same = just (wanted ∷ []) bytes rest (is ∙ ap (λ (b : ℕ). b ∷ rest) same)

blob_takes : (size : ℕ) (bytes rest these : List ℕ) → blob_at size bytes ≡ Ok (these, rest) → (length these ≡ size) × (bytes ≡ these ++ rest)
blob_takes size bytes rest these e = cut (nat_lt (length bytes) size) refl e
  where
    cut : (test : Bool) → nat_lt (length bytes) size ≡ test → (if test then Err Short else found (take size bytes) (drop size bytes)) ≡ Ok (these, rest) → (length these ≡ size) × (bytes ≡ these ++ rest)
    cut true is f = absurd cc
    cut false is f =
        let same = same_found f in (
          ap length (sym same.0) ∙ length-take-le size bytes (ltb-false (length bytes) size is),
          sym (take-append-drop size bytes) ∙ (ap (λ (t : List ℕ). t ++ drop size bytes) same.0 ∙ ap (λ (d : List ℕ). these ++ d) same.1),
        )

blob_again : (size : ℕ) (bytes rest these : List ℕ) → length these ≡ size → bytes ≡ these ++ rest → blob_at size bytes ≡ Ok (these, rest)
blob_again size bytes rest these long is =
    let enough : size ≤ length bytes = omega (arith, long, ap length is, length-append these rest) in
    left (nat_lt (length bytes) size) (Err Short) (Ok (take size bytes, drop size bytes)) (le-ltb (length bytes) size enough)
    ∙ (ap (λ (bs : List ℕ). found (take size bs) (drop size bs)) is
    ∙ (ap (λ (t : List ℕ). found t (drop size (these ++ rest))) (take_at these rest size long)
    ∙ ap (λ (d : List ℕ). found these d) (drop_at these rest size long)))

-- bytes behind their number, as two parts
sized_bytes : (these front : List ℕ) → (SpellsU32 (length these) ⨾ Just these) front → SpellsBytes these front
sized_bytes these front h = (h.0, h.3, h.2 ∙ ap (λ (t : List ℕ). h.0 ++ t) h.4)

bytes_sized : (these front : List ℕ) → SpellsBytes these front → (SpellsU32 (length these) ⨾ Just these) front
bytes_sized these front h = (h.0, these, h.2, h.1, refl)

pub bytes_takes : Takes bytes_at SpellsBytes
unfolding bytes_at
bytes_takes bytes rest these e =
    let size = step e in
    let blob = blob_takes size.value.0 size.value.1 rest these size.after in
    let number : Front (SpellsU32 (length these)) bytes size.value.1 = subst (λ (n : ℕ). Front (SpellsU32 n) bytes size.value.1) (sym blob.0) (u32_takes bytes size.value.1 size.value.0 size.is) in
    seen (sized_bytes these) (both number (just these size.value.1 rest blob.1))

pub bytes_again : Again bytes_at SpellsBytes
unfolding bytes_at
bytes_again bytes rest these h =
    let two = split (seen (bytes_sized these) h) in
    go (λ n. blob_at n.0 n.1) (length these, two.middle) (u32_again bytes two.middle (length these) two.first) (blob_again (length these) two.middle rest these refl (just_is these two.middle rest two.second))

pub name_takes : Takes name_at SpellsName
unfolding name_at
name_takes bytes rest name e =
    let read = step e in
    let test = passes (not (is_utf8 read.value.0)) kinds.Form bytes read.value (name, rest) read.after in
    let same = same_found (ap (λ (x : List ℕ × List ℕ). found x.0 x.1) test.1) in
    let is : bytes_at bytes ≡ Ok (name, rest) = read.is ∙ ap (λ (x : List ℕ × List ℕ). found x.0 x.1) test.1 in
    let text : IsTrue (is_utf8 name) = subst (λ (n : List ℕ). is_utf8 n ≡ true) same.0 (not-false (is_utf8 read.value.0) test.0) in
    seen (λ front laid. (text, laid)) (bytes_takes bytes rest name is)

pub name_again : Again name_at SpellsName
unfolding name_at
name_again bytes rest name h =
    go (λ read. unless (not (is_utf8 read.0)) kinds.Form bytes read) (name, rest) (bytes_again bytes rest name (seen (λ front laid. laid.1) h))
    (left (not (is_utf8 name)) (refused kinds.Form bytes) (Ok (name, rest)) (not_from_true (is_utf8 name) h.laid.0))

-- ---- vectors

pub count_takes : (most : ℕ) (bytes rest : List ℕ) (n : ℕ) → count_at most bytes ≡ Ok (n, rest) → (n ≤ most) × Front (SpellsU32 n) bytes rest
unfolding count_at
count_takes most bytes rest n e =
    let read = step e in
    let test = passes (nat_lt most read.value.0) kinds.Limit bytes read.value (n, rest) read.after in
    let same = same_found (ap (λ (x : ℕ × List ℕ). found x.0 x.1) test.1) in
    (omega (arith, ltb-false most read.value.0 test.0, same.0), u32_takes bytes rest n (read.is ∙ ap (λ (x : ℕ × List ℕ). found x.0 x.1) test.1))

pub count_again : (most : ℕ) (bytes rest : List ℕ) (n : ℕ) → n ≤ most → Front (SpellsU32 n) bytes rest → count_at most bytes ≡ Ok (n, rest)
unfolding count_at
count_again most bytes rest n few h =
    go (λ m. unless (nat_lt most m.0) kinds.Limit bytes m) (n, rest) (u32_again bytes rest n h) (left (nat_lt most n) (refused kinds.Limit bytes) (Ok (n, rest)) (le-ltb most n few))

-- items that are read behind others
pub record NewItems {A : Type 0} (Item : A → List ℕ → Type 0) (done all : List A) (wanted : ℕ) (bytes rest : List ℕ) : Type 0 where
  pub new : List A
  pub joined : all ≡ done ++ new
  pub many : length new ≡ wanted
  pub laid : Front (SpellsAll Item new) bytes rest

pub items_take : {A : Type 0} (item : List ℕ → Found A) (Item : A → List ℕ → Type 0) → Takes item Item → (done : List A) (wanted : ℕ) (bytes rest : List ℕ) (all : List A) → items_at item done wanted bytes ≡ Ok (all, rest)
    → NewItems Item done all wanted bytes rest
unfolding items_at
items_take item Item takes done zero bytes rest all e =
    let same = same_found e in
    record { new = []; joined = sym same.0 ∙ sym (append-nil done); many = refl; laid = record { front = []; parts = same.1; laid = refl } }
items_take item Item takes done (suc wanted) bytes rest all e =
    let first = step e in
    let more = items_take item Item takes (done ++ first.value.0 ∷ []) wanted first.value.1 rest all first.after in
    record {
      new = first.value.0 ∷ more.new;
      joined = more.joined ∙ append_assoc done (first.value.0 ∷ []) more.new;
      many = ap suc more.many;
      laid = both (takes bytes first.value.1 first.value.0 first.is) more.laid;
    }

pub items_again : {A : Type 0} (item : List ℕ → Found A) (Item : A → List ℕ → Type 0) → Again item Item → (done new : List A) (bytes rest : List ℕ) → Front (SpellsAll Item new) bytes rest
    → items_at item done (length new) bytes ≡ Ok (done ++ new, rest)
unfolding items_at
items_again {A = A} item Item again done [] bytes rest h =
    let none : bytes ≡ rest = just_is [] bytes rest h in
    ap (λ (bs : List ℕ). found done bs) none ∙ ap (λ (xs : List A). found xs rest) (sym (append-nil done))
items_again {A = A} item Item again done (x ∷ new) bytes rest h =
    let two = split h in
    go (λ y. items_at item (done ++ y.0 ∷ []) (length new) y.1) (x, two.middle) (again bytes two.middle x two.first)
    (items_again item Item again (done ++ x ∷ []) new two.middle rest two.second
    ∙ ap (λ (xs : List A). found xs rest) (append_assoc done (x ∷ []) new))

pub vector_takes : {A : Type 0} (most : ℕ) (item : List ℕ → Found A) (Item : A → List ℕ → Type 0) → Takes item Item → Takes (vector_at most item) (SpellsVectorUpTo most Item)
unfolding vector_at
vector_takes most item Item takes bytes rest all e =
    let count = step e in
    let number = count_takes most bytes count.value.1 count.value.0 count.is in
    let items = items_take item Item takes [] count.value.0 count.value.1 rest all count.after in
    let long : count.value.0 ≡ length all = sym items.many ∙ ap length (sym items.joined) in
    let counted : Front (SpellsU32 (length all)) bytes count.value.1 = subst (λ (n : ℕ). Front (SpellsU32 n) bytes count.value.1) long number.1 in
    let laid : Front (SpellsAll Item all) count.value.1 rest = subst (λ xs. Front (SpellsAll Item xs) count.value.1 rest) (sym items.joined) items.laid in
    seen (λ front spelled. (omega (arith, number.0, long), spelled)) (both counted laid)

pub vector_again : {A : Type 0} (most : ℕ) (item : List ℕ → Found A) (Item : A → List ℕ → Type 0) → Again item Item → Again (vector_at most item) (SpellsVectorUpTo most Item)
unfolding vector_at
vector_again most item Item again bytes rest all h =
    let two = split (seen (λ front laid. laid.1) h) in
    go (λ n. items_at item [] n.0 n.1) (length all, two.middle) (count_again most bytes two.middle (length all) h.laid.0 two.first)
    (items_again item Item again [] all two.middle rest two.second)

-- ---- parts with a size

-- a part that is read: its size and its content, unless it is cut
pub part_takes : (bytes : List ℕ) (part : Part) → part_at bytes ≡ Ok part → part.is_cut ≡ false → Front (SpellsU32 (length part.content) ⨾ Just part.content) bytes part.behind
unfolding part_at
part_takes bytes part e there =
    let size = step e in
    let same = same_value size.after in
    let is_cut : nat_lt (length size.value.1) size.value.0 ≡ false = ap (λ (p : Part). p.is_cut) same ∙ there in
    let content : take size.value.0 size.value.1 ≡ part.content = ap (λ (p : Part). p.content) same in
    let behind : drop size.value.0 size.value.1 ≡ part.behind = ap (λ (p : Part). p.behind) same in
    let long : size.value.0 ≡ length part.content = sym (length-take-le size.value.0 size.value.1 (ltb-false (length size.value.1) size.value.0 is_cut)) ∙ ap length content in
    let number : Front (SpellsU32 (length part.content)) bytes size.value.1 = subst (λ (n : ℕ). Front (SpellsU32 n) bytes size.value.1) long (u32_takes bytes size.value.1 size.value.0 size.is) in
    both number (just part.content size.value.1 part.behind (sym (take-append-drop size.value.0 size.value.1)
    ∙ (ap (λ (t : List ℕ). t ++ drop size.value.0 size.value.1) content ∙ ap (λ (d : List ℕ). part.content ++ d) behind)))

-- a part that is all there
abbrev pub whole_part : List ℕ → List ℕ → List ℕ → Part
whole_part content behind bytes = record { content = content; behind = behind; is_cut = false; left = length bytes }

pub part_again : (content bytes rest : List ℕ) → Front (SpellsU32 (length content) ⨾ Just content) bytes rest → part_at bytes ≡ Ok (whole_part content rest bytes)
unfolding part_at
part_again content bytes rest h =
    let two = split h in
    let is : two.middle ≡ content ++ rest = just_is content two.middle rest two.second in
    let enough : length content ≤ length two.middle = omega (arith, ap length is, length-append content rest) in
    let front : take (length content) two.middle ≡ content = ap (take (length content)) is ∙ take_at content rest (length content) refl in
    let back : drop (length content) two.middle ≡ rest = ap (drop (length content)) is ∙ drop_at content rest (length content) refl in
    go (λ size. Ok (record { content = take size.0 size.1; behind = drop size.0 size.1; is_cut = nat_lt (length size.1) size.0; left = length bytes })) (length content, two.middle) (u32_again bytes two.middle (length content) two.first)
    (rw (front, back, le-ltb (length two.middle) (length content) enough) refl)

-- a part that is read whole
pub closed_takes : {A : Type 0} (part : Part) (read : Found A) (rest : List ℕ) (x : A) → closed part read ≡ Ok (x, rest) → (read ≡ Ok (x, [])) × (part.is_cut ≡ false) × (part.behind ≡ rest)
closed_takes {A = A} part (Ok (y, [])) rest x e =
    let test = is_there part.is_cut e in
    (ap (λ (z : A). found z []) test.1, test.0, test.2)
  where
    is_there : (cut : Bool) → (if cut then Err (Flaw kinds.Form part.left) else found y part.behind) ≡ Ok (x, rest) → (cut ≡ false) × (y ≡ x) × (part.behind ≡ rest)
    is_there true f = absurd cc
    is_there false f = let same = same_found f in (refl, same.0, same.1)
closed_takes part (Ok (y, byte ∷ more)) rest x e = absurd cc
closed_takes part (Err (Flaw kind at)) rest x e = absurd cc
closed_takes {A = A} part (Err Short) rest x e = absurd (never part.is_cut e)
  where
    never : (cut : Bool) → (let f : Found A = if cut then Err Short else Err (Flaw kinds.Form part.left) in f) ≡ Ok (x, rest) → ⊥
    never true f = cc
    never false f = cc

pub sized_takes : {A : Type 0} (content : List ℕ → Found A) (Content : A → List ℕ → Type 0) → Takes content Content → Takes (sized_at content) (λ x. SpellsSized (Content x))
unfolding sized_at
sized_takes content Content takes bytes rest x e =
    let part = step e in
    let inner = closed_takes part.value (content part.value.content) rest x part.after in
    let held : Content x part.value.content = whole (takes part.value.content [] x inner.0) in
    let outer : Front (SpellsU32 (length part.value.content) ⨾ Just part.value.content) bytes rest = subst (λ (r : List ℕ). Front (SpellsU32 (length part.value.content) ⨾ Just part.value.content) bytes r) inner.2 (part_takes bytes part.value part.is inner.1) in
    seen (λ front laid. (part.value.content, held, laid)) outer

pub sized_again : {A : Type 0} (content : List ℕ → Found A) (Content : A → List ℕ → Type 0) → Again content Content → Again (sized_at content) (λ x. SpellsSized (Content x))
unfolding sized_at
sized_again content Content again bytes rest x h =
    let these : List ℕ = h.laid.0 in
    let outer : Front (SpellsU32 (length these) ⨾ Just these) bytes rest = record { front = h.front; parts = h.parts; laid = h.laid.2 } in
    go (λ part. closed part (content part.content)) (whole_part these rest bytes) (part_again these bytes rest outer)
    (ap (closed (whole_part these rest bytes)) (again these [] x (from_whole (Content x) these h.laid.1)))
