-- Sections: what is read is spelled so, and what is spelled so is read.
use Rattle.std.proofs.Common.{◌≡◌, ℕ, zero, suc, ◌*◌, ◌<◌, ◌≤◌, ◌⊎◌, false, ◌==◌, if◌then◌else◌, List, [], ◌∷◌, ◌++◌, length, Result, Ok, Err, Option, Some, None, IfSome, inl, inr, refl, sym, ap, subst, ◌∙◌, arith}
use Rattle.std.proofs.lemmas.Bool.{eq-eqb, eqb-true, ne_eqb}
use Rattle.wasm_decode.specs.declared.fault.Stop.{Stop}
use Rattle.wasm_decode.specs.declared.fault.Stop.TheVariants.{Short}
use Rattle.wasm_decode.specs.Layout.{◌⨾◌, Just, SpellsAll, SpellsSized, SpellsVectorUpTo}
use Rattle.wasm_decode.specs.Modules.{SpellsCustom, SpellsCustoms, SpellsRows, SpellsSection}
use Rattle.wasm_decode.specs.ReadingModule.{custom_at, custom_content, customs_at, customs_from, no_section, present, section_at, this_section, wanted_by, wanted_rows}
use Rattle.wasm_decode.specs.ReadingSections.{counted_at}
use Rattle.wasm_decode.specs.ReadingValues.{name_at, part_at, sized_at}
use Rattle.wasm_decode.specs.Stops.{◌>>=◌, Found, Part, closed}
use Rattle.wasm_decode.specs.Values.{SpellsName}
use Rattle.wasm_decode.proofs.EntryLaws.{counted_again, counted_takes}
use Rattle.wasm_decode.proofs.ExpressionLaws.{shorter}
use Rattle.wasm_decode.proofs.Fronts.{Again, Front, Takes, both, chosen, found, go, just, just_is, left, same_found, same_value, seen, split, step, taken}
use Rattle.wasm_decode.proofs.VectorLaws.{closed_takes, from_whole, name_again, name_takes, part_again, part_takes, sized_again, sized_takes, whole, whole_part}

-- ---- custom sections

-- the content of a custom section
abbrev SpellsContent : List ℕ → List ℕ → Type 0
SpellsContent these content = (name : List ℕ) × (SpellsName name ⨾ Just these) content

custom_content_takes : (part : Part) (x : List ℕ) → custom_content part ≡ Ok (x, []) → part.is_cut ≡ false → (these : List ℕ) × SpellsContent these part.content
custom_content_takes part x e there =
    let name = step {r = name_at part.content} {next = λ name. (if part.is_cut then Err Short else Ok (name.0, []))} e in
    (name.value.1, (name.value.0, whole (both (name_takes part.content name.value.1 name.value.0 name.is) (from_whole (Just name.value.1) name.value.1 refl))))

custom_takes : (bytes rest : List ℕ) → custom_at bytes ≡ Ok rest → (these : List ℕ) × Front (SpellsSized (SpellsContent these)) bytes rest
unfolding custom_at
custom_takes bytes rest e =
    let part = step {r = part_at bytes} {next = λ part. closed part (custom_content part) >>= λ name. Ok name.1} e in
    let inner = step {r = closed part.value (custom_content part.value)} {next = λ name. Ok name.1} part.after in
    let read = closed_takes part.value (custom_content part.value) inner.value.1 inner.value.0 inner.is in
    let content = custom_content_takes part.value inner.value.0 read.0 read.1 in
    let outer = part_takes bytes part.value part.is read.1 in
    let behind : part.value.behind ≡ rest = read.2 ∙ same_value inner.after in
    (content.0, subst (λ (r : List ℕ). Front (SpellsSized (SpellsContent content.0)) bytes r) behind (seen (λ front laid. (part.value.content, content.1, laid)) outer))

custom_content_again : (these content behind bytes : List ℕ) → SpellsContent these content → (name : List ℕ) × (custom_content (whole_part content behind bytes) ≡ Ok (name, []))
custom_content_again these content behind bytes (name, laid) =
    let two = split (from_whole (SpellsName name ⨾ Just these) content laid) in
    (name, go (λ n. Ok (n.0, [])) (name, two.middle) (name_again content two.middle name two.first) refl)

custom_again : (these bytes rest : List ℕ) → Front (SpellsSized (SpellsContent these)) bytes rest → custom_at bytes ≡ Ok rest
unfolding custom_at
custom_again these bytes rest h =
    let (content, laid, spelled) = h.laid in
    let part = part_again content bytes rest (record { front = h.front; parts = h.parts; laid = spelled }) in
    let read = custom_content_again these content rest bytes laid in
    go (λ p. closed p (custom_content p) >>= λ name. Ok name.1) (whole_part content rest bytes) part
    (go (λ name. Ok name.1) (read.0, rest) (ap (closed (whole_part content rest bytes)) read.1) refl)

customs_take : (most : ℕ) (bytes rest : List ℕ) → customs_from most bytes ≡ Ok rest → (customs : List (List ℕ)) × Front (SpellsAll SpellsCustom customs) bytes rest
unfolding customs_from
customs_take zero bytes rest e = ([], just [] bytes rest (same_value e))
customs_take (suc most) [] rest e = ([], just [] [] rest (same_value e))
customs_take (suc most) (zero ∷ behind) rest e =
    let first = step {r = custom_at behind} {next = customs_from most} e in
    let custom = custom_takes behind first.value first.is in
    let others = customs_take most first.value rest first.after in
    (custom.0 ∷ others.0, both (both (just (0 ∷ []) (0 ∷ behind) behind refl) custom.1) others.1)
customs_take (suc most) (suc n ∷ behind) rest e = ([], just [] (suc n ∷ behind) rest (same_value e))

all_customs_take : (bytes rest : List ℕ) → customs_at bytes ≡ Ok rest → Front SpellsCustoms bytes rest
unfolding customs_at
all_customs_take bytes rest e =
    let customs = customs_take (length bytes) bytes rest e in
    seen (λ front laid. (customs.0, laid)) customs.1

-- the same behind a step that may have stopped
same_behind : (read : Result (List ℕ) Stop) (f g : List ℕ → Result (List ℕ) Stop) → ((x : List ℕ) → read ≡ Ok x → f x ≡ g x) → (read >>= f) ≡ (read >>= g)
same_behind (Ok x) f g same = same x refl
same_behind (Err stop) f g same = refl

-- a bound on the custom sections that is enough does not count
enough : (m n : ℕ) (bytes : List ℕ) → length bytes ≤ m → length bytes ≤ n → customs_from m bytes ≡ customs_from n bytes
unfolding customs_from
enough zero zero bytes a b = refl
enough zero (suc n) [] a b = refl
enough zero (suc n) (first ∷ bytes) a b = absurd (omega (arith, a))
enough (suc m) zero [] a b = refl
enough (suc m) zero (first ∷ bytes) a b = absurd (omega (arith, b))
enough (suc m) (suc n) [] a b = refl
enough (suc m) (suc n) (zero ∷ bytes) a b =
    same_behind (custom_at bytes) (customs_from m) (customs_from n)
    (λ x is. let fewer : length x ≤ length bytes = shorter (custom_takes bytes x is).1 in enough m n x (omega (arith, a, fewer)) (omega (arith, b, fewer)))
enough (suc m) (suc n) (suc first ∷ bytes) a b = refl

one_custom : (these bytes rest : List ℕ) → Front (SpellsCustom these) bytes rest → customs_at bytes ≡ customs_at rest
unfolding customs_at customs_from
one_custom these bytes rest h =
    let two = split h in
    let fewer : length rest ≤ length two.middle = shorter two.second in
    ap customs_at (just_is (0 ∷ []) bytes two.middle two.first)
    ∙ (ap (λ (r : Result (List ℕ) Stop). r >>= customs_from (length two.middle)) (custom_again these two.middle rest two.second)
    ∙ enough (length two.middle) (length rest) rest fewer (omega arith))

-- custom sections in front of others do not count
customs_skip : (customs : List (List ℕ)) (bytes rest : List ℕ) → Front (SpellsAll SpellsCustom customs) bytes rest → customs_at bytes ≡ customs_at rest
customs_skip [] bytes rest h = ap customs_at (just_is [] bytes rest h)
customs_skip (these ∷ customs) bytes rest h =
    let two = split h in
    one_custom these bytes two.middle two.first ∙ customs_skip customs two.middle rest two.second

pub all_customs_skip : (bytes rest : List ℕ) → Front SpellsCustoms bytes rest → customs_at bytes ≡ customs_at rest
all_customs_skip bytes rest h = customs_skip h.laid.0 bytes rest (record { front = h.front; parts = h.parts; laid = h.laid.1 })

pub customs_taken : (bytes rest : List ℕ) → customs_at bytes ≡ Ok rest → Front SpellsCustoms bytes rest
customs_taken bytes rest e = all_customs_take bytes rest e

-- ---- sections that are read

abbrev SpellsThis : ℕ → (List ℕ → Type 0) → Type 0 → List ℕ → Type 0
SpellsThis number Content Absent bytes = ((bytes ≡ []) × Absent) ⊎ (Just (number ∷ []) ⨾ SpellsSized Content) bytes

this_takes : {A : Type 0} (number : ℕ) (absent : A) (content : List ℕ → Found A) (Content : A → List ℕ → Type 0) → Takes content Content → (bytes rest : List ℕ) (x : A) → this_section number absent content bytes ≡ Ok (x, rest)
    → Front (SpellsThis number (Content x) (x ≡ absent)) bytes rest
this_takes number absent content Content takes [] rest x e =
    let same = same_found e in
    record { front = []; parts = same.1; laid = inl (refl, sym same.0) }
this_takes number absent content Content takes (first ∷ behind) rest x e =
    elim (chosen (first == number) (sized_at content behind) (found absent (first ∷ behind)) (Ok (x, rest)) e) [
      | inl this ↦
          let h : Front (Just (number ∷ []) ⨾ SpellsSized (Content x)) (first ∷ behind) rest =
          both (just (number ∷ []) (first ∷ behind) behind (ap (λ (n : ℕ). n ∷ behind) (eqb-true first number this.0))) (sized_takes content Content takes behind rest x this.1) in
          seen (λ front laid. inr laid) h
      | inr other ↦
          let same = same_found other.1 in
          record { front = []; parts = same.1; laid = inl (refl, sym same.0) }
    ]

pub section_takes : {A : Type 0} (number : ℕ) (absent : A) (content : List ℕ → Found A) (Content : A → List ℕ → Type 0) → Takes content Content → (bytes rest : List ℕ) (x : A) → section_at number absent content bytes ≡ Ok (x, rest)
    → Front (SpellsSection number (Content x) (x ≡ absent)) bytes rest
unfolding section_at
section_takes number absent content Content takes bytes rest x e =
    let customs = step {r = customs_at bytes} {next = this_section number absent content} e in
    both (customs_taken bytes customs.value customs.is) (this_takes number absent content Content takes customs.value rest x customs.after)

-- something that may be absent
abbrev pub SpellsPresent : {A : Type 0} → (A → List ℕ → Type 0) → Option A → List ℕ → Type 0
SpellsPresent Content None bytes = ⊥
SpellsPresent Content (Some x) bytes = Content x bytes

pub present_takes : {A : Type 0} (content : List ℕ → Found A) (Content : A → List ℕ → Type 0) → Takes content Content → Takes (present content) (SpellsPresent Content)
present_takes content Content takes bytes rest o e =
    let x = step {r = content bytes} {next = λ x. Ok (Some x.0, x.1)} e in
    let same = same_found x.after in
    subst (λ p. Front (SpellsPresent Content p) bytes rest) same.0 (takes bytes rest x.value.0 (x.is ∙ ap (found x.value.0) same.1))

pub present_again : {A : Type 0} (content : List ℕ → Found A) (Content : A → List ℕ → Type 0) → Again content Content → Again (present content) (SpellsPresent Content)
present_again content Content again bytes rest None h = absurd h.laid
present_again content Content again bytes rest (Some x) h = go (λ y. Ok (Some y.0, y.1)) (x, rest) (again bytes rest x h) refl

-- ---- sections that are spelled

-- the place of a section in the order of sections: that of the data count is before those of code and data
abbrev pub order : ℕ → ℕ
order number = if number == 12 then 19 else 2 * number

-- bytes that begin with no custom section, and with no section up to this place
abbrev pub GoesOn : ℕ → List ℕ → Type 0
GoesOn place [] = Unit {0}
GoesOn place (first ∷ rest) = place < order first

-- the same behind custom sections
pub record Ahead (place : ℕ) (bytes : List ℕ) : Type 0 where
  pub next : List ℕ
  pub is : customs_at bytes ≡ Ok next
  pub goes_on : GoesOn place next

earlier_on : (place later : ℕ) (next : List ℕ) → place < later → GoesOn later next → GoesOn place next
earlier_on place later [] before on = tt
earlier_on place later (first ∷ next) before on = omega (arith, before, on)

earlier : {place later : ℕ} {bytes : List ℕ} → place < later → Ahead later bytes → Ahead place bytes
earlier {place = place} {later = later} before a = record { next = a.next; is = a.is; goes_on = earlier_on place later a.next before a.goes_on }

-- there are no custom sections at the front of such bytes
no_customs : (place : ℕ) (next : List ℕ) → GoesOn place next → customs_at next ≡ Ok next
unfolding customs_at customs_from
no_customs place [] on = refl
no_customs place (zero ∷ next) on = absurd (omega (arith, on))
no_customs place (suc first ∷ next) on = refl

-- what stands for a section, and what is read of it
pub record Read {A : Type 0} (read : Found A) (x : A) (rest : List ℕ) : Type 0 where
  pub after : List ℕ
  pub is : read ≡ Ok (x, after)
  pub same : customs_at after ≡ customs_at rest

-- a section that is absent is not read
passed : {A : Type 0} (number : ℕ) (absent : A) (content : List ℕ → Found A) (next : List ℕ) → GoesOn (order number) next → this_section number absent content next ≡ Ok (absent, next)
passed number absent content [] on = refl
passed number absent content (first ∷ next) on =
    left (first == number) (sized_at content next) (found absent (first ∷ next)) (ne_eqb first number (λ same. omega (arith, let e : order first ≡ order number = ap order same in e, on)))

-- a section that is not custom stands
stands : (number : ℕ) (behind : List ℕ) → 0 < number → customs_at (number ∷ behind) ≡ Ok (number ∷ behind)
unfolding customs_at customs_from
stands zero behind some = absurd (omega (arith, some))
stands (suc number) behind some = refl

pub section_again : {A : Type 0} (number : ℕ) (absent : A) (content : List ℕ → Found A) (Content : A → List ℕ → Type 0) → Again content Content → 0 < number → (bytes rest : List ℕ) (x : A)
    → Front (SpellsSection number (Content x) (x ≡ absent)) bytes rest → Ahead (order number) rest → Read (section_at number absent content bytes) x rest
unfolding section_at
section_again {A = A} number absent content Content again some bytes rest x h ahead =
    let two = split h in
    let skipped : customs_at bytes ≡ customs_at two.middle = all_customs_skip bytes two.middle two.first in
    this two.middle skipped two.second two.second.laid
  where
    this : (middle : List ℕ) → customs_at bytes ≡ customs_at middle → (s : Front (SpellsThis number (Content x) (x ≡ absent)) middle rest) → SpellsThis number (Content x) (x ≡ absent) s.front
        → Read (customs_at bytes >>= this_section number absent content) x rest
    this middle skipped s (inl (none, is_absent)) =
        let here : middle ≡ rest = s.parts ∙ ap (λ (f : List ℕ). f ++ rest) none in
        let customs : customs_at bytes ≡ Ok ahead.next = skipped ∙ (ap customs_at here ∙ ahead.is) in
        record {
          after = ahead.next;
          is = go (this_section number absent content) ahead.next customs (passed number absent content ahead.next ahead.goes_on ∙ ap (λ (y : A). found y ahead.next) (sym is_absent));
          same = no_customs (order number) ahead.next ahead.goes_on ∙ sym ahead.is;
        }
    this middle skipped s (inr laid) =
        let one : Front (Just (number ∷ []) ⨾ SpellsSized (Content x)) middle rest = record { front = s.front; parts = s.parts; laid = laid } in
        let parts = split one in
        let begins : middle ≡ number ∷ parts.middle = just_is (number ∷ []) middle parts.middle parts.first in
        record {
          after = rest;
          is = go (this_section number absent content) (number ∷ parts.middle) (skipped ∙ (ap customs_at begins ∙ stands number parts.middle some))
              (taken (number == number) (sized_at content parts.middle) (found absent (number ∷ parts.middle)) (eq-eqb number number refl) ∙ sized_again content Content again parts.middle rest x parts.second);
          same = refl;
        }

-- what is ahead in front of a section
pub section_ahead : {Content : List ℕ → Type 0} {Absent : Type 0} (number place : ℕ) (bytes rest : List ℕ) → 0 < number → place < order number → Front (SpellsSection number Content Absent) bytes rest → Ahead (order number) rest
    → Ahead place bytes
section_ahead {Content = Content} {Absent = Absent} number place bytes rest some before h ahead =
    let two = split h in
    this two.middle (all_customs_skip bytes two.middle two.first) two.second two.second.laid
  where
    this : (middle : List ℕ) → customs_at bytes ≡ customs_at middle → (s : Front (SpellsThis number Content Absent) middle rest) → SpellsThis number Content Absent s.front → Ahead place bytes
    this middle skipped s (inl (none, is_absent)) =
        let here : middle ≡ rest = s.parts ∙ ap (λ (f : List ℕ). f ++ rest) none in
        record { next = ahead.next; is = skipped ∙ (ap customs_at here ∙ ahead.is); goes_on = earlier_on place (order number) ahead.next before ahead.goes_on }
    this middle skipped s (inr laid) =
        let parts = split {First = Just (number ∷ [])} {Second = SpellsSized Content} (record { front = s.front; parts = s.parts; laid = laid }) in
        record { next = number ∷ parts.middle; is = skipped ∙ (ap customs_at (just_is (number ∷ []) middle parts.middle parts.first) ∙ stands number parts.middle some); goes_on = before }

-- a section goes on where custom sections are read over
pub moved : {A : Type 0} (number : ℕ) (absent : A) (content : List ℕ → Found A) (bytes other : List ℕ) → customs_at bytes ≡ customs_at other → section_at number absent content bytes ≡ section_at number absent content other
unfolding section_at
moved number absent content bytes other same = ap (λ (r : Result (List ℕ) Stop). r >>= this_section number absent content) same

-- ---- sections whose rows are counted elsewhere

-- what such a section gives
abbrev pub counted_rows : {A : Type 0} → ℕ → Option ℕ → ℕ → (List ℕ → Found A) → List ℕ → Found (List A)
counted_rows number wanted most item bytes = section_at number None (present (counted_at wanted most item)) bytes >>= wanted_rows (wanted_by wanted)

abbrev SpellsCounted : {A : Type 0} → Option ℕ → ℕ → (A → List ℕ → Type 0) → List A → List ℕ → Type 0
SpellsCounted wanted most Item xs bytes = IfSome wanted (λ n. n ≡ length xs) × SpellsVectorUpTo most Item xs bytes

no_section_never : {A : Type 0} (bytes : List ℕ) (x : A) → no_section bytes ≡ Ok x → ⊥
no_section_never [] x e = cc
no_section_never (first ∷ rest) x e = cc

never_after : {A : Type 0} (read : Result (List ℕ) Stop) (x : A) → (read >>= no_section) ≡ Ok x → ⊥
never_after (Ok bytes) x e = no_section_never bytes x e
never_after (Err stop) x e = cc

none_wanted : (wanted : Option ℕ) → wanted_by wanted ≡ 0 → IfSome wanted (λ n. n ≡ 0)
none_wanted None none = tt
none_wanted (Some n) none = none

wanted_none : (wanted : Option ℕ) (n : ℕ) → IfSome wanted (λ m. m ≡ n) → n ≡ 0 → wanted_by wanted ≡ 0
wanted_none None n is none = refl
wanted_none (Some m) n is none = is ∙ none

-- a section with rows
some_rows : {A : Type 0} (number : ℕ) (wanted : Option ℕ) (most : ℕ) (Item : A → List ℕ → Type 0) (bytes rest : List ℕ) (xs : List A)
    → Front (SpellsSection number (SpellsCounted wanted most Item xs) (Some xs ≡ None)) bytes rest → IfSome wanted (λ n. n ≡ length xs) × Front (SpellsRows number most Item xs) bytes rest
some_rows number wanted most Item bytes rest xs h =
    let two = split h in
    this two.middle two.first two.second two.second.laid
  where
    this : (middle : List ℕ) → Front SpellsCustoms bytes middle → (s : Front (SpellsThis number (SpellsCounted wanted most Item xs) (Some xs ≡ None)) middle rest) → SpellsThis number (SpellsCounted wanted most Item xs) (Some xs ≡ None) s.front
        → IfSome wanted (λ n. n ≡ length xs) × Front (SpellsRows number most Item xs) bytes rest
    this middle customs s (inl (none, absent)) = absurd cc
    this middle customs s (inr laid) =
        let parts = split {First = Just (number ∷ [])} {Second = SpellsSized (SpellsCounted wanted most Item xs)} (record { front = s.front; parts = s.parts; laid = laid }) in
        let content : Front (SpellsSized (SpellsVectorUpTo most Item xs)) parts.middle rest = seen (λ front l. (l.0, l.1.1, l.2)) parts.second in
        let h : Front (SpellsThis number (SpellsVectorUpTo most Item xs) (xs ≡ [])) middle rest = seen (λ front l. inr l) (both parts.first content) in
        (parts.second.laid.1.0, both customs h)

-- a section that is absent
no_rows : {A : Type 0} (number most : ℕ) (Item : A → List ℕ → Type 0) (bytes rest : List ℕ) → Front (SpellsSection number (λ b. ⊥) (let o : Option (List A) = None in o ≡ None)) bytes rest → Front (SpellsRows number most Item []) bytes rest
no_rows {A = A} number most Item bytes rest h =
    let two = split h in
    this two.middle two.first two.second two.second.laid
  where
    this : (middle : List ℕ) → Front SpellsCustoms bytes middle → (s : Front (SpellsThis number (λ b. ⊥) (let o : Option (List A) = None in o ≡ None)) middle rest) → SpellsThis number (λ b. ⊥) (let o : Option (List A) = None in o ≡ None) s.front
        → Front (SpellsRows number most Item []) bytes rest
    this middle customs s (inl (none, absent)) =
        let h : Front (SpellsThis number (SpellsVectorUpTo most Item []) (let xs : List A = [] in xs ≡ [])) middle rest = record { front = s.front; parts = s.parts; laid = inl (none, refl) } in
        both customs h
    this middle customs s (inr laid) =
        let parts = split {First = Just (number ∷ [])} {Second = SpellsSized (λ b. ⊥)} (record { front = s.front; parts = s.parts; laid = laid }) in
        absurd parts.second.laid.1

counted_section : {A : Type 0} (number : ℕ) (wanted : Option ℕ) (most : ℕ) (Item : A → List ℕ → Type 0) (bytes middle rest : List ℕ) (o : Option (List A)) (xs : List A)
    → Front (SpellsSection number (SpellsPresent (SpellsCounted wanted most Item) o) (o ≡ None)) bytes middle → wanted_rows (wanted_by wanted) (o, middle) ≡ Ok (xs, rest)
    → IfSome wanted (λ n. n ≡ length xs) × Front (SpellsRows number most Item xs) bytes rest
counted_section {A = A} number wanted most Item bytes middle rest (Some ys) xs h e =
    let same = same_found e in
    let rows = some_rows number wanted most Item bytes middle ys h in
    subst (λ (zs : List A). IfSome wanted (λ n. n ≡ length zs) × Front (SpellsRows number most Item zs) bytes rest) same.0
    (rows.0, subst (λ (r : List ℕ). Front (SpellsRows number most Item ys) bytes r) same.1 rows.1)
counted_section {A = A} number wanted most Item bytes middle rest None xs h e =
    elim (chosen (wanted_by wanted == 0) (found [] middle) (customs_at middle >>= no_section) (Ok (xs, rest)) e) [
      | inl none ↦
          let same = same_found none.1 in
          subst (λ (zs : List A). IfSome wanted (λ n. n ≡ length zs) × Front (SpellsRows number most Item zs) bytes rest) same.0
          (none_wanted wanted (eqb-true (wanted_by wanted) 0 none.0), subst (λ (r : List ℕ). Front (SpellsRows number most Item []) bytes r) same.1 (no_rows number most Item bytes middle h))
      | inr some ↦ absurd (never_after (customs_at middle) (xs, rest) some.1)
    ]

pub counted_rows_take : {A : Type 0} (number : ℕ) (wanted : Option ℕ) (most : ℕ) (item : List ℕ → Found A) (Item : A → List ℕ → Type 0) → Takes item Item → (bytes rest : List ℕ) (xs : List A)
    → counted_rows number wanted most item bytes ≡ Ok (xs, rest) → IfSome wanted (λ n. n ≡ length xs) × Front (SpellsRows number most Item xs) bytes rest
counted_rows_take number wanted most item Item takes bytes rest xs e =
    let o = step {r = section_at number None (present (counted_at wanted most item)) bytes} {next = wanted_rows (wanted_by wanted)} e in
    let h = section_takes number None (present (counted_at wanted most item)) (SpellsPresent (SpellsCounted wanted most Item))
    (present_takes (counted_at wanted most item) (SpellsCounted wanted most Item) (λ bs r ys is. let c = counted_takes wanted most item Item takes bs r ys is in seen (λ front laid. (c.0, laid)) c.1))
    bytes o.value.1 o.value.0 o.is in
    counted_section number wanted most Item bytes o.value.1 rest o.value.0 xs h o.after

counted_present : {A : Type 0} (wanted : Option ℕ) (most : ℕ) (item : List ℕ → Found A) (Item : A → List ℕ → Type 0) → Again item Item → Again (present (counted_at wanted most item)) (SpellsPresent (SpellsCounted wanted most Item))
counted_present wanted most item Item again =
    present_again (counted_at wanted most item) (SpellsCounted wanted most Item) (λ bs r ys h. counted_again wanted most item Item again bs r ys h.laid.0 (seen (λ front laid. laid.1) h))

pub counted_rows_again : {A : Type 0} (number : ℕ) (wanted : Option ℕ) (most : ℕ) (item : List ℕ → Found A) (Item : A → List ℕ → Type 0) → Again item Item → 0 < number → (bytes rest : List ℕ) (xs : List A)
    → IfSome wanted (λ n. n ≡ length xs) → Front (SpellsRows number most Item xs) bytes rest → Ahead (order number) rest → Read (counted_rows number wanted most item bytes) xs rest
counted_rows_again {A = A} number wanted most item Item again some bytes rest xs counted h ahead =
    let two = split h in
    this two.middle two.first two.second two.second.laid
  where
    this : (middle : List ℕ) → Front SpellsCustoms bytes middle → (s : Front (SpellsThis number (SpellsVectorUpTo most Item xs) (xs ≡ [])) middle rest) → SpellsThis number (SpellsVectorUpTo most Item xs) (xs ≡ []) s.front
        → Read (counted_rows number wanted most item bytes) xs rest
    this middle customs s (inl (none, empty)) =
        let absent : Front (SpellsThis number (λ b. ⊥) (let o : Option (List A) = None in o ≡ None)) middle rest = record { front = s.front; parts = s.parts; laid = inl (none, refl) } in
        let read = section_again number None (present (counted_at wanted most item)) (SpellsPresent (SpellsCounted wanted most Item)) (counted_present wanted most item Item again) some bytes rest None (both customs absent) ahead in
        record {
          after = read.after;
          is = go (wanted_rows (wanted_by wanted)) (None, read.after) read.is
              (taken (wanted_by wanted == 0) (found [] read.after) (customs_at read.after >>= no_section) (eq-eqb (wanted_by wanted) 0 (wanted_none wanted (length xs) counted (ap length empty)))
              ∙ ap (λ (ys : List A). found ys read.after) (sym empty));
          same = read.same;
        }
    this middle customs s (inr laid) =
        let parts = split {First = Just (number ∷ [])} {Second = SpellsSized (SpellsVectorUpTo most Item xs)} (record { front = s.front; parts = s.parts; laid = laid }) in
        let content : Front (SpellsSized (SpellsCounted wanted most Item xs)) parts.middle rest = seen (λ front l. (l.0, (counted, l.1), l.2)) parts.second in
        let present_one : Front (SpellsThis number (SpellsCounted wanted most Item xs) (Some xs ≡ None)) middle rest = seen (λ front l. inr l) (both parts.first content) in
        let read = section_again number None (present (counted_at wanted most item)) (SpellsPresent (SpellsCounted wanted most Item)) (counted_present wanted most item Item again) some bytes rest (Some xs) (both customs present_one) ahead in
        record { after = read.after; is = go (wanted_rows (wanted_by wanted)) (Some xs, read.after) read.is refl; same = read.same }

-- the same where custom sections are read over
pub counted_moved : {A : Type 0} (number : ℕ) (wanted : Option ℕ) (most : ℕ) (item : List ℕ → Found A) (bytes other : List ℕ) → customs_at bytes ≡ customs_at other → counted_rows number wanted most item bytes ≡ counted_rows number wanted most item other
counted_moved {A = A} number wanted most item bytes other same =
    ap (λ (r : Found (Option (List A))). r >>= wanted_rows (wanted_by wanted)) (moved number None (present (counted_at wanted most item)) bytes other same)

-- ---- sections in a row, up to the end of the bytes

-- what is read of a section that stands in front of others, from bytes that differ in custom sections alone
pub record Next {A : Type 0} (read : Found A) (x : A) (Tail : List ℕ → Type 0) : Type 0 where
  pub after : List ℕ
  pub is : read ≡ Ok (x, after)
  pub middle : List ℕ
  pub same : customs_at after ≡ customs_at middle
  pub tail : Front Tail middle []

pub next_section : {A : Type 0} (number : ℕ) (absent : A) (content : List ℕ → Found A) (Content : A → List ℕ → Type 0) (Tail : List ℕ → Type 0) → Again content Content → 0 < number → (other bytes : List ℕ) (x : A)
    → customs_at other ≡ customs_at bytes → Front (SpellsSection number (Content x) (x ≡ absent) ⨾ Tail) bytes [] → ((b : List ℕ) → Front Tail b [] → Ahead (order number) b)
    → Next (section_at number absent content other) x Tail
next_section number absent content Content Tail again some other bytes x same h ahead =
    let two = split {First = SpellsSection number (Content x) (x ≡ absent)} {Second = Tail} h in
    let read = section_again number absent content Content again some bytes two.middle x two.first (ahead two.middle two.second) in
    record { after = read.after; is = moved number absent content other bytes same ∙ read.is; middle = two.middle; same = read.same; tail = two.second }

pub next_counted : {A : Type 0} (number : ℕ) (wanted : Option ℕ) (most : ℕ) (item : List ℕ → Found A) (Item : A → List ℕ → Type 0) (Tail : List ℕ → Type 0) → Again item Item → 0 < number → (other bytes : List ℕ) (xs : List A)
    → IfSome wanted (λ n. n ≡ length xs) → customs_at other ≡ customs_at bytes → Front (SpellsRows number most Item xs ⨾ Tail) bytes [] → ((b : List ℕ) → Front Tail b [] → Ahead (order number) b)
    → Next (counted_rows number wanted most item other) xs Tail
next_counted number wanted most item Item Tail again some other bytes xs counted same h ahead =
    let two = split {First = SpellsRows number most Item xs} {Second = Tail} h in
    let read = counted_rows_again number wanted most item Item again some bytes two.middle xs counted two.first (ahead two.middle two.second) in
    record { after = read.after; is = counted_moved number wanted most item other bytes same ∙ read.is; middle = two.middle; same = read.same; tail = two.second }

-- what is ahead of sections in a row
pub ahead_of : (Content : List ℕ → Type 0) (Absent : Type 0) (Tail : List ℕ → Type 0) (number place : ℕ) → 0 < number → place < order number → ((b : List ℕ) → Front Tail b [] → Ahead (order number) b)
    → (bytes : List ℕ) → Front (SpellsSection number Content Absent ⨾ Tail) bytes [] → Ahead place bytes
ahead_of Content Absent Tail number place some before ahead bytes h =
    let two = split {First = SpellsSection number Content Absent} {Second = Tail} h in
    section_ahead number place bytes two.middle some before two.first (ahead two.middle two.second)

pub no_more : (bytes : List ℕ) → Front SpellsCustoms bytes [] → customs_at bytes ≡ Ok []
unfolding customs_at customs_from
no_more bytes h = all_customs_skip bytes [] h

pub ahead_end : (place : ℕ) (bytes : List ℕ) → Front SpellsCustoms bytes [] → Ahead place bytes
ahead_end place bytes h = record { next = []; is = no_more bytes h; goes_on = tt }
