-- Lists and maps inside one another, as the stack has them.
use Rattle.std.proofs.Common.{◌≡◌, ℕ, zero, suc, ◌+◌, ◌-◌, ◌<◌, ◌≤◌, List, [], ◌∷◌, ◌++◌, length, Result, Ok, Err, Bool, true, false, eqb, refl, sym, ap, ◌∙◌, arith, length-append}
use Rattle.std.proofs.lemmas.Bool.{eqb-true, both_ways}
use Rattle.dag_cbor.specs.declared.value.Value.{Value}
use Rattle.dag_cbor.specs.declared.fault.Flaw.{Flaw}
use Rattle.dag_cbor.specs.declared.fault.CborKind.TheVariants as kinds
use Rattle.fil_base.specs.declared.failure.Failure.{Failure}
use Rattle.fil_base.specs.declared.failure.Failure.TheVariants as failures
use Rattle.fil_base.specs.Failure.{IfFault}
use Rattle.dag_cbor.specs.declared.partial.Partial.{Partial}
use Rattle.dag_cbor.specs.declared.partial.Partial.TheVariants as partials
use Rattle.dag_cbor.specs.declared.frame.Frame.{Frame}
use Rattle.dag_cbor.specs.declared.frame.Frame.TheVariants as frames
use Rattle.dag_cbor.specs.declared.head.Head.{Head}
use Rattle.dag_cbor.specs.declared.token.Token.{Token}
use Rattle.dag_cbor.specs.declared.token.Token.TheVariants as tokens
use Rattle.dag_cbor.specs.Reading.{◌>>=◌, flaw, within, head_at, key_at, token_after, token_at, listed, mapped, opened_at, item_at}
use Rattle.dag_cbor.specs.Nesting.{wanted_of, whole_of, gives, with_key, begun, IsNewList, IsNewMap, IsPut}

-- what reading gives
abbrev pub Read : Type 0
Read = Result (Value × List ℕ) Flaw

-- the item that was read goes into the list or the map, which is read on
abbrev pub put_into : ℕ → Frame → Value × List ℕ → Read
put_into depth (frames.List done wanted) x = listed (item_at depth) (done.items ++ x.0 ∷ []) wanted x.1
put_into depth (frames.Map done wanted key) x = mapped depth (item_at depth) (done.items ++ (key, x.0) ∷ []) wanted x.1

-- reading goes on in these, outermost first, behind an item of the innermost; the items of the outermost have at
-- most this depth
unfoldable pub resumed : ℕ → List Frame → Read → Read
resumed depth [] read = read
resumed depth (frame ∷ frames) read = resumed (depth - 1) frames read >>= put_into depth frame

-- reading stands before the next item or pair of the innermost, inside these, and gives this in the end
pub record InNested (depth : ℕ) (around : List Frame) (inner : Partial) (rest : List ℕ) (read : Read) : Type 0 where
  pub shallow : length around ≤ depth
  pub goes_on : resumed depth around (gives (depth - length around) inner rest) ≡ read

resumed-push : (depth : ℕ) (around : List Frame) (frame : Frame) (read : Read) → resumed depth (around ++ frame ∷ []) read ≡ resumed depth around (read >>= put_into (depth - length around) frame)
unfolding resumed
resumed-push depth [] frame read = let same : depth ≡ depth - 0 = omega arith in ap (λ (d : ℕ). read >>= put_into d frame) same
resumed-push depth (f ∷ around) frame read =
    let same : depth - 1 - length around ≡ depth - suc (length around) = omega arith in
    ap (λ (r : Read). r >>= put_into depth f) (resumed-push (depth - 1) around frame read ∙ ap (λ (d : ℕ). resumed (depth - 1) around (read >>= put_into d frame)) same)

resumed-err : (depth : ℕ) (around : List Frame) (at : Flaw) → resumed depth around (Err at) ≡ Err at
unfolding resumed
resumed-err depth [] at = refl
resumed-err depth (f ∷ around) at = ap (λ (r : Read). r >>= put_into depth f) (resumed-err (depth - 1) around at)

-- before the first item of what is in nothing else
pub starts : (depth : ℕ) (around : List Frame) (inner : Partial) (bytes : List ℕ) → around ≡ [] → InNested depth around inner bytes (gives depth inner bytes)
unfolding resumed
starts depth [] inner bytes none = let same : depth - 0 ≡ depth = omega arith in record { shallow = omega arith; goes_on = ap (λ (d : ℕ). gives d inner bytes) same }
starts depth (frame ∷ around) inner bytes none = absurd cc

-- the test whether something is wanted
pub is_full : (b : Bool) (wanted : ℕ) → b ≡ eqb wanted 0 → b ≡ true → wanted ≡ 0
is_full b wanted e full = eqb-true _ _ (sym e ∙ full)

pub is_wanted : (b : Bool) (wanted : ℕ) → b ≡ eqb wanted 0 → b ≡ false → 0 < wanted
is_wanted b zero e more = absurd (both_ways b more e)
is_wanted b (suc n) e more = omega arith

-- ---- what is full

full_gives : (depth : ℕ) (inner : Partial) (rest : List ℕ) → wanted_of inner ≡ 0 → gives depth inner rest ≡ Ok (whole_of inner, rest)
unfolding listed mapped
full_gives depth (partials.List done wanted) rest full = ap (λ (n : ℕ). listed (item_at depth) done.items n rest) full
full_gives depth (partials.Map done wanted) rest full = ap (λ (n : ℕ). mapped depth (item_at depth) done.items n rest) full

-- the innermost is full, and in nothing else
pub is_read : (depth : ℕ) (around : List Frame) (inner : Partial) (rest : List ℕ) (read : Read) → length around ≡ 0 → wanted_of inner ≡ 0
    → InNested depth around inner rest read → read ≡ Ok (whole_of inner, rest)
unfolding resumed
is_read depth [] inner rest read none full inside = sym inside.goes_on ∙ full_gives (depth - 0) inner rest full
is_read depth (frame ∷ around) inner rest read none full inside = absurd (omega arith)

put_gives : (depth : ℕ) (next : Partial) (frame : Frame) (value : Value) (rest : List ℕ) → IsPut next frame value → put_into depth frame (value, rest) ≡ gives depth next rest
put_gives depth (partials.List done wanted) (frames.List before left) value rest is = rw (is.0, is.1) refl
put_gives depth (partials.Map done wanted) (frames.Map before left key) value rest is = rw (is.0, is.1) refl
put_gives depth (partials.List done wanted) (frames.Map before left key) value rest is = absurd is
put_gives depth (partials.Map done wanted) (frames.List before left) value rest is = absurd is

-- the innermost is full, and goes into what is around it
pub closes : (depth : ℕ) (before around : List Frame) (frame : Frame) (inner next : Partial) (rest : List ℕ) (read : Read) → before ≡ around ++ frame ∷ []
    → wanted_of inner ≡ 0 → IsPut next frame (whole_of inner) → InNested depth before inner rest read → InNested depth around next rest read
closes depth before around frame inner next rest read popped full put inside =
    let d : ℕ = depth - length around in
    let back : resumed depth (around ++ frame ∷ []) (Ok (whole_of inner, rest)) ≡ read =
    ap (λ (fs : List Frame). resumed depth fs (Ok (whole_of inner, rest))) (sym popped) ∙ ap (resumed depth before) (sym (full_gives (depth - length before) inner rest full)) ∙ inside.goes_on in
    record {
      shallow = omega (arith, inside.shallow, ap length popped, length-append around (frame ∷ []));
      goes_on = ap (resumed depth around) (sym (put_gives d next frame (whole_of inner) rest put)) ∙ sym (resumed-push depth around frame (Ok (whole_of inner, rest))) ∙ back;
    }

-- ---- the next item of what is not full

-- after a step that did not fail, or did
bind_is : {A B C : Type 0} (r : Result A Flaw) (f : A → Result B Flaw) (g : B → Result C Flaw) → (r >>= f >>= g) ≡ (r >>= λ x. f x >>= g)
bind_is (Ok x) f g = refl
bind_is (Err at) f g = refl

one_more : (depth : ℕ) (inner : Partial) (rest : List ℕ) → 0 < wanted_of inner → gives depth inner rest ≡ (begun depth inner rest >>= λ f. item_at depth f.1 >>= put_into depth f.0)
unfolding listed mapped
one_more depth (partials.List done zero) rest some = absurd (omega arith)
one_more depth (partials.List done (suc n)) rest some =
    let same : n ≡ suc n - 1 = omega arith in ap (λ (m : ℕ). item_at depth rest >>= λ x. listed (item_at depth) (done.items ++ x.0 ∷ []) m x.1) same
one_more depth (partials.Map done zero) rest some = absurd (omega arith)
one_more depth (partials.Map done (suc n)) rest some =
    let same : n ≡ suc n - 1 = omega arith in
    ap (λ (m : ℕ). key_at depth done.items rest >>= λ k. item_at depth k.1 >>= λ x. mapped depth (item_at depth) (done.items ++ (k.0, x.0) ∷ []) m x.1) same
    ∙ sym (bind_is (key_at depth done.items rest) (with_key (partials.Map done (suc n))) (λ f. item_at depth f.1 >>= put_into depth f.0))

-- an item that has no token
pub no_token : (depth : ℕ) (rest : List ℕ) (at : Flaw) → token_at depth rest ≡ Err at → item_at depth rest ≡ Err at
unfolding item_at
no_token zero rest at e = ap (λ (r : Result (Token × List ℕ) Flaw). r >>= λ t. Err (flaw kinds.Depth (length rest))) e
no_token (suc d) rest at e = ap (λ (r : Result (Token × List ℕ) Flaw). r >>= opened_at d (item_at d)) e

pub no_room : (rest : List ℕ) (h : Result (Head × List ℕ) Flaw) (x : Token × List ℕ) → (h >>= within 0 (length rest) >>= token_after (length rest)) ≡ Ok x → ⊥
no_room rest (Ok h) x e = cc
no_room rest (Err at) x e = cc

-- an item whose token is known
pub reads_token : (depth : ℕ) (rest : List ℕ) (x : Token × List ℕ) → token_at depth rest ≡ Ok x → (0 < depth) × (item_at depth rest ≡ opened_at (depth - 1) (item_at (depth - 1)) x)
unfolding item_at token_at
reads_token zero rest x e = absurd (no_room rest (head_at rest) x e)
reads_token (suc d) rest x e =
    let same : d ≡ suc d - 1 = omega arith in
    (omega arith, ap (λ (r : Result (Token × List ℕ) Flaw). r >>= opened_at d (item_at d)) e ∙ ap (λ (m : ℕ). opened_at m (item_at m) x) same)

-- there is no token, and so no item
pub no_item : (failure : Failure Flaw) (depth : ℕ) (rest : List ℕ) → IfFault failure (λ at. token_at depth rest ≡ Err at) → IfFault failure (λ at. item_at depth rest ≡ Err at)
no_item failures.NoMemory depth rest fault = tt
no_item (failures.Fault at) depth rest fault = no_token depth rest at fault

-- the item is whole
pub whole_item : (depth : ℕ) (rest : List ℕ) (token : Token) (value : Value) (after : List ℕ) → token_at depth rest ≡ Ok (token, after) → token ≡ tokens.Whole value → item_at depth rest ≡ Ok (value, after)
whole_item depth rest token value after read is = (reads_token depth rest (token, after) read).1 ∙ ap (λ (t : Token). opened_at (depth - 1) (item_at (depth - 1)) (t, after)) is

new_list : (depth count : ℕ) (partial : Partial) (after : List ℕ) → IsNewList partial count → listed (item_at depth) [] count after ≡ gives depth partial after
new_list depth count (partials.List done wanted) after is = rw (is.0, is.1) refl
new_list depth count (partials.Map done wanted) after is = absurd is

new_map : (depth count : ℕ) (partial : Partial) (after : List ℕ) → IsNewMap partial count → mapped depth (item_at depth) [] count after ≡ gives depth partial after
new_map depth count (partials.Map done wanted) after is = rw (is.0, is.1) refl
new_map depth count (partials.List done wanted) after is = absurd is

-- the item is a list
pub list_item : (depth : ℕ) (rest : List ℕ) (token : Token) (count : ℕ) (after : List ℕ) (partial : Partial) → token_at depth rest ≡ Ok (token, after) → token ≡ tokens.List count → IsNewList partial count
    → item_at depth rest ≡ gives (depth - 1) partial after
list_item depth rest token count after partial read is new =
    (reads_token depth rest (token, after) read).1 ∙ ap (λ (t : Token). opened_at (depth - 1) (item_at (depth - 1)) (t, after)) is ∙ new_list (depth - 1) count partial after new

-- the item is a map
pub map_item : (depth : ℕ) (rest : List ℕ) (token : Token) (count : ℕ) (after : List ℕ) (partial : Partial) → token_at depth rest ≡ Ok (token, after) → token ≡ tokens.Map count → IsNewMap partial count
    → item_at depth rest ≡ gives (depth - 1) partial after
map_item depth rest token count after partial read is new =
    (reads_token depth rest (token, after) read).1 ∙ ap (λ (t : Token). opened_at (depth - 1) (item_at (depth - 1)) (t, after)) is ∙ new_map (depth - 1) count partial after new

-- ---- steps of the loop

-- the next pair has no key
pub no_key : (failure : Failure Flaw) (depth room : ℕ) (around : List Frame) (inner : Partial) (rest : List ℕ) (read : Read) → 0 < wanted_of inner → room ≡ depth - length around
    → IfFault failure (λ at. begun room inner rest ≡ Err at) → InNested depth around inner rest read → IfFault failure (λ at. read ≡ Err at)
no_key failures.NoMemory depth room around inner rest read some here fault inside = tt
no_key (failures.Fault at) depth room around inner rest read some here fault inside =
    let d : ℕ = depth - length around in
    let fails : begun d inner rest ≡ Err at = ap (λ (r : ℕ). begun r inner rest) (sym here) ∙ fault in
    let next : gives d inner rest ≡ Err at = one_more d inner rest some ∙ ap (λ (r : Result (Frame × List ℕ) Flaw). r >>= λ f. item_at d f.1 >>= put_into d f.0) fails in
    sym inside.goes_on ∙ ap (resumed depth around) next ∙ resumed-err depth around at

-- what the next item gives
item_gives : (depth room : ℕ) (around : List Frame) (inner : Partial) (frame : Frame) (rest behind_key : List ℕ) (read : Read) → 0 < wanted_of inner → room ≡ depth - length around
    → begun room inner rest ≡ Ok (frame, behind_key) → InNested depth around inner rest read → resumed depth around (item_at (depth - length around) behind_key >>= put_into (depth - length around) frame) ≡ read
item_gives depth room around inner frame rest behind_key read some here begins inside =
    let d : ℕ = depth - length around in
    let begins_at : begun d inner rest ≡ Ok (frame, behind_key) = ap (λ (r : ℕ). begun r inner rest) (sym here) ∙ begins in
    let next : gives d inner rest ≡ (item_at d behind_key >>= put_into d frame) = one_more d inner rest some ∙ ap (λ (r : Result (Frame × List ℕ) Flaw). r >>= λ f. item_at d f.1 >>= put_into d f.0) begins_at in
    ap (resumed depth around) (sym next) ∙ inside.goes_on

-- the next item has no token
pub fails : (failure : Failure Flaw) (depth room : ℕ) (around : List Frame) (inner : Partial) (frame : Frame) (rest behind_key : List ℕ) (read : Read) → 0 < wanted_of inner → room ≡ depth - length around
    → begun room inner rest ≡ Ok (frame, behind_key) → IfFault failure (λ at. token_at room behind_key ≡ Err at) → InNested depth around inner rest read → IfFault failure (λ at. read ≡ Err at)
fails failures.NoMemory depth room around inner frame rest behind_key read some here begins fault inside = tt
fails (failures.Fault at) depth room around inner frame rest behind_key read some here begins fault inside =
    let d : ℕ = depth - length around in
    let none : item_at d behind_key ≡ Err at = no_token d behind_key at (ap (λ (r : ℕ). token_at r behind_key) (sym here) ∙ fault) in
    sym (item_gives depth room around inner frame rest behind_key read some here begins inside) ∙ ap (λ (r : Read). resumed depth around (r >>= put_into d frame)) none ∙ resumed-err depth around at

-- the next item is whole, and goes into the innermost
pub puts : (depth room : ℕ) (around : List Frame) (inner : Partial) (frame : Frame) (token : Token) (value : Value) (next : Partial) (rest behind_key after : List ℕ) (read : Read) → 0 < wanted_of inner
    → room ≡ depth - length around → begun room inner rest ≡ Ok (frame, behind_key) → token_at room behind_key ≡ Ok (token, after) → token ≡ tokens.Whole value → IsPut next frame value
    → InNested depth around inner rest read → InNested depth around next after read
puts depth room around inner frame token value next rest behind_key after read some here begins token-read is put inside =
    let d : ℕ = depth - length around in
    let item : item_at d behind_key ≡ Ok (value, after) = whole_item d behind_key token value after (ap (λ (r : ℕ). token_at r behind_key) (sym here) ∙ token-read) is in
    record {
      shallow = inside.shallow;
      goes_on = ap (resumed depth around) (sym (put_gives d next frame value after put)) ∙ ap (λ (r : Read). resumed depth around (r >>= put_into d frame)) (sym item) ∙ item_gives depth room around inner frame rest behind_key read some here begins inside;
    }

opens : (depth room : ℕ) (around new_around : List Frame) (inner : Partial) (frame : Frame) (next : Partial) (rest behind_key after : List ℕ) (read : Read) → 0 < wanted_of inner
    → room ≡ depth - length around → 0 < room → begun room inner rest ≡ Ok (frame, behind_key) → new_around ≡ around ++ frame ∷ []
    → item_at room behind_key ≡ gives (room - 1) next after → InNested depth around inner rest read → InNested depth new_around next after read
opens depth room around new_around inner frame next rest behind_key after read some here deep begins pushed item inside =
    let d : ℕ = depth - length around in
    let len : length new_around ≡ length around + 1 = omega (arith, ap length pushed, length-append around (frame ∷ [])) in
    let deeper : depth - length new_around ≡ room - 1 = omega arith in
    let item_here : item_at d behind_key ≡ gives (depth - length new_around) next after = ap (λ (r : ℕ). item_at r behind_key) (sym here) ∙ item ∙ ap (λ (r : ℕ). gives r next after) (sym deeper) in
    record {
      shallow = omega arith;
      goes_on = ap (λ (fs : List Frame). resumed depth fs (gives (depth - length new_around) next after)) pushed ∙ resumed-push depth around frame (gives (depth - length new_around) next after)
          ∙ ap (λ (r : Read). resumed depth around (r >>= put_into d frame)) (sym item_here) ∙ item_gives depth room around inner frame rest behind_key read some here begins inside;
    }

-- the next item is a list, which is opened inside what was innermost
pub opens_list : (depth room : ℕ) (around new_around : List Frame) (inner : Partial) (frame : Frame) (token : Token) (count : ℕ) (next : Partial) (rest behind_key after : List ℕ) (read : Read) → 0 < wanted_of inner
    → room ≡ depth - length around → begun room inner rest ≡ Ok (frame, behind_key) → token_at room behind_key ≡ Ok (token, after) → token ≡ tokens.List count
    → new_around ≡ around ++ frame ∷ [] → IsNewList next count → InNested depth around inner rest read → InNested depth new_around next after read
opens_list depth room around new_around inner frame token count next rest behind_key after read some here begins token-read is pushed new inside =
    opens depth room around new_around inner frame next rest behind_key after read some here (reads_token room behind_key (token, after) token-read).0 begins pushed (list_item room behind_key token count after next token-read is new) inside

-- the next item is a map, which is opened inside what was innermost
pub opens_map : (depth room : ℕ) (around new_around : List Frame) (inner : Partial) (frame : Frame) (token : Token) (count : ℕ) (next : Partial) (rest behind_key after : List ℕ) (read : Read) → 0 < wanted_of inner
    → room ≡ depth - length around → begun room inner rest ≡ Ok (frame, behind_key) → token_at room behind_key ≡ Ok (token, after) → token ≡ tokens.Map count
    → new_around ≡ around ++ frame ∷ [] → IsNewMap next count → InNested depth around inner rest read → InNested depth new_around next after read
opens_map depth room around new_around inner frame token count next rest behind_key after read some here begins token-read is pushed new inside =
    opens depth room around new_around inner frame next rest behind_key after read some here (reads_token room behind_key (token, after) token-read).0 begins pushed (map_item room behind_key token count after next token-read is new) inside
