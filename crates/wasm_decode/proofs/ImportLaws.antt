-- Imports: what is read is spelled so, and what is spelled so is read.
use Rattle.std.proofs.Common.{◌≡◌, ℕ, zero, suc, ◌+◌, Bool, true, false, not, ◌&&◌, nat_lt, ◌==◌, if◌then◌else◌, List, [], ◌∷◌, Result, Ok, Err, Option, Some, None, inl, inr, refl, sym, ap, subst, ◌∙◌, arith}
use Rattle.std.specs.Bool.{IsTrue}
use Rattle.std.specs.List.{slice_get}
use Rattle.std.specs.Str.{IsAscii, is_utf8}
use Rattle.std.proofs.lemmas.Bool.{and_parts, eqb-true, false≢true, ltb-true, not-false, not_from_true}
use Rattle.std.proofs.lemmas.Str.{IsUtf8-from_ascii, is_utf8-from_IsUtf8}
use Rattle.wasm_types.specs.declared.func_type.FuncType.{FuncType}
use Rattle.wasm_types.specs.declared.raw_module.Import.{Import}
use Rattle.wasm_types.specs.Syscalls.{IsSyscall, Syscall, number_of, syscalls}
use Rattle.wasm_types.proofs.SameTypes.{type_decides}
use Rattle.wasm_types.proofs.Calls as calls
use Rattle.wasm_decode.specs.declared.fault.Stop.{Stop}
use Rattle.wasm_decode.specs.declared.fault.WasmKind.TheVariants as kinds
use Rattle.wasm_decode.specs.Layout.{◌⨾◌, Just}
use Rattle.wasm_decode.specs.Modules.{SpellsImport}
use Rattle.wasm_decode.specs.ReadingSections.{ImportFront, blamed, call_behind, has_type_of, import_at, import_front_at, kind_behind, name_behind, type_behind}
use Rattle.wasm_decode.specs.Stops.{Found, refused, unless}
use Rattle.wasm_decode.specs.Values.{SpellsBytes, SpellsName, SpellsU32}
use Rattle.wasm_decode.proofs.Fronts.{Again, Front, Takes, both, chosen, found, go, just_is, left, passes, same_found, seen, split, step}
use Rattle.wasm_decode.proofs.NumberLaws.{u32_again, u32_takes}
use Rattle.wasm_decode.proofs.VectorLaws.{byte_again, byte_takes, bytes_again, bytes_takes, one_byte}

-- ---- the names of system calls

abbrev is_number : ℕ → Option ℕ → Bool
is_number n None = false
is_number n (Some m) = m == n

-- whether all bytes are ASCII
abbrev are_low : List ℕ → Bool
are_low [] = true
are_low (b ∷ bytes) = nat_lt b 128 && are_low bytes

low_at : (bytes : List ℕ) → are_low bytes ≡ true → IsAscii bytes
low_at [] low i = omega arith
low_at (b ∷ bytes) low zero = ltb-true b 128 (and_parts (nat_lt b 128) (are_low bytes) low).0
low_at (b ∷ bytes) low (suc i) = low_at bytes (and_parts (nat_lt b 128) (are_low bytes) low).1 i

text_of : (bytes : List ℕ) → are_low bytes ≡ true → IsTrue (is_utf8 bytes)
text_of bytes low = is_utf8-from_IsUtf8 bytes (IsUtf8-from_ascii bytes (low_at bytes low))

-- whether the names of a call are texts by which its number is found
abbrev is_sound : ℕ → Syscall → Bool
is_sound n call = is_number n (number_of call.module_name call.name) && (are_low call.module_name && are_low call.name)

abbrev all_sound : ℕ → List Syscall → Bool
all_sound n [] = true
all_sound n (call ∷ others) = is_sound n call && all_sound (suc n) others

syscalls_sound : all_sound 0 syscalls ≡ true
unfolding number_of
syscalls_sound = refl

number_is : (n : ℕ) (o : Option ℕ) → is_number n o ≡ true → o ≡ Some n
number_is n None is = absurd (false≢true is)
number_is n (Some m) is = ap (λ (k : ℕ). Some k) (eqb-true m n is)

no_call : (call : Syscall) → None ≡ Some call → ⊥
no_call call e = cc

same_call : (a b : Syscall) → Some a ≡ Some b → a ≡ b
same_call a b e = cc

sound_at : (n k : ℕ) (others : List Syscall) (call : Syscall) → all_sound n others ≡ true → slice_get others k ≡ Some call → is_sound (n + k) call ≡ true
sound_at n k [] call sound here = absurd (no_call call here)
sound_at n zero (first ∷ others) call sound here =
    let same : n ≡ n + 0 = omega arith in
    subst (λ (m : ℕ). is_sound m call ≡ true) same
    (subst (λ (c : Syscall). is_sound n c ≡ true) (same_call first call here) (and_parts (is_sound n first) (all_sound (suc n) others) sound).0)
sound_at n (suc k) (first ∷ others) call sound here =
    let same : suc n + k ≡ n + suc k = omega arith in
    subst (λ (m : ℕ). is_sound m call ≡ true) same (sound_at (suc n) k others call (and_parts (is_sound n first) (all_sound (suc n) others) sound).1 here)

-- a call is found by its names, which are texts
record Named (number : ℕ) (call : Syscall) : Type 0 where
  number_found : number_of call.module_name call.name ≡ Some number
  module_text : IsTrue (is_utf8 call.module_name)
  text : IsTrue (is_utf8 call.name)

named : (number : ℕ) (call : Syscall) → IsSyscall number call → Named number call
named number call here =
    let same : 0 + number ≡ number = omega arith in
    let sound : is_sound number call ≡ true = subst (λ (m : ℕ). is_sound m call ≡ true) same (sound_at 0 number syscalls call syscalls_sound here) in
    let parts = and_parts (is_number number (number_of call.module_name call.name)) (are_low call.module_name && are_low call.name) sound in
    let texts = and_parts (are_low call.module_name) (are_low call.name) parts.1 in
    record { number_found = number_is number (number_of call.module_name call.name) parts.0; module_text = text_of call.module_name texts.0; text = text_of call.name texts.1 }

-- ---- the front of an import

unblamed : {A : Type 0} (place name : List ℕ) (read : Result A Stop) (x : A) → blamed place name read ≡ Ok x → read ≡ Ok x
unblamed place name (Ok y) x e = e
unblamed {A = A} place name (Err stop) x e = absurd (refusing (is_utf8 name) e)
  where
    refusing : (test : Bool) → (let r : Result A Stop = if test then Err stop else refused kinds.Form place in r) ≡ Ok x → ⊥
    refusing true f = cc
    refusing false f = cc

no_blame : {A : Type 0} (place name : List ℕ) (read : Result A Stop) (x : A) → read ≡ Ok x → blamed place name read ≡ Ok x
no_blame place name read x is = ap (blamed place name) is

-- the names of an import, and the byte of its kind
abbrev SpellsFront : ImportFront → List ℕ → Type 0
SpellsFront f = SpellsBytes f.module_name ⨾ (SpellsBytes f.name ⨾ Just (f.kind ∷ []))

front_takes : Takes import_front_at SpellsFront
unfolding import_front_at
front_takes bytes rest f e =
    let module_name = step e in
    let inner = unblamed bytes module_name.value.0 (name_behind module_name.value.0 module_name.value.1) (f, rest) module_name.after in
    let name = step inner in
    let kind = step (unblamed module_name.value.1 name.value.0 (kind_behind module_name.value.0 name.value.0 name.value.1) (f, rest) name.after) in
    let same = same_found kind.after in
    subst (λ (g : ImportFront). Front (SpellsFront g) bytes rest) same.0
    (both (bytes_takes bytes module_name.value.1 module_name.value.0 module_name.is) (both (bytes_takes module_name.value.1 name.value.1 name.value.0 name.is)
    (one_byte kind.value.0 kind.value.0 name.value.1 rest (byte_takes name.value.1 rest kind.value.0 (kind.is ∙ ap (found kind.value.0) same.1)) refl)))

front_again : Again import_front_at SpellsFront
unfolding import_front_at
front_again bytes rest f h =
    let two = split h in
    let three = split two.second in
    let kind : kind_behind f.module_name f.name three.middle ≡ Ok (f, rest) =
    go (λ k. Ok (record { module_name = f.module_name; name = f.name; kind = k.0 }, k.1)) (f.kind, rest) (byte_again three.middle rest f.kind (just_is (f.kind ∷ []) three.middle rest three.second)) refl in
    let name : name_behind f.module_name two.middle ≡ Ok (f, rest) =
    go (λ n. blamed two.middle n.0 (kind_behind f.module_name n.0 n.1)) (f.name, three.middle) (bytes_again two.middle three.middle f.name three.first) (no_blame two.middle f.name (kind_behind f.module_name f.name three.middle) (f, rest) kind) in
    go (λ n. blamed bytes n.0 (name_behind n.0 n.1)) (f.module_name, two.middle) (bytes_again bytes two.middle f.module_name two.first) (no_blame bytes f.module_name (name_behind f.module_name two.middle) (f, rest) name)

-- ---- types

-- a type that is that of a call
typed : (call : Syscall) (o : Option Syscall) (t : Option FuncType) → o ≡ Some call → has_type_of o t ≡ true → t ≡ Some call.typing
typed call o t is has = told t (ap (λ (p : Option Syscall). has_type_of p t) (sym is) ∙ has)
  where
    told : (t : Option FuncType) → has_type_of (Some call) t ≡ true → t ≡ Some call.typing
    told None has = absurd (false≢true has)
    told (Some t) has = ap (λ (u : FuncType). Some u) (sym ((type_decides call.typing t).0 has))

has_typed : (call : Syscall) (o : Option Syscall) (t : Option FuncType) → o ≡ Some call → t ≡ Some call.typing → has_type_of o t ≡ true
has_typed call o t is typing =
    ap (λ (p : Option Syscall). has_type_of p t) is ∙ (ap (has_type_of (Some call)) typing ∙ (type_decides call.typing call.typing).1 refl)

-- ---- imports

-- the names of a call in front of the rest of its import
names_of : (f : ImportFront) (call : Syscall) (bytes behind : List ℕ) → call.module_name ≡ f.module_name → call.name ≡ f.name → f.kind ≡ 0 → IsTrue (is_utf8 call.module_name) → IsTrue (is_utf8 call.name)
    → Front (SpellsFront f) bytes behind → Front (SpellsName call.module_name ⨾ (SpellsName call.name ⨾ Just (0 ∷ []))) bytes behind
names_of f call bytes behind first second zero_kind module_text text h =
    let two = split h in
    let three = split two.second in
    let one : Front (SpellsBytes call.module_name) bytes two.middle = subst (λ (n : List ℕ). Front (SpellsBytes n) bytes two.middle) (sym first) two.first in
    let other : Front (SpellsBytes call.name) two.middle three.middle = subst (λ (n : List ℕ). Front (SpellsBytes n) two.middle three.middle) (sym second) three.first in
    let kind : Front (Just (0 ∷ [])) three.middle behind = subst (λ (k : ℕ). Front (Just (k ∷ [])) three.middle behind) zero_kind three.second in
    both (seen (λ front laid. (module_text, laid)) one) (both (seen (λ front laid. (text, laid)) other) kind)

-- three parts, and one behind them
regrouped : {P Q R S : List ℕ → Type 0} {bytes middle rest : List ℕ} → Front (P ⨾ (Q ⨾ R)) bytes middle → Front S middle rest → Front (P ⨾ (Q ⨾ (R ⨾ S))) bytes rest
regrouped h s =
    let two = split h in
    let three = split two.second in
    both two.first (both three.first (both three.second s))

type_takes : (types : List FuncType) (f : ImportFront) (bytes behind rest : List ℕ) (number : ℕ) (i : Import) → Some number ≡ number_of f.module_name f.name → f.kind ≡ 0 → Front (SpellsFront f) bytes behind
    → type_behind types bytes number behind ≡ Ok (i, rest) → Front (SpellsImport types i) bytes rest
type_takes types f bytes behind rest number i is zero_kind h e =
    let n = step e in
    let test = passes (not (has_type_of (slice_get syscalls number) (slice_get types n.value.0))) kinds.UnknownImport bytes (record { syscall = number; type_index = n.value.0 }, n.value.1) (i, rest) n.after in
    let same = same_found (ap (λ (x : Import × List ℕ). found x.0 x.1) test.1) in
    let (call, here, first, second) = calls.found f.module_name f.name number is in
    let sound = named number call here in
    let typing : slice_get types n.value.0 ≡ Some call.typing = typed call (slice_get syscalls number) (slice_get types n.value.0) here (not-false (has_type_of (slice_get syscalls number) (slice_get types n.value.0)) test.0) in
    let index : Front (SpellsU32 n.value.0) behind rest = u32_takes behind rest n.value.0 (n.is ∙ ap (found n.value.0) same.1) in
    subst (λ (j : Import). Front (SpellsImport types j) bytes rest) same.0
    (seen (λ front laid. (call, here, typing, laid)) (regrouped (names_of f call bytes behind first second zero_kind sound.module_text sound.text h) index))

call_takes : (types : List FuncType) (f : ImportFront) (bytes behind rest : List ℕ) (o : Option ℕ) (i : Import) → number_of f.module_name f.name ≡ o → f.kind ≡ 0 → Front (SpellsFront f) bytes behind
    → call_behind types bytes o behind ≡ Ok (i, rest) → Front (SpellsImport types i) bytes rest
call_takes types f bytes behind rest (Some number) i is zero_kind h e = type_takes types f bytes behind rest number i (sym is) zero_kind h e
call_takes types f bytes behind rest None i is zero_kind h e = absurd cc

pub import_takes : (types : List FuncType) → Takes (import_at types) (SpellsImport types)
unfolding import_at
import_takes types bytes rest i e =
    let front = step {r = import_front_at bytes} {next = λ f. (if f.0.kind == 0 then call_behind types bytes (number_of f.0.module_name f.0.name) f.1 else refused kinds.Unsupported bytes)} e in
    elim (chosen (front.value.0.kind == 0) (call_behind types bytes (number_of front.value.0.module_name front.value.0.name) front.value.1) (refused kinds.Unsupported bytes) (Ok (i, rest)) front.after) [
      | inl call ↦ call_takes types front.value.0 bytes front.value.1 rest (number_of front.value.0.module_name front.value.0.name) i refl (eqb-true front.value.0.kind 0 call.0) (front_takes bytes front.value.1 front.value.0 front.is) call.1
      | inr other ↦ absurd (refusing other.1)
    ]
  where
    refusing : (let f : Found Import = refused kinds.Unsupported bytes in f) ≡ Ok (i, rest) → ⊥
    refusing f = cc

pub import_again : (types : List FuncType) → Again (import_at types) (SpellsImport types)
unfolding import_at
import_again types bytes rest i h =
    let call : Syscall = h.laid.0 in
    let here : IsSyscall i.syscall call = h.laid.1 in
    let sound = named i.syscall call here in
    let spelled : Front (SpellsName call.module_name ⨾ (SpellsName call.name ⨾ (Just (0 ∷ []) ⨾ SpellsU32 i.type_index))) bytes rest = record { front = h.front; parts = h.parts; laid = h.laid.3 } in
    let two = split spelled in
    let three = split two.second in
    let four = split three.second in
    let f : ImportFront = record { module_name = call.module_name; name = call.name; kind = 0 } in
    let front : Front (SpellsFront f) bytes four.middle = both (seen (λ front laid. laid.1) two.first) (both (seen (λ front laid. laid.1) three.first) four.first) in
    go (λ g. (if g.0.kind == 0 then call_behind types bytes (number_of g.0.module_name g.0.name) g.1 else refused kinds.Unsupported bytes)) (f, four.middle) (front_again bytes four.middle f front)
    (ap (λ (o : Option ℕ). call_behind types bytes o four.middle) sound.number_found
    ∙ go (λ n. unless (not (has_type_of (slice_get syscalls i.syscall) (slice_get types n.0))) kinds.UnknownImport bytes (record { syscall = i.syscall; type_index = n.0 }, n.1)) (i.type_index, rest) (u32_again four.middle rest i.type_index four.second)
    (left (not (has_type_of (slice_get syscalls i.syscall) (slice_get types i.type_index))) (refused kinds.UnknownImport bytes) (found i rest)
    (not_from_true (has_type_of (slice_get syscalls i.syscall) (slice_get types i.type_index)) (has_typed call (slice_get syscalls i.syscall) (slice_get types i.type_index) here h.laid.2))))
