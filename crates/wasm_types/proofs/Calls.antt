-- Finding a system call by its names.
use Rattle.std.proofs.Common.{◌≡◌, ℕ, zero, suc, ◌+◌, Bool, true, false, if◌then◌else◌, List, [], ◌∷◌, Option, Some, None, IfNone, drop, add-one, refl, sym, ap, ◌∙◌, subst, arith}
use Rattle.std.specs.List.{slice_get}
use Rattle.std.specs.Str.{bytes_eq}
use Rattle.std.proofs.lemmas.Bool.{and_parts, and_from, both_ways}
use Rattle.std.proofs.lemmas.Slice.Eq.{bytes_eq-Decides}
use Rattle.wasm_types.specs.Syscalls.{Syscall, syscalls, IsSyscall, IsNamed, has_names, number_from, number_of}

named : (module_name name : List ℕ) (call : Syscall) → has_names module_name name call ≡ true → (call.module_name ≡ module_name) × (call.name ≡ name)
named module_name name call has =
    let parts = and_parts (bytes_eq call.module_name module_name) (bytes_eq call.name name) has in
    ((bytes_eq-Decides call.module_name module_name).0 parts.0, (bytes_eq-Decides call.name name).0 parts.1)

has : (module_name name : List ℕ) (call : Syscall) → call.module_name ≡ module_name → call.name ≡ name → has_names module_name name call ≡ true
has module_name name call here there =
    and_from (bytes_eq call.module_name module_name) (bytes_eq call.name name) ((bytes_eq-Decides call.module_name module_name).1 here) ((bytes_eq-Decides call.name name).1 there)

some_same : (m n : ℕ) → Some m ≡ Some n → m ≡ n
some_same m n same = cc

none_some : (n : ℕ) → None ≡ Some n → ⊥
none_some n same = cc

some_same_at : {A : Type 0} (x y : A) → Some x ≡ Some y → x ≡ y
some_same_at x y same = cc

some_same_call : (x y : Syscall) → Some x ≡ Some y → x ≡ y
some_same_call x y same = cc

none_some_call : (x : Syscall) → None ≡ Some x → ⊥
none_some_call x same = cc

-- what is found in a list whose numbers begin at n
abbrev IsFound : List ℕ → List ℕ → ℕ → List Syscall → ℕ → Type 0
IsFound module_name name n calls number = (k : ℕ) × (call : Syscall) × (number ≡ n + k) × (slice_get calls k ≡ Some call) × (has_names module_name name call ≡ true)

found_test : (module_name name : List ℕ) (n : ℕ) (call : Syscall) (calls : List Syscall) (behind : Option ℕ) (number : ℕ) (test : Bool) → has_names module_name name call ≡ test → (if test then Some n else behind) ≡ Some number
    → (behind ≡ Some number → IsFound module_name name (suc n) calls number) → IsFound module_name name n (call ∷ calls) number
found_test module_name name n call calls behind number true e is later =
    let same : n ≡ number = some_same n number is in
    (0, call, omega (arith, same), refl, e)
found_test module_name name n call calls behind number false e is later =
    let at = later is in
    (suc at.0, at.1, omega (arith, at.2), at.3, at.4)

found_from : (module_name name : List ℕ) (n : ℕ) (calls : List Syscall) (number : ℕ) → number_from module_name name n calls ≡ Some number → IsFound module_name name n calls number
found_from module_name name n [] number is = absurd (none_some number is)
found_from module_name name n (call ∷ calls) number is =
    found_test module_name name n call calls (number_from module_name name (suc n) calls) number (has_names module_name name call) refl is (found_from module_name name (suc n) calls number)

-- the number found is that of the names
pub found : (module_name name : List ℕ) (number : ℕ) → Some number ≡ number_of module_name name → IsNamed number module_name name
unfolding number_of
found module_name name number is =
    let at = found_from module_name name 0 syscalls number (sym is) in
    let same : at.0 ≡ number = omega (arith, at.2) in
    let names = named module_name name at.1 at.4 in
    (at.1, subst (λ (k : ℕ). slice_get syscalls k ≡ Some at.1) same at.3, names.0, names.1)

none_test : (module_name name : List ℕ) (n : ℕ) (call : Syscall) (behind : Option ℕ) (test : Bool) → (if test then Some n else behind) ≡ None → has_names module_name name call ≡ test
    → (behind ≡ None) × (has_names module_name name call ≡ false)
none_test module_name name n call behind true is e = absurd (none_some n (sym is))
none_test module_name name n call behind false is e = (is, e)

none_from : (module_name name : List ℕ) (n : ℕ) (calls : List Syscall) → number_from module_name name n calls ≡ None → (k : ℕ) (call : Syscall) → slice_get calls k ≡ Some call → has_names module_name name call ≡ false
none_from module_name name n [] is k call here = absurd (none_some_call call here)
none_from module_name name n (first ∷ calls) is zero call here =
    let same : first ≡ call = some_same_call first call here in
    subst (λ (c : Syscall). has_names module_name name c ≡ false) same (none_test module_name name n first (number_from module_name name (suc n) calls) (has_names module_name name first) is refl).1
none_from module_name name n (first ∷ calls) is (suc k) call here =
    none_from module_name name (suc n) calls (none_test module_name name n first (number_from module_name name (suc n) calls) (has_names module_name name first) is refl).0 k call here

-- where none is found no system call has the names
pub none : (module_name name : List ℕ) → None ≡ number_of module_name name → (number : ℕ) → IsNamed number module_name name → ⊥
unfolding number_of
none module_name name is number (call, here, first, second) =
    both_ways (has_names module_name name call) (none_from module_name name 0 syscalls (sym is) number call here) (has module_name name call first second)

drop_at : {A : Type 0} (xs : List A) (k : ℕ) (x : A) → slice_get xs k ≡ Some x → drop k xs ≡ x ∷ drop (suc k) xs
drop_at [] k x here = cc
drop_at (y ∷ xs) zero x here = ap (λ z. z ∷ xs) (some_same_at y x here)
drop_at (y ∷ xs) (suc k) x here = drop_at xs k x here

-- what is found from a number on is what is found in all
unfoldable pub IsLeft : List ℕ → List ℕ → ℕ → Type 0
IsLeft module_name name number = number_from module_name name number (drop number syscalls) ≡ number_of module_name name

-- the search begins
pub begun : (module_name name : List ℕ) → IsLeft module_name name 0
unfolding IsLeft number_of
begun module_name name = refl

left_test : (module_name name : List ℕ) (number : ℕ) (call : Syscall) (test : Bool) → IsSyscall number call → has_names module_name name call ≡ test → IsLeft module_name name number
    → (if test then Some number else number_from module_name name (suc number) (drop (suc number) syscalls)) ≡ number_of module_name name
unfolding IsLeft
left_test module_name name number call test here is left =
    ap (λ (t : Bool). if t then Some number else number_from module_name name (suc number) (drop (suc number) syscalls)) (sym is)
    ∙ (ap (number_from module_name name number) (sym (drop_at syscalls number call here)) ∙ left)

-- the call of the number is not the one
pub passed : (module_name name : List ℕ) (number : ℕ) (call : Syscall) → IsSyscall number call → has_names module_name name call ≡ false → IsLeft module_name name number → IsLeft module_name name (number + 1)
unfolding IsLeft
passed module_name name number call here differs left = rw add-one (left_test module_name name number call false here differs left)

-- the call of the number is the one
pub met : (module_name name : List ℕ) (number : ℕ) (call : Syscall) → IsSyscall number call → has_names module_name name call ≡ true → IsLeft module_name name number → Some number ≡ number_of module_name name
met module_name name number call here is left = left_test module_name name number call true here is left

-- none is left
pub ended : (module_name name : List ℕ) (number : ℕ) → number ≡ 20 → IsLeft module_name name number → None ≡ number_of module_name name
unfolding IsLeft
ended module_name name number all left = subst (λ (n : ℕ). number_from module_name name n (drop n syscalls) ≡ number_of module_name name) all left

-- the same of an answer
pub none_of : (module_name name : List ℕ) (answer : Option ℕ) → answer ≡ number_of module_name name → IfNone answer ((number : ℕ) → IsNamed number module_name name → ⊥)
none_of module_name name (Some number) is = tt
none_of module_name name None is = none module_name name is
