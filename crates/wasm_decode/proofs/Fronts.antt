-- What is laid out at the front of bytes, and steps of reading it.
use Rattle.std.proofs.Common.{◌≡◌, ℕ, Bool, true, false, if◌then◌else◌, List, [], ◌∷◌, ◌++◌, inl, inr, ◌⊎◌, Result, Ok, Err, refl, sym, ap, ◌∙◌, append_assoc}
use Rattle.wasm_decode.specs.declared.fault.Stop.{Stop}
use Rattle.wasm_decode.specs.declared.fault.WasmKind.{WasmKind}
use Rattle.wasm_decode.specs.Layout.{◌⨾◌, Just}
use Rattle.wasm_decode.specs.Stops.{◌>>=◌, Found, refused, unless}

-- bytes up to the rest are laid out so
pub record Front (Laid : List ℕ → Type 0) (bytes rest : List ℕ) : Type 0 where
  pub front : List ℕ
  pub parts : bytes ≡ front ++ rest
  pub laid : Laid front

-- a value that is found, and the rest
abbrev pub found : {A : Type 0} → A → List ℕ → Found A
found x rest = Ok (x, rest)

-- what is read is spelled so
abbrev pub Takes : {A : Type 0} → (List ℕ → Found A) → (A → List ℕ → Type 0) → Type 0
Takes {A = A} read Spells = (bytes rest : List ℕ) (x : A) → read bytes ≡ Ok (x, rest) → Front (Spells x) bytes rest

-- what is spelled so is read
abbrev pub Again : {A : Type 0} → (List ℕ → Found A) → (A → List ℕ → Type 0) → Type 0
Again {A = A} read Spells = (bytes rest : List ℕ) (x : A) → Front (Spells x) bytes rest → read bytes ≡ Ok (x, rest)

-- two parts, one behind the other
pub record Two (First Second : List ℕ → Type 0) (bytes rest : List ℕ) : Type 0 where
  pub middle : List ℕ
  pub first : Front First bytes middle
  pub second : Front Second middle rest

pub both : {First Second : List ℕ → Type 0} {bytes middle rest : List ℕ} → Front First bytes middle → Front Second middle rest → Front (First ⨾ Second) bytes rest
both {bytes = bytes} {middle = middle} {rest = rest} f g = record {
  front = f.front ++ g.front;
  parts = f.parts ∙ (ap (λ (m : List ℕ). f.front ++ m) g.parts ∙ sym (append_assoc f.front g.front rest));
  laid = (f.front, g.front, refl, f.laid, g.laid);
}

pub split : {First Second : List ℕ → Type 0} {bytes rest : List ℕ} → Front (First ⨾ Second) bytes rest → Two First Second bytes rest
split {First = First} {Second = Second} {bytes = bytes} {rest = rest} h =
    let f : List ℕ = h.laid.0 in
    let g : List ℕ = h.laid.1 in
    let one : Front First bytes (g ++ rest) = record { front = f; parts = h.parts ∙ (ap (λ (m : List ℕ). m ++ rest) h.laid.2 ∙ append_assoc f g rest); laid = h.laid.3 } in
    let two : Front Second (g ++ rest) rest = record { front = g; parts = refl; laid = h.laid.4 } in
    record { middle = g ++ rest; first = one; second = two }

-- the same bytes, laid out in other words
pub seen : {P Q : List ℕ → Type 0} {bytes rest : List ℕ} → ((front : List ℕ) → P front → Q front) → Front P bytes rest → Front Q bytes rest
seen same h = record { front = h.front; parts = h.parts; laid = same h.front h.laid }

-- just these bytes
pub just : (these bytes rest : List ℕ) → bytes ≡ these ++ rest → Front (Just these) bytes rest
just these bytes rest is = record { front = these; parts = is; laid = refl }

pub just_is : (these bytes rest : List ℕ) → Front (Just these) bytes rest → bytes ≡ these ++ rest
just_is these bytes rest h = h.parts ∙ ap (λ (m : List ℕ). m ++ rest) h.laid

-- ---- steps

-- the value of a step that did not stop
pub record Step {A B : Type 0} (r : Result A Stop) (next : A → Result B Stop) (y : B) : Type 0 where
  pub value : A
  pub is : r ≡ Ok value
  pub after : next value ≡ Ok y

pub step : {A B : Type 0} {r : Result A Stop} {next : A → Result B Stop} {y : B} → (r >>= next) ≡ Ok y → Step r next y
step {r = Ok x} e = record { value = x; is = refl; after = e }
step {r = Err stop} e = absurd cc

-- a step that did not stop
pub go : {A B : Type 0} {r : Result A Stop} (next : A → Result B Stop) {y : B} (x : A) → r ≡ Ok x → next x ≡ Ok y → (r >>= next) ≡ Ok y
go next x is after = ap (λ s. s >>= next) is ∙ after

pub same_found : {A : Type 0} {x y : A} {r s : List ℕ} → found x r ≡ found y s → (x ≡ y) × (r ≡ s)
same_found {A = A} {x = x} {y = y} {r = r} {s = s} e =
    let both_same : (x, r) ≡ (y, s) = cc in
    (ap (λ (p : A × List ℕ). p.0) both_same, ap (λ (p : A × List ℕ). p.1) both_same)

abbrev done : {A : Type 0} → A → Result A Stop
done x = Ok x

pub same_value : {A : Type 0} {x y : A} → done x ≡ Ok y → x ≡ y
same_value e = cc

-- a test that found no fault
pub passes : {A : Type 0} (test : Bool) (kind : WasmKind) (bytes : List ℕ) (x y : A) → unless test kind bytes x ≡ Ok y → (test ≡ false) × (x ≡ y)
passes true kind bytes x y e = absurd cc
passes false kind bytes x y e = (refl, cc)

-- which way a test went
pub chosen : {A : Type 0} (test : Bool) (x y z : A) → (if test then x else y) ≡ z → ((test ≡ true) × (x ≡ z)) ⊎ ((test ≡ false) × (y ≡ z))
chosen true x y z e = inl (refl, e)
chosen false x y z e = inr (refl, e)

-- a test that succeeded
pub succeeds : {A : Type 0} (test : Bool) (kind : WasmKind) (bytes : List ℕ) (x y : A) → (if test then Ok x else refused kind bytes) ≡ Ok y → (test ≡ true) × (x ≡ y)
succeeds true kind bytes x y e = (refl, cc)
succeeds false kind bytes x y e = absurd cc

-- the way that a test goes
pub taken : {A : Type 0} (test : Bool) (x y : A) → test ≡ true → (if test then x else y) ≡ x
taken test x y is = ap (λ (t : Bool). if t then x else y) is

pub left : {A : Type 0} (test : Bool) (x y : A) → test ≡ false → (if test then x else y) ≡ y
left test x y is = ap (λ (t : Bool). if t then x else y) is

-- the first byte alone
pub alone : (P : List ℕ → Type 0) (byte n : ℕ) (behind rest : List ℕ) → byte ≡ n → behind ≡ rest → P (n ∷ []) → Front P (byte ∷ behind) rest
alone P byte n behind rest same end laid = record {
  front = n ∷ [];
  parts = ap (λ (b : ℕ). b ∷ behind) same ∙ ap (λ (bs : List ℕ). n ∷ bs) end;
  laid = laid;
}
