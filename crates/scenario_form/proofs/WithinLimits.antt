-- Where no limit is exceeded, each part is within its own.
use Rattle.std.proofs.Common.{◌≡◌, ℕ, ◌≤◌, Bool, true, false, cond, ◌||◌, ltb, eqb, List, [], ◌∷◌, length, Option, Some, None, refl, arith}
use Rattle.std.specs.Prelude.{All}
use Rattle.std.specs.List.{list_any}
use Rattle.std.proofs.lemmas.Bool.Decides.{nat_tests}
use Rattle.std.proofs.lemmas.List.Elements.{All-cons, All-nil}
use Rattle.fil_message.specs.Layout.{message_spelling}
use Rattle.fil_message.specs.Sound.{IsMessage}
use Rattle.fil_message.specs.Tipsets.{IsShortMessage, IsTipBlock, IsTipset}
use Rattle.fil_message.specs.declared.message.Message.{Message}
use Rattle.fil_message.specs.declared.tipset.TipBlock.{TipBlock}
use Rattle.fil_message.specs.declared.tipset.Tipset.{Tipset}
use Rattle.scenario_form.specs.Judging.{exceeded_limit, has_long_block, has_long_message, is_long, is_outside}
use Rattle.scenario_form.specs.Parts.{IsRaw, IsRawBlock, IsRawTipset}
use Rattle.scenario_form.specs.declared.raw.RawScenario.{RawScenario}

abbrev pub first_of_six : Bool → Bool → Bool → Bool → Bool → Bool → Option ℕ
first_of_six a b c d e f = cond a (Some 0) (cond b (Some 1) (cond c (Some 2) (cond d (Some 3) (cond e (Some 4) (cond f (Some 5) None)))))

none_of_six : (a b c d e f : Bool) → first_of_six a b c d e f ≡ None
    → (a ≡ false) × (b ≡ false) × (c ≡ false) × (d ≡ false) × (e ≡ false) × (f ≡ false)
none_of_six true b c d e f is = absurd (cc)
none_of_six false true c d e f is = absurd (cc)
none_of_six false false true d e f is = absurd (cc)
none_of_six false false false true e f is = absurd (cc)
none_of_six false false false false true f is = absurd (cc)
none_of_six false false false false false true is = absurd (cc)
none_of_six false false false false false false is = (refl, refl, refl, refl, refl, refl)

neither : (a b : Bool) → (a || b) ≡ false → (a ≡ false) × (b ≡ false)
neither true b is = absurd (cc)
neither false b is = (refl, is)

none_passes : {X : Type 0} (p : X → Bool) (xs : List X) → list_any p xs ≡ false → All (λ x. p x ≡ false) xs
none_passes p [] is = All-nil (λ x. p x ≡ false)
none_passes p (x ∷ xs) is =
    let both = neither (p x) (list_any p xs) is in
    All-cons (λ y. p y ≡ false) x xs both.0 (none_passes p xs both.1)

-- what holds of each by two facts of it
both_hold : {X : Type 0} (P Q R : X → Type 0) → ((x : X) → P x → Q x → R x) → (xs : List X) → All P xs → All Q xs → All R xs
both_hold P Q R from xs p q k d within = from _ (p k d within) (q k d within)

inside : (n greatest : ℕ) → is_outside n greatest ≡ false → (1 ≤ n) × (n ≤ greatest)
inside n greatest is =
    let both = neither (eqb n 0) (ltb greatest n) is in
    (grind (arith, nat_tests, both.0), grind (arith, nat_tests, both.1))

at_most : (n greatest : ℕ) → ltb greatest n ≡ false → n ≤ greatest
at_most n greatest is = grind (arith, nat_tests, is)

message_short : (m : Message) → IsMessage m → is_long m ≡ false → IsShortMessage m
message_short m good short = (good, at_most (length (message_spelling m)) 1048576 short)

block_within : (b : TipBlock) → IsRawBlock b → ltb 10000 (length b.messages) ≡ false → list_any is_long b.messages ≡ false → IsTipBlock b
block_within b raw few short = record {
  miner = raw.miner;
  award = raw.award;
  count = at_most (length b.messages) 10000 few;
  messages = both_hold IsMessage (λ m. is_long m ≡ false) IsShortMessage message_short b.messages raw.messages (none_passes is_long b.messages short);
}

abbrev IsFew : TipBlock → Type 0
IsFew b = (ltb 10000 (length b.messages) ≡ false) × (list_any is_long b.messages ≡ false)

tipset_within : (t : Tipset) → IsRawTipset t → ltb 256 (length t.blocks) ≡ false → has_long_block t ≡ false → has_long_message t ≡ false → IsTipset t
tipset_within t raw few counts short =
    let is_few : All IsFew t.blocks =
    both_hold (λ b. ltb 10000 (length b.messages) ≡ false) (λ b. list_any is_long b.messages ≡ false) IsFew (λ b x y. (x, y)) t.blocks
    (none_passes (λ b. ltb 10000 (length b.messages)) t.blocks counts) (none_passes (λ b. list_any is_long b.messages) t.blocks short) in
    record {
      epoch = raw.epoch;
      base_fee = raw.base_fee;
      count = at_most (length t.blocks) 256 few;
      blocks = both_hold IsRawBlock IsFew IsTipBlock (λ b x y. block_within b x y.0 y.1) t.blocks raw.blocks is_few;
    }

-- a scenario within its limits
pub record IsWithin (s : RawScenario) : Type 0 where
  pub least_depth : 1 ≤ s.rules.depth
  pub depth : s.rules.depth ≤ 64
  pub least_pages : 1 ≤ s.rules.pages
  pub pages : s.rules.pages ≤ 512
  pub count : length s.tipsets ≤ 1024
  pub tipsets : All IsTipset s.tipsets

abbrev IsFine : Tipset → Type 0
IsFine t = (ltb 256 (length t.blocks) ≡ false) × (has_long_block t ≡ false) × (has_long_message t ≡ false)

pub limits_hold : (s : RawScenario) → IsRaw s → exceeded_limit s ≡ None → IsWithin s
limits_hold s raw none =
    let tests = none_of_six (is_outside s.rules.depth 64) (is_outside s.rules.pages 512) (ltb 1024 (length s.tipsets)) (list_any (λ t. ltb 256 (length t.blocks)) s.tipsets)
    (list_any has_long_block s.tipsets) (list_any has_long_message s.tipsets) none in
    let depth = inside s.rules.depth 64 tests.0 in
    let pages = inside s.rules.pages 512 tests.1 in
    let counts = none_passes (λ t. ltb 256 (length t.blocks)) s.tipsets tests.3 in
    let blocks = none_passes has_long_block s.tipsets tests.4 in
    let messages = none_passes has_long_message s.tipsets tests.5 in
    let fine : All IsFine s.tipsets = λ k d within. (counts k d within, blocks k d within, messages k d within) in
    record {
      least_depth = depth.0;
      depth = depth.1;
      least_pages = pages.0;
      pages = pages.1;
      count = at_most (length s.tipsets) 1024 tests.2;
      tipsets = both_hold IsRawTipset IsFine IsTipset (λ t x y. tipset_within t x y.0 y.1 y.2) s.tipsets raw.tipsets fine;
    }
