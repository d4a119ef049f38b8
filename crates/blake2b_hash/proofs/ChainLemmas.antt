-- How the state follows a message, block by block.
use Rattle.std.proofs.Common.{◌≡◌, ℕ, zero, suc, ◌+◌, ◌-◌, ◌*◌, ◌/◌, ◌%◌, ◌^◌, ◌<◌, ◌≤◌, Bool, false, List, [], ◌∷◌, ◌++◌, length, take, drop, map, refl, sym, ap, ◌∙◌, arith, length-append, length-drop}
use Rattle.std.proofs.lemmas.List.{take-append-le, drop-append-le, drop-drop, length-take-le, take_at, append_assoc, take-append-drop}
use Rattle.std.proofs.Math.Seq.{drop-append-add}
use Rattle.blake2b_hash.specs.Compression.{compress, folded, rounds, words_of, working_vector}
use Rattle.blake2b_hash.specs.Blake.{state_after, from_block, before_last}
use Rattle.blake2b_hash.specs.Chain.{IsAfter}
use Rattle.blake2b_hash.specs.declared.chain.Chain.{Chain}

-- the counter has 128 bits
pub compress_at : (h m : List ℕ) (t u : ℕ) (f : Bool) → t ≡ u % 2 ^ 128 → compress h m t f ≡ compress h m u f
unfolding compress
compress_at h m t u f e =
    let low : t % 2 ^ 64 ≡ u % 2 ^ 64 = omega arith in
    let high : t / 2 ^ 64 % 2 ^ 64 ≡ u / 2 ^ 64 % 2 ^ 64 = omega arith in
    let same : working_vector h t f ≡ working_vector h u f = rw (low, high) refl in
    ap (λ (v : List ℕ). map (folded h (rounds v m 12)) (0 ∷ 1 ∷ 2 ∷ 3 ∷ 4 ∷ 5 ∷ 6 ∷ 7 ∷ [])) same

-- the state after one block more
pub state_after_next : (len : ℕ) (message : List ℕ) (n : ℕ)
    → state_after len message (n + 1) ≡ compress (state_after len message n) (words_of (take 128 (from_block n message))) ((n + 1) * 128) false
unfolding state_after
state_after_next len message n =
    let e : n + 1 ≡ suc n = omega arith in
    ap (λ (k : ℕ). state_after len message k) e

-- the state reads only the blocks that it counts
pub state_after-append : (len : ℕ) (message more : List ℕ) (n : ℕ) → n * 128 ≤ length message
    → state_after len (message ++ more) n ≡ state_after len message n
unfolding state_after
state_after-append len message more zero h = refl
state_after-append len message more (suc n) h =
    let fits : 128 ≤ length (drop (n * 128) message) = omega (arith, length-drop (n * 128) message) in
    let block : take 128 (drop (n * 128) (message ++ more)) ≡ take 128 (drop (n * 128) message) =
    rw (drop-append-le (n * 128) message more (omega arith)) (take-append-le 128 (drop (n * 128) message) more fits) in
    rw (block, state_after-append len message more n (omega arith)) refl

-- the message from some blocks further on
pub from_block_later : (n i : ℕ) (message bytes : List ℕ) → bytes ≡ from_block n message
    → drop (i * 128) bytes ≡ from_block (n + i) message
from_block_later n i message bytes e =
    let at : n * 128 + i * 128 ≡ (n + i) * 128 = omega arith in
    rw (e, drop-drop (i * 128) (n * 128) message, at) refl

-- the next block, as the code cuts it out
pub next_block : (n i k : ℕ) (message bytes : List ℕ) → bytes ≡ from_block n message → k ≡ 128
    → take k (drop (i * 128) bytes) ≡ take 128 (from_block (n + i) message)
next_block n i k message bytes e width = rw (width, from_block_later n i message bytes e) refl

-- the same chain and message, under another name of the count
pub IsAfter_at : (chain : Chain) (len : ℕ) (message : List ℕ) (n m : ℕ) → n ≡ m → IsAfter chain len message n → IsAfter chain len message m
IsAfter_at chain len message n m e after = record {
  state = after.state ∙ ap (λ (k : ℕ). state_after len message k) e;
  counter = after.counter ∙ ap (λ (k : ℕ). k * 128 % 2 ^ 128) e;
}

-- more bytes change nothing of the blocks that were taken in
pub IsAfter_append : (chain : Chain) (len : ℕ) (message more : List ℕ) (n : ℕ) → n * 128 ≤ length message
    → IsAfter chain len message n → IsAfter chain len (message ++ more) n
IsAfter_append chain len message more n fits after = record {
  state = after.state ∙ sym (state_after-append len message more n fits);
  counter = after.counter;
}

-- what was kept of the last block has the length that the blocks leave
pub length-kept : (given kept : List ℕ) → kept ≡ from_block (before_last given) given
    → before_last given * 128 + length kept ≡ length given
length-kept given kept e = omega (arith, ap length e, length-drop (before_last given * 128) given)

-- bytes that fit into the last block leave it the last
pub before_last_short : (given kept more : List ℕ) → kept ≡ from_block (before_last given) given → length kept + length more ≤ 128
    → before_last (given ++ more) ≡ before_last given
before_last_short given kept more e fits = omega (arith, length-kept given kept e, length-append given more)

pub from_block_append : (given kept more : List ℕ) → kept ≡ from_block (before_last given) given
    → kept ++ more ≡ from_block (before_last given) (given ++ more)
from_block_append given kept more e =
    let fits : before_last given * 128 ≤ length given = omega (arith, length-kept given kept e) in
    rw (e, drop-append-le (before_last given * 128) given more fits) refl

-- the last block, filled up by the bytes that follow, is the message's next block
pub filled_block : (kept more : List ℕ) (room : ℕ) → room + length kept ≡ 128 → room ≤ length more
    → kept ++ take room more ≡ take 128 (kept ++ more)
filled_block kept more room full fits =
    let whole : (kept ++ take room more) ++ drop room more ≡ kept ++ more =
    append_assoc kept (take room more) (drop room more) ∙ ap (λ (x : List ℕ). kept ++ x) (take-append-drop room more) in
    let len : length (kept ++ take room more) ≡ 128 = omega (arith, length-append kept (take room more), length-take-le room more fits) in
    rw (← whole) (sym (take_at (kept ++ take room more) (drop room more) 128 len))

-- what follows that block
pub rest_of : (given kept more : List ℕ) (room : ℕ) → kept ≡ from_block (before_last given) given → room + length kept ≡ 128
    → drop room more ≡ from_block (before_last given + 1) (given ++ more)
rest_of given kept more room e full =
    let at : (before_last given + 1) * 128 ≡ length given + room = omega (arith, length-kept given kept e) in
    rw at (sym (drop-append-add given more room))

-- how many blocks come before the last one of a longer message
pub before_last_long : (given kept more rest : List ℕ) (room : ℕ) → kept ≡ from_block (before_last given) given → room + length kept ≡ 128
    → room < length more → rest ≡ drop room more
    → before_last given + 1 + (length rest - 1) / 128 ≡ before_last (given ++ more)
before_last_long given kept more rest room e full long er =
    omega (arith, length-kept given kept e, length-append given more, ap length er, length-drop room more)
