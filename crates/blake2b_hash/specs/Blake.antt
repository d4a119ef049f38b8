-- BLAKE2b without a key (RFC 7693, section 3.3) as a function on lists of bytes.
use Rattle.std.specs.Prelude.{ℕ, zero, suc, ◌+◌, ◌-◌, ◌*◌, ◌/◌, true, false, List, ◌++◌, length, take, drop, replicate, bit_xor, slice_index, slice_set}
use Rattle.std.specs.Int.{w64, to_le_bytes}
use Rattle.std.specs.List.{flat_map}
use Rattle.blake2b_hash.specs.Tables.{iv}
use Rattle.blake2b_hash.specs.Compression.{compress, words_of}

-- the state before the first block: IV with the parameter word 0x01010000 ^ nn, for no key and nn bytes of digest
abbrev pub initial : ℕ → List ℕ
initial nn = slice_set iv 0 (bit_xor (bit_xor (slice_index iv 0) 0x01010000) nn)

-- how many blocks of a message stand before its last one; the empty message has one block
abbrev pub before_last : List ℕ → ℕ
before_last message = (length message - 1) / 128

-- the message from its block i on
abbrev pub from_block : ℕ → List ℕ → List ℕ
from_block i message = drop (i * 128) message

-- the state after the first n blocks, none of which is the last
unfoldable pub state_after : ℕ → List ℕ → ℕ → List ℕ
state_after nn message zero = initial nn
state_after nn message (suc i) =
    compress (state_after nn message i) (words_of (take 128 (from_block i message))) ((i + 1) * 128) false

-- a block with the zeros that fill it up
abbrev pub padded : List ℕ → List ℕ
padded block = block ++ replicate (128 - length block) 0

-- the state after the whole message: its last block is padded, and counted by the message's length
abbrev pub final_state : ℕ → List ℕ → List ℕ
final_state nn message =
    let n = before_last message in
    compress (state_after nn message n) (words_of (padded (from_block n message))) (length message) true

-- the bytes of a state, each word lowest byte first
abbrev pub bytes_of : List ℕ → List ℕ
bytes_of h = flat_map (to_le_bytes w64) h

-- the digest of nn bytes of a message
unfoldable pub blake : ℕ → List ℕ → List ℕ
blake nn message = take nn (bytes_of (final_state nn message))
