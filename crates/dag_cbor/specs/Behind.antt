-- What reading leaves of the bytes, where nothing is made of what is read.
use Rattle.std.specs.Prelude.{ℕ, zero, suc, List, length, Result, Ok, Err, Option, Some}
use Rattle.dag_cbor.specs.declared.value.Value.{Value}
use Rattle.dag_cbor.specs.declared.fault.Flaw.{Flaw}
use Rattle.dag_cbor.specs.Reading.{◌>>=◌, head_at, of_link, blob_at, of_key, text_at, after_last}

-- the bytes behind what is read
abbrev pub behind : {A : Type 0} → Result (A × List ℕ) Flaw → Result (List ℕ) Flaw
behind (Ok x) = Ok x.1
behind (Err at) = Err at

-- a byte string at the place of a link's
unfoldable pub link_bytes_at : ℕ → List ℕ → Result (List ℕ × List ℕ) Flaw
link_bytes_at left bytes = head_at bytes >>= of_link left >>= λ h. blob_at h.0.number h.1

-- a key at any place in a map
unfoldable pub any_key_at : ℕ → List ℕ → Result (List ℕ × List ℕ) Flaw
any_key_at room bytes = head_at bytes >>= of_key room (length bytes) >>= λ h. text_at (length bytes) h.0.number h.1

-- a key that comes after the last one, if there is one
unfoldable pub key_after : ℕ → Option (List ℕ) → List ℕ → Result (List ℕ × List ℕ) Flaw
key_after room last bytes = any_key_at room bytes >>= after_last last (length bytes)

-- the bytes behind so many items
unfoldable pub behind_items : (List ℕ → Result (Value × List ℕ) Flaw) → ℕ → List ℕ → Result (List ℕ) Flaw
behind_items item zero bytes = Ok bytes
behind_items item (suc wanted) bytes = behind (item bytes) >>= behind_items item wanted

-- the bytes behind so many pairs of a map, which come after the last key
unfoldable pub behind_pairs : ℕ → (List ℕ → Result (Value × List ℕ) Flaw) → Option (List ℕ) → ℕ → List ℕ → Result (List ℕ) Flaw
behind_pairs room item last zero bytes = Ok bytes
behind_pairs room item last (suc wanted) bytes =
    key_after room last bytes >>= λ k. behind (item k.1) >>= λ rest. behind_pairs room item (Some k.0) wanted rest
