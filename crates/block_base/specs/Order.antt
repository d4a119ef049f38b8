-- The order in which CIDs stand in the index.
use Rattle.std.specs.Prelude.{ℕ, length, take, nat_lt, if◌then◌else◌}
use Rattle.std.specs.Int.{from_be_bytes, w64}
use Rattle.std.specs.Cmp.Lexicographic.{slice_cmp}
use Rattle.std.specs.Ordering.{nat_cmp, on, then_cmp}
use Rattle.std.specs.declared.cmp.Ordering.{Ordering}
use Rattle.fil_base.specs.CidParts.{CidParts}

-- the first eight bytes of the digest as a number, or 0 where there are fewer
unfoldable pub key_of : CidParts → ℕ
key_of c = if nat_lt (length c.digest) 8 then 0 else from_be_bytes w64 (take 8 c.digest)

-- by the key, the parts and then the place
abbrev pub rank_cmp : CidParts × ℕ → CidParts × ℕ → Ordering
rank_cmp =
    then_cmp (on (λ r. key_of r.0) nat_cmp)
    (then_cmp (on (λ r. r.0.version) nat_cmp)
    (then_cmp (on (λ r. r.0.codec) nat_cmp)
    (then_cmp (on (λ r. r.0.hash) nat_cmp)
    (then_cmp (on (λ r. r.0.digest) (slice_cmp nat_cmp))
    (on (λ r. r.1) nat_cmp)))))
