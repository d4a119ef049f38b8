-- The order of CIDs at places.
use Rattle.std.proofs.Common.{◌≡◌, ℕ, ◌≤◌, List, [], ◌∷◌, false, true, refl, sym, arith}
use Rattle.std.proofs.lemmas.Bool.Decides.{nat_tests}
use Rattle.std.proofs.lemmas.Cmp.{nat_cmp_total, nat_list_cmp_total, on_total, ranked, then_total, tied_itself}
use Rattle.std.specs.Cmp.{IsTotalOrder}
use Rattle.std.specs.Cmp.Lexicographic.{slice_cmp}
use Rattle.std.specs.Ordering.{is_lt, nat_cmp, ordering_reverse, ordering_then}
use Rattle.std.specs.declared.cmp.Ordering.{Ordering}
use Rattle.std.specs.declared.cmp.Ordering.TheVariants.{Less, Equal, Greater}
use Rattle.fil_base.specs.CidParts.{CidParts}
use Rattle.block_base.specs.Order.{key_of, rank_cmp}

pub rank_total : IsTotalOrder rank_cmp
rank_total =
    then_total (on_total (λ r. key_of r.0) nat_cmp_total) (then_total (on_total (λ r. r.0.version) nat_cmp_total) (then_total (on_total (λ r. r.0.codec) nat_cmp_total) (then_total (on_total (λ r. r.0.hash) nat_cmp_total) (then_total (on_total (λ r. r.0.digest) nat_list_cmp_total) (on_total (λ r. r.1) nat_cmp_total)))))

same_number : (x y : ℕ) → nat_cmp x y ≡ Equal → x ≡ y
same_number x y tied = ranked x y Equal (sym tied)

tied_first : (p o : Ordering) → ordering_then p o ≡ Equal → p ≡ Equal
tied_first Less o tied = cc
tied_first Equal o tied = refl
tied_first Greater o tied = cc

tied_rest : (p o : Ordering) → ordering_then p o ≡ Equal → o ≡ Equal
tied_rest Less o tied = cc
tied_rest Equal o tied = tied
tied_rest Greater o tied = cc

same_list : (xs ys : List ℕ) → slice_cmp nat_cmp xs ys ≡ Equal → xs ≡ ys
same_list [] [] tied = refl
same_list [] (y ∷ ys) tied = cc
same_list (x ∷ xs) [] tied = cc
same_list (x ∷ xs) (y ∷ ys) tied =
    λ i. same_number x y (tied_first (nat_cmp x y) (slice_cmp nat_cmp xs ys) tied) i ∷ same_list xs ys (tied_rest (nat_cmp x y) (slice_cmp nat_cmp xs ys) tied) i

-- neither side is less, so the first parts tie, and neither side is less by the rest
record Ties (p o q : Ordering) : Type 0 where
  tied : p ≡ Equal
  left : is_lt o ≡ false
  right : is_lt q ≡ false

not_less : true ≡ false → ⊥
not_less same = cc

ties : (p r o q : Ordering) → p ≡ ordering_reverse r → is_lt (ordering_then p o) ≡ false → is_lt (ordering_then r q) ≡ false → Ties p o q
ties p Less o q turned left right = absurd (not_less right)
ties p Equal o q turned left right = record { tied = turned; left = rw turned at left; right = right }
ties p Greater o q turned left right = absurd (not_less (rw turned at left))

upto_number : (p k : ℕ) → is_lt (nat_cmp k p) ≡ false → p ≤ k
upto_number p k not = grind (arith, nat_tests)

pub squeeze : (x c : CidParts) (p k : ℕ) → is_lt (rank_cmp (x, p) (c, 0)) ≡ false → is_lt (rank_cmp (c, k) (x, p)) ≡ false → (x ≡ c) × (p ≤ k)
squeeze x c p k above below =
    let turn = nat_cmp_total.antisymm in
    let keys = ties (nat_cmp (key_of x) (key_of c)) (nat_cmp (key_of c) (key_of x)) _ _ (turn (key_of x) (key_of c)) above below in
    let versions = ties (nat_cmp x.version c.version) (nat_cmp c.version x.version) _ _ (turn x.version c.version) keys.left keys.right in
    let codecs = ties (nat_cmp x.codec c.codec) (nat_cmp c.codec x.codec) _ _ (turn x.codec c.codec) versions.left versions.right in
    let hashes = ties (nat_cmp x.hash c.hash) (nat_cmp c.hash x.hash) _ _ (turn x.hash c.hash) codecs.left codecs.right in
    let digests = ties (slice_cmp nat_cmp x.digest c.digest) (slice_cmp nat_cmp c.digest x.digest) _ _ (nat_list_cmp_total.antisymm x.digest c.digest) hashes.left hashes.right in (
      λ i. record {
        version = same_number x.version c.version versions.tied i;
        codec = same_number x.codec c.codec codecs.tied i;
        hash = same_number x.hash c.hash hashes.tied i;
        digest = same_list x.digest c.digest digests.tied i;
      },
      upto_number p k digests.right,
    )

-- no place is before the first one
pub not_before : (c : CidParts) (k : ℕ) → is_lt (rank_cmp (c, k) (c, 0)) ≡ false
not_before c k =
    let same = tied_itself nat_cmp_total in
    rw (same (key_of c), same c.version, same c.codec, same c.hash, tied_itself nat_list_cmp_total c.digest) (grind (arith, nat_tests))
