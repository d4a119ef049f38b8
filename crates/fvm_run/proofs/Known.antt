-- Bytes that a sink took and a source gave, where these tell them.
use Rattle.std.proofs.Common.{ℕ, ◌<◌, List, [], ◌++◌, length, Option, None, Some, refl, sym, ap, ◌∙◌, append_assoc, arith}
use Rattle.std.proofs.lemmas.List.{append-nil, length-append}
use Rattle.fvm_run.specs.Answers.{Had}
use Rattle.std.specs.Io.KnownBytes.{Appends, Consumes, Keeps}

pub appends_more : (a b c : Option (List ℕ)) (xs ys : List ℕ) → Appends a b xs → Appends b c ys → Appends a c (xs ++ ys)
appends_more None b c xs ys first second = tt
appends_more (Some us) None c xs ys first second = absurd first
appends_more (Some us) (Some bs) None xs ys first second = absurd second
appends_more (Some us) (Some bs) (Some cs) xs ys first second = second ∙ (ap (λ front. front ++ ys) first ∙ append_assoc us xs ys)

pub appends_kept : (a b c : Option (List ℕ)) (xs : List ℕ) → Appends a b xs → Keeps b c → Appends a c xs
appends_kept None b c xs first second = tt
appends_kept (Some us) None c xs first second = absurd first
appends_kept (Some us) (Some bs) None xs first second = absurd second
appends_kept (Some us) (Some bs) (Some cs) xs first second = second ∙ first

pub appends_nothing : (a : Option (List ℕ)) → Appends a a []
appends_nothing None = tt
appends_nothing (Some us) = sym (append-nil us)

pub consumes_more : (a b c : Option (List ℕ)) (xs ys : List ℕ) → Consumes a b xs → Consumes b c ys → Consumes a c (xs ++ ys)
consumes_more None b c xs ys first second = tt
consumes_more (Some us) None c xs ys first second = absurd first
consumes_more (Some us) (Some bs) None xs ys first second = absurd second
consumes_more (Some us) (Some bs) (Some cs) xs ys first second = first ∙ (ap (λ rest. xs ++ rest) second ∙ sym (append_assoc xs ys cs))

pub consumes_nothing : (a : Option (List ℕ)) → Consumes a a []
consumes_nothing None = tt
consumes_nothing (Some us) = refl

-- where more than the limit came, the source had more than the limit
pub had_more : (left new : Option (List ℕ)) (taken : List ℕ) (limit : ℕ) → Consumes left new taken → limit < length taken → (known : List ℕ) × Had left known × (limit < length known)
had_more None new taken limit consumed more = (taken, tt, more)
had_more (Some known) None taken limit consumed more = absurd consumed
had_more (Some known) (Some rest) taken limit consumed more = (known, refl, omega (arith, ap length consumed, length-append taken rest))
