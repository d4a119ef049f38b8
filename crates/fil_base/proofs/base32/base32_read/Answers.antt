use Rattle.std.proofs.Common.{◌*◌, ◌<◌, ℕ, List, length, rules, subst, sym, ◌∙◌}
use Rattle.std.specs.Int.Digits.{number_from_digits}
use Rattle.std.proofs.lemmas.List.Elements.{All-same}
use Rattle.fil_base.specs.Base32.{IsBadLength}
use Rattle.fil_base.specs.Regroup.{Regroups}
use Rattle.fil_base.proofs.Base32Text.{read_found, values_below}
use Rattle.fil_base.proofs.base32.base32_read.Goals as goal

pub regrouped-requires-clause-items : goal.regrouped-requires-clause-items
regrouped-requires-clause-items c =
    All-same (λ (v : ℕ). v < 32) c.deref.result.now _ (c.deref.ensures.value ∙ c.in_ok-values.ensures.values) (values_below c.args.text.now c.in_ok-values.ensures.letters)

pub returns-clause-found : goal.returns-clause-found
returns-clause-found c =
    let good : IsBadLength (length c.args.text.now) → ⊥ = search rules in
    let P = λ (bytes : List ℕ). Regroups (number_from_digits 32 c.deref.result.now) (5 * length c.deref.result.now) 8 bytes c.in_ok-bytes.pending.bits c.in_ok-bytes.pending.count in
    read_found c.args.text.now c.deref.result.now c.of.result c.in_ok-bytes.pending.bits c.in_ok-bytes.pending.count good c.in_ok-values.ensures.letters (c.deref.ensures.value ∙ c.in_ok-values.ensures.values) (subst P (sym c.of.ensures) c.in_ok-bytes.ensures.regroups) c.in_ok-bytes.ensures.few c.if-spare-ne0.false
