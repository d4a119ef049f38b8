use Rattle.std.proofs.Common.{◌++◌, ap, subst, sym, ◌∙◌}
use Rattle.fil_base.specs.CidParts.{CidParts}
use Rattle.hamt_map.specs.Canonical.{has_canonical_form}
use Rattle.hamt_map.specs.Holds.{Holds}
use Rattle.hamt_map.proofs.Judged.{built_put, judged_at_once}
use Rattle.hamt_map.proofs.loading.judge.Goals as goal

pub returns-then-branch-clause-found : goal.returns-then-branch-clause-found
returns-then-branch-clause-found c = λ held m read.
    judged_at_once held c.args.below c.args.block.now c.args.bits.now c.args.places c.args.start c.args.leaves.now.items m read c.cid.ensures.block
    (sym (ap (λ (cid : CidParts). has_canonical_form c.args.places c.args.bits.now cid) c.cid.ensures.value) ∙ sym c.in_ok-has_canonical_form.ensures ∙ c.if-branch.true)

pub returns-clause-found : goal.returns-clause-found
returns-clause-found c = λ blocks m read.
    let same = c.in_ok-own.ensures.tail ∙ read.same in
    let held = subst (Holds c.in_ok-pairs.pairs) (sym read.map) (c.in_ok-pairs.ensures read.pairs (c.as_slice.ensures.value ∙ same) read.fit) in
    let put = c.in_ok-put_once.ensures read.pairs (c.as_slice-2.ensures.value ∙ same) read.fit in
    built_put blocks c.args.below _ m put.0 _ c.put_once.new.leaves.items (c.in_ok-judge_anew.ensures.found m held) (subst (Holds put.0) (sym read.map) put.2) (put.1 ∙ ap (λ xs. xs ++ put.0) c.in_ok-own.ensures.items)
