use Rattle.std.proofs.Common.{length, map, take, List, subst, sym, ap, ◌∙◌, arith}
use Rattle.std.proofs.lemmas.List.{take_all}
use Rattle.std.specs.Prelude.{All, sum}
use Rattle.fil_message.specs.Tipsets.{IsTipBlock}
use Rattle.fil_message.specs.declared.tipset.TipBlock.{TipBlock}
use Rattle.tipset_exec.specs.Funds.{IsFunded}
use Rattle.tipset_exec.specs.Progress.{StandsFor}
use Rattle.tipset_exec.specs.Tipsets.{begun, with_blocks}
use Rattle.tipset_exec.proofs.RunSteps.{blocks_more, funded_at, no_blocks}
use Rattle.tipset_exec.proofs.tipset.run_tipset.Goals as goal

pub loop-i-init : goal.loop-i-init
loop-i-init c = λ s stands. subst (StandsFor c.begin-progress.result c.args.base.now) (sym (no_blocks c.args.rules.now c.args.tipset.now (begun s))) (c.begin-progress.ensures c.args.base.now s stands)

pub overflow_cast-i : goal.overflow_cast-i
overflow_cast-i c = omega (arith, c.loop-i-test.true, ap length c.as_slice-blocks.ensures, c.requires.tipset.count)

pub run_block-requires-clause-funded : goal.run_block-requires-clause-funded
run_block-requires-clause-funded c =
    let r = c.requires.funded in
    let rules = c.args.rules.now in
    let t = c.args.tipset.now in
    let blocks = c.as_slice-blocks.result.now in
    let due = subst (λ (bs : List TipBlock). IsFunded rules.codes.account r.0 0 (sum (map (λ b. b.award) bs)) 0) (sym c.as_slice-blocks.ensures) r.2 in (
      with_blocks rules t (begun r.0) 0 (take c.loop-i.i blocks),
      0,
      c.loop-i.invariant r.0 r.1,
      funded_at rules t (begun r.0) blocks c.loop-i.i c.index-blocks-i.result c.loop-i-test.true c.index-blocks-i.is due,
    )

pub run_block-requires-clause-block : goal.run_block-requires-clause-block
run_block-requires-clause-block c =
    let all = subst (All IsTipBlock) (sym c.as_slice-blocks.ensures) c.requires.tipset.blocks in
    subst IsTipBlock (sym c.index-blocks-i.is) (all c.loop-i.i c.index-blocks-i.result c.loop-i-test.true)

pub loop-i-preserved : goal.loop-i-preserved
loop-i-preserved c = λ s stands.
    let rules = c.args.rules.now in
    let t = c.args.tipset.now in
    let blocks = c.as_slice-blocks.result.now in
    let front = with_blocks rules t (begun s) 0 (take c.loop-i.i blocks) in
    subst (StandsFor c.run_block.new.progress c.args.base.now) (sym (blocks_more rules t (begun s) blocks c.loop-i.i c.index-blocks-i.result c.loop-i-test.true c.index-blocks-i.is))
    (c.in_ok-run_block.ensures front (c.loop-i.invariant s stands))

pub returns : goal.returns
returns c = λ s stands.
    let all = take_all c.loop-i.i c.as_slice-blocks.result.now (omega (arith, c.loop-i-test.false)) ∙ c.as_slice-blocks.ensures in
    subst (λ (front : List TipBlock). StandsFor c.loop-i.progress c.args.base.now (with_blocks c.args.rules.now c.args.tipset.now (begun s) 0 front)) all (c.loop-i.invariant s stands)
