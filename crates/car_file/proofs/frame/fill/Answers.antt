use Rattle.std.proofs.Common.{◌<◌, length, ◌++◌, List, ℕ, refl, sym, subst, arith}
use Rattle.std.proofs.Math.Seq.{take-length}
use Rattle.car_file.specs.CarFault.{IsCut}
use Rattle.car_file.proofs.FrameLemmas.{all_moved, kept_more, none_left, nothing_behind}
use Rattle.car_file.proofs.Framing.{framed_not_cut}
use Rattle.car_file.proofs.frame.fill.Goals as goal

pub loop-rest-init : goal.loop-rest-init
loop-rest-init c = record {
  all = refl;
  just = λ cut content rest f. absurd (framed_not_cut _ content rest f cut);
  kept = take-length c.args.begun.now.items;
}

pub returns-then-count-eq0-clause-used : goal.returns-then-count-eq0-clause-used
returns-then-count-eq0-clause-used c = λ cut.
    let some = c.missing.ensures.some (subst IsCut (sym c.as_slice.ensures.value) cut) in
    none_left c.loop-rest.rest.now (omega (arith, some))

pub loop-rest-preserved : goal.loop-rest-preserved
loop-rest-preserved c =
    let now = c.loop-rest.begun.items in
    let front = c.split_at.result.0.now in
    let still = λ (m : List ℕ) (h : length m < c.missing.result). subst (λ (b : List ℕ). IsCut (b ++ m)) c.as_slice.ensures.value (c.missing.ensures.still m h) in
    rw c.in_ok-extend_from_slice.ensures.items (record {
      all = all_moved c.args.begun.now.items now c.loop-rest.rest.now front _ _ _ c.split_at.ensures.front c.split_at.ensures.back c.loop-rest.invariant.all;
      just = λ cut. nothing_behind now front c.missing.result still (omega arith) (omega arith);
      kept = kept_more c.args.begun.now.items now front c.loop-rest.invariant.kept;
    })
