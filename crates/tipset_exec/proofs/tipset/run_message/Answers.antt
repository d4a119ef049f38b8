use Rattle.std.proofs.Common.{◌≡◌, ◌+◌, length, List, ℕ, subst, sym, ap, ◌∙◌, arith}
use Rattle.std.specs.Prelude.{bytes_eq}
use Rattle.std.specs.List.{list_any}
use Rattle.fil_message.specs.Layout.{message_spelling}
use Rattle.tipset_exec.specs.Messages.{applied}
use Rattle.tipset_exec.specs.Progress.{StandsFor}
use Rattle.tipset_exec.specs.Tipsets.{with_message}
use Rattle.tipset_exec.proofs.Applying.{applied_funded}
use Rattle.tipset_exec.proofs.Coming.{came_more, came_test}
use Rattle.tipset_exec.proofs.Funded.{tips_within}
use Rattle.tipset_exec.proofs.ProgressSteps.{recorded}
use Rattle.tipset_exec.proofs.RunSteps.{message_again, message_new}
use Rattle.tipset_exec.proofs.tipset.run_message.Goals as goal

pub returns-then-contains : goal.returns-then-contains
returns-then-contains c = λ run stands.
    let bytes : c.as_slice.result.now ≡ message_spelling c.args.message.now = c.as_slice.ensures ∙ c.in_ok-encoding.ensures in
    let test = ap (λ (b : List ℕ). list_any (bytes_eq b) run.came) (sym bytes) ∙ came_test c.args.progress.now.came.keys run.came c.as_slice.result.now c.contains.result stands.came c.contains.ensures ∙ c.if-contains.true in
    subst (StandsFor c.args.progress.now c.args.base.now) (sym (message_again c.args.rules.now c.args.tipset.now c.args.place.block run c.args.place.message c.args.message.now test)) stands

pub apply-requires-clause-funded : goal.apply-requires-clause-funded
apply-requires-clause-funded c = let r = c.requires.funded in (r.0.state, r.1, r.0.tips, r.2.ledger, r.3)

pub apply-requires-clause-size : goal.apply-requires-clause-size
apply-requires-clause-size c = ap length (c.as_slice-size.ensures ∙ c.in_ok-encoding.ensures)

pub record-requires : goal.record-requires
record-requires c =
    let r = c.requires.funded in
    let rules = c.args.rules.now in
    let done = applied rules c.args.tipset.now r.0.state c.args.message.now in
    let funded = (applied_funded rules c.args.tipset.now r.0.state c.args.message.now r.1 r.0.tips r.3).state in
    let is = c.in_ok-outcome.ensures r.0.state r.2.ledger in
    omega (arith, tips_within rules.codes.account done.state 0 r.1 (done.tip + r.0.tips) funded, is.tip, r.2.tips)

pub returns : goal.returns
returns c = λ run stands.
    let m = c.args.message.now in
    let bytes : c.as_slice.result.now ≡ message_spelling m = c.as_slice.ensures ∙ c.in_ok-encoding.ensures in
    let test = ap (λ (b : List ℕ). list_any (bytes_eq b) run.came) (sym bytes) ∙ came_test c.args.progress.now.came.keys run.came c.as_slice.result.now c.contains.result stands.came c.contains.ensures ∙ c.if-contains.false in
    let new = message_new c.args.rules.now c.args.tipset.now c.args.place.block run c.args.place.message m test in
    let is = c.in_ok-outcome.ensures run.state stands.ledger in
    let key : c.into_vec.result.items ≡ message_spelling m = c.into_vec.ensures ∙ c.in_ok-encoding.ensures in
    let r = c.record.ensures in
    let came = came_more c.args.progress.now.came.keys c.record.new.self.came.keys run.came c.into_vec.result (message_spelling m) stands.came key (ap (λ (set : _). set.keys) r.came ∙ c.in_ok-insert.ensures.keys) in
    recorded c.record.result c.args.progress.now c.record.new.self c.apply.new.ledger c.args.base.now run (with_message c.args.rules.now c.args.tipset.now c.args.place.block run c.args.place.message m) c.args.place.block c.args.place.message m
    c.in_ok-outcome.outcome (applied c.args.rules.now c.args.tipset.now run.state m) stands is new came r.ledger r.lines r.tips r.penalties
