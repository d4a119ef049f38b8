use Rattle.std.proofs.Common.{arith}
use Rattle.report_text.specs.Text.{tipset_text}
use Rattle.report_text.proofs.Lines.{part_put}
use Rattle.report_text.proofs.reports.put_reports.Goals as goal

pub loop-place-preserved : goal.loop-place-preserved
loop-place-preserved c = part_put tipset_text _ _ _ c.args.reports.now _ _ (omega arith) c.index-reports-place.is c.loop-place.invariant c.in_ok-put_report.ensures
