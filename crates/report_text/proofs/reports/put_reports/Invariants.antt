use Rattle.std.proofs.Common.{◌≡◌, ◌++◌, take}
use Rattle.std.specs.List.{flat_map, enumerate_from}
use Rattle.report_text.specs.Text.{tipset_text}
use Rattle.report_text.proofs.reports.put_reports.Given as goal

abbrev pub invariant-loop-place : goal.invariant-loop-place
invariant-loop-place l = l.text.items ≡ l.fn.text.items ++ flat_map tipset_text (enumerate_from 0 (take l.place l.reports))
