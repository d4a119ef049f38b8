use Rattle.std.proofs.Common.{List, Bor, ℕ, ap, length, ◌∙◌}
use Rattle.scenario_form.proofs.TipsetTexts.{spelled_count}
use Rattle.scenario_form.proofs.spelled_scenario.SpelledScenario.len.Goals as goal

pub returns : goal.returns
returns c = λ tipsets is. ap (λ (l : List (Bor (List ℕ))). length l) c.as_slice.ensures.value ∙ spelled_count c.args.self.now tipsets is
