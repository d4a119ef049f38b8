use Rattle.scenario_form.specs.Spelled.{the_value}
use Rattle.scenario_form.proofs.Ranges.{scenario_good}
use Rattle.scenario_form.proofs.reading.outline_under.Goals as goal

pub returns-in-Ok-clause-found : goal.returns-in-Ok-clause-found
returns-in-Ok-clause-found c =
    let found = c.in-Ok.ensures.found in
    (found.0, found.1, scenario_good (the_value c.in_ok-bytes.bytes.now) _ c.in_ok-bytes.ensures.part.part found.2, (the_value c.in_ok-bytes.bytes.now, c.in_ok-bytes.ensures.found, found.2))
