use Rattle.scenario_form.proofs.TipsetTexts.{ranges_again, read_again}
use Rattle.scenario_form.proofs.reading.read_scenario.Goals as goal

pub all_tipsets-requires : goal.all_tipsets-requires
all_tipsets-requires c = (c.in_ok-text.ensures.found.0, c.in_ok-text.ensures.found.1.spelled)

pub returns-clause-found : goal.returns-clause-found
returns-clause-found c =
    let found = c.in_ok-text.ensures.found in
    read_again c.args.base.now c.args.root.now c.in_ok-text.text found.0 c.in_ok-tipsets.tipsets found.1 (c.in_ok-tipsets.ensures found.0 found.1.spelled)

pub returns-clause-ranges : goal.returns-clause-ranges
returns-clause-ranges c =
    let found = c.in_ok-text.ensures.found in
    ranges_again c.args.base.now c.args.root.now c.in_ok-text.text found.0 c.in_ok-tipsets.tipsets found.1 (c.in_ok-tipsets.ensures found.0 found.1.spelled)
