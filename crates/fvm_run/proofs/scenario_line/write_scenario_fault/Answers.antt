use Rattle.fvm_run.proofs.scenario_line.write_scenario_fault.Goals as goal

pub returns-in-Limit : goal.returns-in-Limit
returns-in-Limit g c = rw c.in-Limit.is (rw c.from.ensures at c.write_number_line.ensures)

pub returns-in-Total : goal.returns-in-Total
returns-in-Total g c = rw c.in-Total.is (rw c.from-in-Total.ensures at c.write_number_line-in-Total.ensures)
