use Rattle.fvm_run.proofs.scenario_line.write_state_fault.Goals as goal

pub returns : goal.returns
returns g c = rw (c.as_slice.ensures, c.as_bytes.ensures.value, c.format.ensures.text, c.state_kind_name.ensures) at c.write_pieces.ensures
