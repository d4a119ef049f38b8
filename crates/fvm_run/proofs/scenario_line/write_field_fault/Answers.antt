use Rattle.fvm_run.proofs.scenario_line.write_field_fault.Goals as goal

pub returns : goal.returns
returns g c =
    rw (c.as_slice.ensures, c.letters_of.ensures, c.letters_of-2.ensures, c.letters_of-3.ensures, c.field_kind_name.ensures, c.as_bytes.ensures.value, c.format.ensures.text) at c.write_pieces.ensures
