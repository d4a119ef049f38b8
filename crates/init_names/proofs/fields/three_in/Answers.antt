use Rattle.cbor_fields.specs.Readers.{list_of}
use Rattle.init_names.proofs.StateParts.{items_plain, read_there}
use Rattle.init_names.proofs.fields.three_in.Goals as goal

pub returns-in-Ok-clause-plain : goal.returns-in-Ok-clause-plain
returns-in-Ok-clause-plain c = λ plain. items_plain 127 3 c.args.value.now c.in-Ok.items.now (read_there 0 (list_of c.args.value.now 3) c.in-Ok.items.now c.in-Ok.ensures.found) plain
