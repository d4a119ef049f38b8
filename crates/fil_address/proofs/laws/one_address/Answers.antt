use Rattle.fil_address.proofs.AddressReads.{read_if_spelled}
use Rattle.fil_address.proofs.OneAddress.{refused_is_no_address, same_addresses}
use Rattle.fil_address.proofs.laws.one_address.Goals as goal

pub returns-clause-one : goal.returns-clause-one
returns-clause-one c = same_addresses

pub returns-clause-accepted : goal.returns-clause-accepted
returns-clause-accepted c = refused_is_no_address

pub returns-clause-reading : goal.returns-clause-reading
returns-clause-reading c = read_if_spelled
