use Rattle.fil_address.proofs.OneText.{refused_is_no_address_text, same_address_texts}
use Rattle.fil_address.proofs.OneTextFault.{one_text_fault}
use Rattle.fil_address.proofs.laws.one_address_text.Goals as goal

pub returns-clause-one : goal.returns-clause-one
returns-clause-one c = same_address_texts

pub returns-clause-accepted : goal.returns-clause-accepted
returns-clause-accepted c = refused_is_no_address_text

pub returns-clause-one_fault : goal.returns-clause-one_fault
returns-clause-one_fault c = one_text_fault
