use Rattle.fil_base.proofs.Base32Text.{refused_is_no_text, same_texts}
use Rattle.fil_base.proofs.base32.one_base32_text.Goals as goal

pub returns-clause-one : goal.returns-clause-one
returns-clause-one c = same_texts

pub returns-clause-accepted : goal.returns-clause-accepted
returns-clause-accepted c = refused_is_no_text
