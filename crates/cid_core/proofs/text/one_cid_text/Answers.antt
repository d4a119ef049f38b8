use Rattle.cid_core.proofs.CidTexts.{one_text, text_is_accepted}
use Rattle.cid_core.proofs.text.one_cid_text.Goals as goal

pub returns-clause-one : goal.returns-clause-one
returns-clause-one c = one_text

pub returns-clause-accepted : goal.returns-clause-accepted
returns-clause-accepted c = text_is_accepted
