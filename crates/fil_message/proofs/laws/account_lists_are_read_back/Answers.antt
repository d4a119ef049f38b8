use Rattle.fil_message.proofs.Form0Laws.{form_again, form_read}
use Rattle.fil_message.proofs.laws.account_lists_are_read_back.Goals as goal

pub returns : goal.returns
returns c = record {
  read = form_again;
  laid_out = form_read;
}
