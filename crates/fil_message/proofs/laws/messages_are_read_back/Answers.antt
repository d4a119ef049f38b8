use Rattle.fil_message.proofs.MessageLaws.{message_again, message_read, one_message}
use Rattle.fil_message.proofs.laws.messages_are_read_back.Goals as goal

pub returns : goal.returns
returns c = record {
  read = message_again;
  laid_out = message_read;
  one_spelling = one_message;
}
