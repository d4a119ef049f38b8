use Rattle.std.proofs.Common.{subst, sym}
use Rattle.dag_cbor.specs.Plain.{IsPlain}
use Rattle.fil_message.proofs.Plain.{plain_message}
use Rattle.fil_message.proofs.codec.message_bytes.Goals as goal

pub encode-requires : goal.encode-requires
encode-requires c = subst (IsPlain 128) (sym c.in_ok-value.ensures) (plain_message c.args.message.now c.requires)
