use Rattle.std.proofs.Common.{ap, arith, length}
use Rattle.dag_cbor.specs.Spelling.{head}
use Rattle.fil_message.proofs.ByteCounts.{message_length, string_is}
use Rattle.fil_message.proofs.lengths.message_len.Goals as goal

pub returns : goal.returns
returns c =
    let m = c.args.message.now in
    omega (
      arith,
      message_length m,
      string_is _ _ _ c.string_len-to.ensures.value c.address_len.ensures.value,
      string_is _ _ _ c.string_len-from.ensures.value c.address_len-2.ensures.value,
      string_is _ _ _ c.string_len-value.ensures.value c.amount_len.ensures.value,
      string_is _ _ _ c.string_len-cap.ensures.value c.amount_len-2.ensures.value,
      string_is _ _ _ c.string_len-premium.ensures.value c.amount_len-3.ensures.value,
      string_is _ _ _ c.string_len-params.ensures.value (ap length c.as_slice.ensures),
      c.head_len-nonce.ensures.value 0,
      c.head_len-limit.ensures.value 0,
      ap (λ n. length (head 0 n)) c.number.ensures,
      c.head_len-method.ensures.value 0,
    )
