use Rattle.std.proofs.Common.{ap, arith, length}
use Rattle.fil_base.specs.Varint.{varint}
use Rattle.fil_address.proofs.AddressLengths.{length-address}
use Rattle.fil_message.proofs.ByteCounts.{bls_length, id_length, made_length, secp_length}
use Rattle.fil_message.proofs.lengths.address_len.Goals as goal

pub overflow_add-result : goal.overflow_add-result
overflow_add-result c =
    omega (arith, id_length c.args.address.now _ c.in-Id.is, length-address c.args.address.now c.requires, c.varint_len.ensures, ap (λ n. length (varint n)) c.number.ensures.value)

pub returns-in-Id-clause-value : goal.returns-in-Id-clause-value
returns-in-Id-clause-value c = omega (arith, id_length c.args.address.now _ c.in-Id.is, c.varint_len.ensures, ap (λ n. length (varint n)) c.number.ensures.value)

pub returns-in-Id-clause-small : goal.returns-in-Id-clause-small
returns-in-Id-clause-small c =
    omega (arith, id_length c.args.address.now _ c.in-Id.is, length-address c.args.address.now c.requires, c.varint_len.ensures, ap (λ n. length (varint n)) c.number.ensures.value)

pub returns-in-Secp-clause-value : goal.returns-in-Secp-clause-value
returns-in-Secp-clause-value c = secp_length c.args.address.now _ c.in-Secp.is c.requires

pub returns-in-Made-clause-value : goal.returns-in-Made-clause-value
returns-in-Made-clause-value c = made_length c.args.address.now _ c.in-Made.is c.requires

pub returns-in-Bls-clause-value : goal.returns-in-Bls-clause-value
returns-in-Bls-clause-value c = bls_length c.args.address.now _ c.in-Bls.is c.requires
