use Rattle.std.proofs.Common.{◌<◌, refl, arith}
use Rattle.std.proofs.lemmas.Bool.{false≢true}
use Rattle.std.proofs.lemmas.Result.{err_from_is_err_and}
use Rattle.std.proofs.lemmas.List.Elements.{All-from_get_or}
use Rattle.fil_address.proofs.Cuts.{cut_at}
use Rattle.fil_address.proofs.TextFaults.{no_checksum, bad_payload, bad_checksum, checked}
use Rattle.fil_address.proofs.parsing.checked_address.Goals as goal

pub returns-in_default-clause-fault : goal.returns-in_default-clause-fault
returns-in_default-clause-fault c =
    let below = All-from_get_or (λ byte. byte < 256) c.args.bytes.now 0 (λ i within. omega (arith, c.type_inv.bytes i)) in
    no_checksum c.args.protocol c.args.bytes.now c.requires.low c.requires.high below c.in_default.ensures.cases

pub returns-in_err-address-clause-fault : goal.returns-in_err-address-clause-fault
returns-in_err-address-clause-fault c =
    let p = err_from_is_err_and c.from_residual.result c.from_residual.ensures.1 in
    let below = All-from_get_or (λ byte. byte < 256) c.args.bytes.now 0 (λ i within. omega (arith, c.type_inv.bytes i)) in
    rw (p.1, p.2) (bad_payload c.args.protocol c.in-Some.payload.now c.args.bytes.now _ c.requires.low c.requires.high c.in_err-address.ensures.fault below c.in-Some.ensures.cases.2)

pub returns-then-not-is_checksum-clause-fault : goal.returns-then-not-is_checksum-clause-fault
returns-then-not-is_checksum-clause-fault c =
    let below = All-from_get_or (λ byte. byte < 256) c.args.bytes.now 0 (λ i within. omega (arith, c.type_inv.bytes i)) in
    let parts = c.in-Some.ensures.cases in
    let cut = cut_at c.args.bytes.now c.in-Some.payload.now c.in-Some.sum.now _ below parts.0 parts.1 parts.2 in
    let good = c.in_ok-address.ensures.found in
    bad_checksum c.args.protocol c.in-Some.payload.now c.in-Some.sum.now c.args.bytes.now c.in_ok-address.address c.requires.low good.0 good.1 cut (λ same. false≢true (c.if-not-is_checksum.ensures.1 same))

pub returns-clause-found : goal.returns-clause-found
returns-clause-found c =
    let below = All-from_get_or (λ byte. byte < 256) c.args.bytes.now 0 (λ i within. omega (arith, c.type_inv.bytes i)) in
    let parts = c.in-Some.ensures.cases in
    let cut = cut_at c.args.bytes.now c.in-Some.payload.now c.in-Some.sum.now _ below parts.0 parts.1 parts.2 in
    let good = c.in_ok-address.ensures.found in
    checked c.args.protocol c.in-Some.payload.now c.in-Some.sum.now c.args.bytes.now c.in_ok-address.address c.requires.low good.0 good.1 cut (c.if-not-is_checksum.ensures.0 refl)
