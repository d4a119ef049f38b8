use Rattle.std.proofs.Common.{◌≡◌, ◌<◌, ℕ, List, IfErr, IfOk, subst, arith}
use Rattle.std.proofs.lemmas.List.Elements.{All-from_get_or}
use Rattle.fil_address.specs.AddressBytes.{IsAddress, address}
use Rattle.fil_address.specs.AddressFault.{IsBytesFault}
use Rattle.fil_address.proofs.AddressReads.{found_is_read, fault_is_none, first_and_rest}
use Rattle.fil_address.proofs.reading.from_bytes.Goals as goal

pub returns-clause-read : goal.returns-clause-read
returns-clause-read c =
    let below = All-from_get_or (λ byte. byte < 256) c.args.bytes.now 0 (λ i within. omega (arith, c.type_inv.bytes i)) in
    found_is_read c.args.bytes.now _ below (subst (λ (bytes : List ℕ). IfOk c.address_of.result (λ a. IsAddress a × (bytes ≡ address a)))
    (first_and_rest c.args.bytes.now c.in-len1-up.len_at_least) c.address_of.ensures.found)

pub returns-clause-none : goal.returns-clause-none
returns-clause-none c =
    let below = All-from_get_or (λ byte. byte < 256) c.args.bytes.now 0 (λ i within. omega (arith, c.type_inv.bytes i)) in
    fault_is_none c.args.bytes.now _ below (subst (λ (bytes : List ℕ). IfErr c.address_of.result (IsBytesFault bytes))
    (first_and_rest c.args.bytes.now c.in-len1-up.len_at_least) c.address_of.ensures.fault)
