use Rattle.init_names.proofs.NameForms.{secp_named, made_named, bls_named}
use Rattle.init_names.proofs.name.is_named.Goals as goal

pub returns-in-Secp : goal.returns-in-Secp
returns-in-Secp c = secp_named c.args.address.now c.in-Secp.hash c.in-Secp.is c.has_length.ensures

pub returns-in-Made : goal.returns-in-Made
returns-in-Made c = made_named c.args.address.now c.in-Made.hash c.in-Made.is c.has_length-in-Made.ensures

pub returns-in-Bls : goal.returns-in-Bls
returns-in-Bls c = bls_named c.args.address.now c.in-Bls.key c.in-Bls.is c.has_length-in-Bls.ensures
