use Rattle.std.proofs.Common.{length, refl}
use Rattle.std.proofs.lemmas.Option.{slice_get_past, slice_get_read, slice_get_within}
use Rattle.wasm_types.specs.Syscalls.{syscalls}
use Rattle.wasm_decode.proofs.Imports.{no_type_found, type_judged}
use Rattle.wasm_decode.proofs.import.has_type.Goals as goal

pub syscall_signature-requires : goal.syscall_signature-requires
syscall_signature-requires c = slice_get_within syscalls c.args.number c.requires.known.0 c.requires.known.1

pub returns-in-None : goal.returns-in-None
returns-in-None c = no_type_found _ _ c.requires.known.0 c.requires.known.1 (slice_get_past c.args.types.now c.args.index c.in-None.ensures.lookup.3)

pub returns-in-Some : goal.returns-in-Some
returns-in-Some c =
    type_judged _ _ c.requires.known.0 _ c.in-Some.func_type.now c.is_type.result c.requires.known.1 (slice_get_read c.args.types.now (length c.args.types.now) c.args.index c.in-Some.func_type.now refl c.in-Some.ensures.lookup.3.0 c.in-Some.ensures.lookup.1) (c.syscall_signature.ensures c.requires.known.0 c.requires.known.1) c.is_type.ensures.exact
