pub mod Accesses
pub mod Opcodes
pub mod Ops
pub mod Signatures
pub mod Syscalls
