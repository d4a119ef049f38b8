-- Sections that have one entry at most.
use Rattle.std.specs.Prelude.{ℕ, List, nat_lt}
use Rattle.wasm_decode.specs.declared.fault.WasmKind.TheVariants as kinds
use Rattle.wasm_decode.specs.ReadingValues.{u32_at}
use Rattle.wasm_decode.specs.Stops.{◌>>=◌, Found, unless}

-- a number of items that is at most 1
abbrev pub single_count_at : List ℕ → Found ℕ
single_count_at bytes = u32_at bytes >>= λ n. unless (nat_lt 1 n.0) kinds.Unsupported bytes n
