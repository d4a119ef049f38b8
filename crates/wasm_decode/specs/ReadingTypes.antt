-- Reading types.
use Rattle.std.specs.Prelude.{ℕ, List, Bool, ◌||◌, nat_lt, ◌==◌, if◌then◌else◌, Ok, Option, Some, None}
use Rattle.wasm_types.specs.declared.val_type.ValType.{ValType}
use Rattle.wasm_types.specs.declared.val_type.ValType.TheVariants.{I32, I64}
use Rattle.wasm_types.specs.declared.func_type.FuncType.{FuncType}
use Rattle.wasm_types.specs.declared.raw_module.Limits.{Limits}
use Rattle.wasm_types.specs.declared.limits.TheConstants.{MOST_PARAMS}
use Rattle.wasm_decode.specs.declared.fault.WasmKind.{WasmKind}
use Rattle.wasm_decode.specs.declared.fault.WasmKind.TheVariants as kinds
use Rattle.wasm_decode.specs.ReadingValues.{byte_at, count_at, u32_at, vector_at}
use Rattle.wasm_decode.specs.Stops.{◌>>=◌, Found, refused, unless}

-- what is wrong with a byte that is no type here
abbrev pub no_type : ℕ → WasmKind
no_type byte = if byte == 0x7d || byte == 0x7c then kinds.Float else kinds.Unsupported

-- a byte as a type of values
abbrev pub as_value_type : List ℕ → ℕ × List ℕ → Found ValType
as_value_type bytes (byte, rest) =
    if byte == 0x7f then Ok (I32, rest) else (if byte == 0x7e then Ok (I64, rest) else refused (no_type byte) bytes)

-- a type of values
unfoldable pub value_type_at : List ℕ → Found ValType
value_type_at bytes = byte_at bytes >>= as_value_type bytes

-- a result
abbrev pub with_result : ValType × List ℕ → Found (Option ValType)
with_result (t, rest) = Ok (Some t, rest)

-- a byte as the type of a block
abbrev pub as_block_type : List ℕ → ℕ × List ℕ → Found (Option ValType)
as_block_type bytes (byte, rest) =
    if byte == 0x40 then Ok (None, rest) else as_value_type bytes (byte, rest) >>= with_result

-- the type of a block
unfoldable pub block_type_at : List ℕ → Found (Option ValType)
block_type_at bytes = byte_at bytes >>= as_block_type bytes

-- the results of a type of functions, of which there is one at most
abbrev pub results_behind : List ℕ → ℕ × List ℕ → Found (Option ValType)
results_behind bytes (n, rest) =
    if nat_lt 1 n then refused kinds.Unsupported bytes
    else (if n == 0 then Ok (None, rest) else value_type_at rest >>= with_result)

-- the same behind their number
unfoldable pub results_at : List ℕ → Found (Option ValType)
results_at bytes = u32_at bytes >>= results_behind bytes

-- parameters and results
abbrev pub params_at : List ℕ → Found FuncType
params_at bytes =
    vector_at MOST_PARAMS value_type_at bytes >>= λ params. results_at params.1
    >>= λ results. Ok (record { params = params.0; result = results.0 }, results.1)

-- a type of functions
unfoldable pub func_type_at : List ℕ → Found FuncType
func_type_at bytes = byte_at bytes >>= λ form. if form.0 == 0x60 then params_at form.1 else refused kinds.Form bytes

-- a byte that is 0 or 1
unfoldable pub switch_at : List ℕ → Found Bool
switch_at bytes = byte_at bytes >>= λ b. unless (nat_lt 1 b.0) kinds.Form bytes (b.0 == 1, b.1)

-- the greatest size, which is not below the least one and at most `most`
abbrev pub greatest_at : ℕ → ℕ → List ℕ → Found Limits
greatest_at most least bytes =
    u32_at bytes >>= λ greatest. unless (nat_lt greatest.0 least || nat_lt most greatest.0) kinds.Form bytes
    (record { least = least; greatest = Some greatest.0 }, greatest.1)

-- the limits of a size that is at most `most_first` at first, and at most `most` at all
unfoldable pub limits_at : ℕ → ℕ → List ℕ → Found Limits
limits_at most_first most bytes =
    switch_at bytes >>= λ flag. count_at most_first flag.1 >>= λ least.
    (if flag.0 then greatest_at most least.0 least.1 else Ok (record { least = least.0; greatest = None }, least.1))
