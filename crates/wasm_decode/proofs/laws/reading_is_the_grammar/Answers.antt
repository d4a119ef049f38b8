use Rattle.wasm_decode.proofs.ModuleLaws.{spelled_is_read, read_is_spelled}
use Rattle.wasm_decode.proofs.laws.reading_is_the_grammar.Goals as goal

pub returns : goal.returns
returns c = λ bytes raw. (read_is_spelled bytes raw, spelled_is_read bytes raw)
