pub mod GasOutputs
