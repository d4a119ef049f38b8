pub mod AddressBytes
pub mod AddressReading
pub mod AddressText
pub mod AddressFault
