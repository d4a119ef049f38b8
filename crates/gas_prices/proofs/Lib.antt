pub mod Table
pub mod OneFault
