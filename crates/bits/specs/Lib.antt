pub mod Bits
pub mod Said
