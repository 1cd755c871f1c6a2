pub mod Readings
pub mod Packing
pub mod Answering
