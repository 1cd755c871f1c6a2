pub mod Rows
pub mod Reduction
pub mod Blocks
