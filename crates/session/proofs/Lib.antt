pub mod Parts
pub mod Runs
