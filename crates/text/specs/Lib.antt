pub mod Memory
pub mod Lines
pub mod Board
pub mod Transcript
