pub mod Memory
pub mod Adding
pub mod Unit
