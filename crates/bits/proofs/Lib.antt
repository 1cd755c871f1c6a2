pub mod Words
pub mod Counts
pub mod Rows
pub mod Lowest
