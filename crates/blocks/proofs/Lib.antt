pub mod Search
pub mod Table
pub mod Swept
pub mod Reduce
pub mod Whole
