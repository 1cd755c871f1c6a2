pub mod Kept
pub mod Reduce
pub mod Clear
pub mod Joins
pub mod Laws
pub mod Places
