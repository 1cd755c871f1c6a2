pub mod Bytes
pub mod Reading
pub mod Saying
pub mod Laws
