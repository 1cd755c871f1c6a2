pub mod Taken
pub mod Changed
pub mod Told
pub mod Rewired
pub mod Places
