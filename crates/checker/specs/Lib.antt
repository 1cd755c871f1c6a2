pub mod Replies
pub mod Held
pub mod Texts
