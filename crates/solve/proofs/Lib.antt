pub mod Placing
pub mod Boards
