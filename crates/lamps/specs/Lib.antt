pub mod Lamps
pub mod Calls
pub mod Promise
pub mod Boards
