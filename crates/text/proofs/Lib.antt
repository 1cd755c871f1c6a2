pub mod Asked
pub mod Grids
pub mod Opened
pub mod Shown
pub mod Turns
