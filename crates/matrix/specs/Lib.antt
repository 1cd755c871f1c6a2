pub mod Cells
pub mod Said
