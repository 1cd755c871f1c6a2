pub mod Readers
pub mod Lines
pub mod Printed
pub mod Laws
pub mod Texts
pub mod Refusals
