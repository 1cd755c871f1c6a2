pub mod Toggling
