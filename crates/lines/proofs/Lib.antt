pub mod Steps
pub mod Forms
pub mod Sound
pub mod Back
pub mod Cut
