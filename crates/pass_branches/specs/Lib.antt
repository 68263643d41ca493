pub mod Branches
pub mod Work
