pub mod Checks
pub mod Floor
