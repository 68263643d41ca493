pub mod Layout
pub mod Matrices
pub mod Work
