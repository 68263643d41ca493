pub mod Gradients
pub mod Work
