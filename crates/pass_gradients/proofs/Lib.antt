pub mod Weights
pub mod Steps
pub mod Means
