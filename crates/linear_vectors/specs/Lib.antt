pub mod Vectors
pub mod Work
pub mod Residual
pub mod ResidualWork
