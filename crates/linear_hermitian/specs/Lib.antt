pub mod Hermitian
pub mod Work
