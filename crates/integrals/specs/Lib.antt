pub mod Consts
pub mod Integrals
pub mod Factors
