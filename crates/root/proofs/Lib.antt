pub mod Laws
pub mod Value
pub mod Small
pub mod Theorem
pub mod Positive
