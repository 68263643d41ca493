pub mod Guidance
pub mod Stored
pub mod Flag
pub mod Floor
pub mod Steps
pub mod Claim
