pub mod Call
pub mod Claim
pub mod Steps
pub mod Marks
