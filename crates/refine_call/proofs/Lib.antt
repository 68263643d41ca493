pub mod Claim
pub mod Facts
pub mod Lists
pub mod Marking
pub mod Midpoints
pub mod Splitting
