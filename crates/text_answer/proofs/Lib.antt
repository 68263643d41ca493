pub mod Stores
mod Call
pub mod Whole
pub mod Listing
pub mod Fit
