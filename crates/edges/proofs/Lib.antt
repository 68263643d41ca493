pub mod TwoSlices
pub mod Tree
pub mod Stored
pub mod Numbering
pub mod Counts
pub mod Split
