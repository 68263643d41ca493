pub mod Stands
pub mod Runs
pub mod Triangles
pub mod Parts
pub mod Flags
pub mod Claim
