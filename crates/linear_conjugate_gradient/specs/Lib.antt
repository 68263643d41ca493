pub mod Found
pub mod Method
pub mod Solve
pub mod Answer
pub mod Work
