pub mod Lays
pub mod Passes
pub mod Iterations
pub mod Runs
pub mod Mass
pub mod Method
