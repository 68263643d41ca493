pub mod Row
pub mod Solve
