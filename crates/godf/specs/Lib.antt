pub mod Answers
pub mod Product
pub mod Report
pub mod Solve
pub mod Version
