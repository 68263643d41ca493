pub mod Points
pub mod Lay
pub mod First
