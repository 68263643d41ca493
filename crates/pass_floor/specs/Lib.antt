pub mod Planes
pub mod Lay
pub mod First
