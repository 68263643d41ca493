pub mod Lines
pub mod Strict
