pub mod Floats
pub mod Loops
pub mod Product
pub mod Shift
pub mod Elsewhere
