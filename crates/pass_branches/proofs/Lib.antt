pub mod Bounded
pub mod Ends
pub mod Copies
pub mod Modes
pub mod Placed
pub mod Packing
pub mod Held
pub mod Fields
