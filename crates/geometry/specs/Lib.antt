pub mod Triangle
pub mod Edge
