pub mod Complex
pub mod Angle
pub mod Guidance
