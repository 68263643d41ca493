pub mod Orientation
pub mod Sound
