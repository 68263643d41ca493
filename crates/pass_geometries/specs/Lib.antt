pub mod Geometries
pub mod Work
