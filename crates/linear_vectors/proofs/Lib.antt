pub mod Zip
pub mod Inverses
pub mod Directions
pub mod Scale
pub mod Sweeps
pub mod Residuals
