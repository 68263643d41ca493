pub mod Weights
pub mod Probe
