pub mod Charge
pub mod Count
