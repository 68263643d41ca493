pub mod Lowest
pub mod Order
pub mod Rows
