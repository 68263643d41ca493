pub mod Flat
mod Given
