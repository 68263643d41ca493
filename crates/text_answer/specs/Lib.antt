pub mod Lines
pub mod Listing
pub mod Printed
pub mod Steps
