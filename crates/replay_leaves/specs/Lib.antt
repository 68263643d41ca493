pub mod Leaves
