pub mod Consts
pub mod Arc
