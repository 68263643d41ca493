pub mod Consts
pub mod Kernel
pub mod Sine
pub mod Taken
