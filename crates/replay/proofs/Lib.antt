mod Spell
pub mod Fill
mod Same
mod Any
pub mod Told
