mod Kept
mod Range
mod Usable
mod Weighed
