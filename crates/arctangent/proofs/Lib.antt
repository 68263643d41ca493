mod Arms
mod Shift
