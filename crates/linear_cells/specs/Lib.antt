pub mod Iter
pub mod Region
pub mod Cell
pub mod Spans
