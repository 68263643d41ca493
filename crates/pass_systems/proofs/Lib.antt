pub mod Inside
pub mod Made
