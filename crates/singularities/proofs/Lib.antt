pub mod Count
pub mod Small
