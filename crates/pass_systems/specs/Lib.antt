pub mod Systems
pub mod Work
