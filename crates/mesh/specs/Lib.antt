pub mod Mesh
pub mod Claim
pub mod Area
pub mod Points
pub mod AreaClaim
