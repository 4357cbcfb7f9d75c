pub mod Points
pub mod Windows
