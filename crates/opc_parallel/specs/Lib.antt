pub mod Stored
pub mod Conditions
pub mod Parts
