pub mod Tiles
pub mod Meets
pub mod Keys
pub mod Places
pub mod Index
