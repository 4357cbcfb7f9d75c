mod CornerSums
mod PowerSums
mod RectLaws
pub mod Vectors
pub mod WeightLaws
