pub mod Corners
pub mod Disjoint
pub mod Pairs
