pub mod Chains
pub mod PlacedListLaws
pub mod PointLaws
pub mod PlaceLaws
pub mod Offsets
pub mod OneFault
pub mod Layouts
