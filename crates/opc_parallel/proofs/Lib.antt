pub mod PartLaws
pub mod StoredLaws
pub mod SeenLaws
pub mod SmallLaws
pub mod CostLaws
