pub mod HoldLaws
pub mod SweepLaws
pub mod FillLaws
pub mod WalkLaws
pub mod UniqueLaws
pub mod RunLaws
