pub mod StepLaws
pub mod JointLaws
pub mod WindowLaws
pub mod TableLaws
pub mod UniqueLaws
pub mod FollowLaws
pub mod OpenLaws
