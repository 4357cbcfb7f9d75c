pub mod LeftOutLaws
mod LimitLaws
mod MergeLaws
pub mod RegionLaws
mod SignLaws
mod WindowLaws
