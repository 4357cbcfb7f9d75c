pub mod AreaLaws
pub mod CutLaws
pub mod IndexLaws
pub mod MetLaws
pub mod SweptRect
