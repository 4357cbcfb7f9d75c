pub mod BoxLaws
pub mod BarLaws
pub mod LineLaws
pub mod KeptRules
pub mod UnionLaws
pub mod CutLaws
pub mod OwnLaws
pub mod CountLaws
