pub mod BoundaryLaws
pub mod CountLaws
pub mod EdgeBounds
pub mod FragmentLaws
pub mod IndexLaws
pub mod JoinLaws
pub mod LengthLaws
pub mod UniqueLaws
