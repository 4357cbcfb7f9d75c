pub mod ContourLaws
