pub mod CrossCorners
