pub mod Contour
