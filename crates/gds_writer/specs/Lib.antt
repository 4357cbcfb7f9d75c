pub mod MaskFile
pub mod MaskLibrary
pub mod Expansion
pub mod Faultless
pub mod Outlines
