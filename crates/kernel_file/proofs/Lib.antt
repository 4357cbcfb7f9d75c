pub mod Places
pub mod Firsts
pub mod HeadLemmas
pub mod Bounds
