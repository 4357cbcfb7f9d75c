pub mod Numbers
pub mod KernelFile
pub mod Faults
pub mod Heads
