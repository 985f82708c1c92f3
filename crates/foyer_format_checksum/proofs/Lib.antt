pub mod Vectors32
pub mod Vectors64
