pub mod Vectors
pub mod Xxh32
pub mod Xxh64
