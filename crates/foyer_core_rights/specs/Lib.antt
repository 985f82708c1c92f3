pub mod Deeds
pub mod Frames
pub mod Serving
