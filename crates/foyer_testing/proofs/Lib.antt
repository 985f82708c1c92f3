pub mod Shapes
pub mod Ticks
