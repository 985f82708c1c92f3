pub mod Shapes
pub mod Refusals
