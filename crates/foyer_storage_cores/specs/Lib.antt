pub mod Sides
pub mod CoreLedgers
