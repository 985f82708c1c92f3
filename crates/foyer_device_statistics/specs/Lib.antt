pub mod Counted
pub mod Metered
pub mod Placed
