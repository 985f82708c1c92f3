pub mod Capacity
pub mod Combined
pub mod Extent
pub mod Paths
pub mod Region
pub mod Slot
pub mod Unlimited
