pub mod Lines
pub mod Tracks
pub mod Flights
pub mod Draws
pub mod Lids
pub mod StoreRuns
pub mod QueuedFound
