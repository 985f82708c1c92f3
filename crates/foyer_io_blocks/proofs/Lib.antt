pub mod BlockPlaces
pub mod PartitionLemmas
