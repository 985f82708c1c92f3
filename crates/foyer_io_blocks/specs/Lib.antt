pub mod Partitions
