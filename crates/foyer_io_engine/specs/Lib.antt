pub mod Disk
pub mod MemoryFile
