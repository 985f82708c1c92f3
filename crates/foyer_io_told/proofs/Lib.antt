pub mod ToldBytes
pub mod ToldAccessLemmas
pub mod ToldReads
pub mod ToldWrites
