pub mod IndexBytesLemmas
pub mod WalkLemmas
pub mod RunLemmas
pub mod ScanLemmas
