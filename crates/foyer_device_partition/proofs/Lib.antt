pub mod CombinedLemmas
pub mod DropLemmas
pub mod EmptyLemmas
pub mod FilesLemmas
pub mod LaidLemmas
pub mod RegionLemmas
