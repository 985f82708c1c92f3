pub mod KeptLemmas
pub mod ChainLemmas
pub mod FoundLemmas
pub mod CleanLemmas
pub mod BlocksLemmas
pub mod MarkLemmas
pub mod OpeningLemmas
pub mod EmptyLemmas
mod RisingLemmas
pub mod ForgottenLemmas
pub mod SourcesLemmas
pub use Rattle.foyer_block_scan.proofs.IndexBytesLemmas
