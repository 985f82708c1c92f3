pub mod BlobLemmas
pub use Rattle.foyer_format_record.proofs.HeaderLemmas
pub use Rattle.foyer_format_record.proofs.RecordBytes
