pub mod Blob
pub mod OpenIndex
pub use Rattle.foyer_format_record.specs.Header
pub use Rattle.foyer_format_record.specs.Record
pub use Rattle.foyer_format_record.specs.declared.compress.Compression
