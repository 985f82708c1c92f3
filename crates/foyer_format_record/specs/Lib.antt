pub mod Compression
pub mod Header
pub mod Record
pub mod Refusals
pub mod Vectors
pub mod Written
pub use Rattle.foyer_format_checksum.specs.Xxh64
pub use Rattle.foyer_format_code.specs.Error
