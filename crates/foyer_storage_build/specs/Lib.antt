pub mod Building
pub use Rattle.foyer_storage_cores.specs.CoreLedgers
