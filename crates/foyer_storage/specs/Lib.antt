pub use Rattle.foyer_core_tally.specs.Ledgers
pub use Rattle.foyer_storage_build.specs.CoreLedgers
