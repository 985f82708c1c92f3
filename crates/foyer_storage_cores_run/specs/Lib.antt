pub use Rattle.foyer_storage_build.specs.CoreLedgers
