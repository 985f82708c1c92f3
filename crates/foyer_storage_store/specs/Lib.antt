pub mod Storing
pub use Rattle.foyer_storage_engine.specs.Lent
