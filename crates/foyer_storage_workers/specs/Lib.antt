pub mod WorkerSteps
pub use Rattle.foyer_storage_engine.specs.Ending
pub mod Releasing
pub mod Receiving
pub mod Turning
