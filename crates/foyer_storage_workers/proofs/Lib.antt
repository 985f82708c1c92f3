pub mod WorkerStepLemmas
pub mod TurnLemmas
