pub mod CounterSums
pub mod CounterSteps
