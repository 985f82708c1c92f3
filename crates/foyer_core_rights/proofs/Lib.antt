pub mod FrameLemmas
pub mod LossLemmas
pub mod ServingLemmas
mod IssuedSteps
pub mod IssuedLemmas
