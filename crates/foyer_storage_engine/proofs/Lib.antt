pub mod AnsweringLemmas
pub mod RefusalLemmas
pub mod EndingLemmas
pub mod HoldingLemmas
