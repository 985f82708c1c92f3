pub mod RightLemmas
pub mod ChronicleSteps
