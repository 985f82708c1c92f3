pub mod LocalRuns
pub mod LocalAnswers
pub mod LoadAnswered
pub mod RefusedSteps
pub mod ThrottledLoads
pub mod CloseLemmas
