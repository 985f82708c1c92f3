pub mod EntryLoads
pub mod StepAnswers
pub mod EntryCalls
pub mod Closing
