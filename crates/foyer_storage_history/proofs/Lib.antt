pub mod HistoryLemmas
pub mod Sent
