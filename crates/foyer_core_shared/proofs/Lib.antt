pub mod HistoryLemmas
pub mod ChunkLemmas
pub mod ReplyLemmas
