pub mod BenchWords
pub mod StoreAnswers
