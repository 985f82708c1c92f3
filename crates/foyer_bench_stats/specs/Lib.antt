pub mod AnswerCounts
pub mod Buckets
pub mod Histogram
pub mod BenchPlans
pub mod Settings
pub mod Values
pub mod Weights
pub mod Zipf
