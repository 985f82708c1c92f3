pub mod BucketLemmas
pub mod HistogramLemmas
pub mod WordLemmas
pub mod WeightLemmas
pub mod ZipfLemmas
