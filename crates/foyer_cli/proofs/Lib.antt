pub mod LineLemmas
pub mod ArgumentLemmas
