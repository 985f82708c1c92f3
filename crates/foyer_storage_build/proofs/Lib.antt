pub mod NumberingLemmas
