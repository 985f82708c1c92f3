pub mod CodeLemmas
pub mod WritingLemmas
