pub mod LayoutLemmas
