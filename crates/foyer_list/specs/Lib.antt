pub mod BlockListing
pub mod Verdicts
pub mod ListLines
