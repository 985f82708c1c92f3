pub mod BuiltIn
pub mod Conditions
pub mod Listed
pub mod Verdict
