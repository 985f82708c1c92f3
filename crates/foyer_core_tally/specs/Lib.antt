pub mod Tally
pub mod Ledgers
