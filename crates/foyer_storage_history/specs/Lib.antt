pub mod HistoryCalls
pub mod Releasing
