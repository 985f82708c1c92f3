pub mod Calls
pub mod Limits
pub mod Meter
pub mod Quota
pub mod Text
