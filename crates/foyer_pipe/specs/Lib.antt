pub mod Keys
pub mod Codes
pub mod Answered
pub mod Settings
