pub mod Sessions
pub mod Asking
pub mod Going
pub mod Newest
pub mod Done
pub mod Queued
