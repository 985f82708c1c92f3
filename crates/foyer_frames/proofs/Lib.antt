pub mod Fields
pub mod Requests
pub mod Replies
pub mod Streams
pub mod Windows
pub mod Writes
