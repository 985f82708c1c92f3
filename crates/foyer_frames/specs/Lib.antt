pub mod Kind
pub mod Numbers
pub mod Request
pub mod Reply
pub mod Greeting
pub mod Stream
