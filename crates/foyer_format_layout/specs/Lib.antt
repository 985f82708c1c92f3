pub mod Page
pub mod Each
pub mod BlockBytes
pub mod Position
