pub mod EndedLives
pub mod Lives
pub mod LivesReached
pub mod Returns
