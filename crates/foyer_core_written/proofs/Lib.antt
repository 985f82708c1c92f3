pub mod Folds
pub mod Past
pub mod Flown
pub mod Places
pub mod Moves
pub mod Tracked
pub mod Written
