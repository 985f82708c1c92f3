pub mod OpenedWorlds
pub mod LawLemmas
pub mod TripLemmas
pub mod FormatLemmas
pub mod ReachedLemmas
pub mod TornLemmas
