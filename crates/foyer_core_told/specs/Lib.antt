pub mod ToldRuns
pub mod ToldSteps
pub mod ToldLoads
pub mod ToldMisses
pub mod ToldRights
pub mod Telling
pub mod ToldQueued
