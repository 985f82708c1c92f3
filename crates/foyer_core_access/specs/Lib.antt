pub mod Reclaims
