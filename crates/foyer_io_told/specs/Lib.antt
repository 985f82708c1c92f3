pub mod ToldAccess
