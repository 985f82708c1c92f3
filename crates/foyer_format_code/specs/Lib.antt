pub mod Bytes
pub mod CodeLaws
pub mod Codes
pub mod FlagLaws
pub mod IntLaws
pub mod Tracked
pub mod Vectors
pub mod WideBytes
pub mod Writing
pub use Rattle.foyer_device_page.specs.Error as PageError
pub use Rattle.foyer_device_page.specs.declared.error.Error
