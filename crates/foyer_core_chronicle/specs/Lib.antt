pub mod Rights
pub mod SharedHistory
