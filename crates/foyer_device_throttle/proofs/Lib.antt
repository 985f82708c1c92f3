pub mod QuotaLemmas
pub mod TextLemmas
