pub mod PageLaws
pub mod EachLaws
pub mod BlockBytesLaws
