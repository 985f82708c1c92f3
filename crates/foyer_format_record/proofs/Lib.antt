pub mod CompressionLemmas
pub mod HeaderLemmas
pub mod OuterFault
pub mod RecordBytes
pub mod RecordLemmas
pub mod RefusalLemmas
