pub mod StoreRun
pub mod StoreLaw
