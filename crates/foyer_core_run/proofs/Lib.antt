pub mod AccessLemmas
pub mod BatchRuns
pub mod BlockLemmas
pub mod CleanLemmas
pub mod DestroyLemmas
pub mod DestroyRuns
pub mod DriveLemmas
pub mod DueBlocks
pub mod DueLemmas
pub mod FlusherSteps
pub mod IdleLemmas
pub mod LawfulLemmas
pub mod OpenedRuns
pub mod ListLemmas
pub mod LoadLemmas
pub mod LookUpLemmas
pub mod MissedLemmas
pub mod NewestLemmas
pub mod ReclaimIdle
pub mod ReclaimRuns
pub mod ReplyLemmas
pub mod RestLemmas
pub mod RunLemmas
pub mod ScanLemmas
pub mod StepLemmas
pub mod StoppedRuns
pub mod WriteLemmas
pub mod ThrottleLemmas
pub mod WaitingLemmas
mod HonestLemmas
pub mod CauseLemmas
pub mod FaultLists
pub mod WriteRuns
mod WellLemmas
mod MakeLemmas
pub use Rattle.foyer_core_access.proofs.CleanLemmas as AccessCleanLemmas
