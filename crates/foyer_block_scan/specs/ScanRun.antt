-- A scan that is run over a block: what its calls give one after the other.
use Rattle.std.specs.Prelude.{◌≡◌, ℕ, ◌+◌, ◌≤◌, suc, Bool, true, false, List, [], ◌++◌, Option, Some, None}
use Rattle.foyer_format_layout.specs.BlockBytes.{read}
use Rattle.foyer_format_buffer.specs.Fills.{AreSizes}
use Rattle.foyer_format_buffer.specs.Listing.{Lists}
use Rattle.foyer_block_scan.specs.Scan.{ScanStep, next_blob, infos_of, scan_step, scan_end}
use Rattle.foyer_block_scan.specs.ScanState.{Scan}
use Rattle.foyer_block_scan.specs.Walk.{walk, list_of}
use Rattle.foyer_block_scan.specs.declared.block.scanner.EntryInfo.{EntryInfo}

-- what a scan of a block of these bytes is still going to give, if the reads of these offsets fail
abbrev pub rest_of : (ℕ → ℕ) → (ℕ → Bool) → Scan → List EntryInfo
rest_of B failed s = infos_of s.block s.filling (walk (suc s.sizes.block) s.sizes B failed s.blob_offset)

-- the infos of a step, or none if the step gives no index
abbrev pub infos_in : Option (List EntryInfo) → List EntryInfo
infos_in None = []
infos_in (Some infos) = infos

-- At each step a scan gives the first of what it is still going to give, and goes on with the others.
pub record GivesInTurn (B : ℕ → ℕ) (failed : ℕ → Bool) (s : Scan) : Type 0 where
  pub start : s.blob_offset ≡ next_blob s.sizes 0 → rest_of B failed s ≡ infos_of s.block s.filling (list_of s.sizes B failed)
  pub came : (p : ℕ) → s.blob_offset ≡ Some p → p + s.sizes.index ≤ s.sizes.block → failed p ≡ false
      → rest_of B failed s
      ≡ infos_in (scan_step s s.blob_offset (read B p s.sizes.index)).listed ++ rest_of B failed (scan_step s s.blob_offset (read B p s.sizes.index)).scan
  pub fault : (p : ℕ) → s.blob_offset ≡ Some p → failed p ≡ true → rest_of B failed s ≡ rest_of B failed (scan_end s).scan
  pub end : s.blob_offset ≡ None → rest_of B failed s ≡ []

-- a run of a scan to its end, with all the infos that it gives
pub data Runs (B : ℕ → ℕ) (failed : ℕ → Bool) : Scan → List EntryInfo → Type 0 where
  ended : {s : Scan} → s.blob_offset ≡ None → Runs B failed s []
  came : {s : Scan} {p : ℕ} {rest : List EntryInfo} → s.blob_offset ≡ Some p → p + s.sizes.index ≤ s.sizes.block → failed p ≡ false
      → Runs B failed (scan_step s s.blob_offset (read B p s.sizes.index)).scan rest
      → Runs B failed s (infos_in (scan_step s s.blob_offset (read B p s.sizes.index)).listed ++ rest)
  fault : {s : Scan} {p : ℕ} {rest : List EntryInfo} → s.blob_offset ≡ Some p → failed p ≡ true
      → Runs B failed (scan_end s).scan rest → Runs B failed s rest

-- whatever a block's bytes are and whichever reads fail, each step of a scan gives what it is to give
abbrev pub StepsGiveInTurn : Type 0
StepsGiveInTurn = (B : ℕ → ℕ) (failed : ℕ → Bool) (s : Scan) → AreSizes s.sizes → GivesInTurn B failed s

-- and a run from a block's start to its end gives what the block lists
abbrev pub RunIsListed : Type 0
RunIsListed =
    (B : ℕ → ℕ) (failed : ℕ → Bool) (s : Scan) (infos : List EntryInfo) → AreSizes s.sizes → s.blob_offset ≡ next_blob s.sizes 0
    → Runs B failed s infos → (infos ≡ infos_of s.block s.filling (list_of s.sizes B failed)) × Lists s.sizes B failed (list_of s.sizes B failed)
