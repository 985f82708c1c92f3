-- That there is what an opening gives.
use Rattle.std.specs.Prelude.{ℕ, ◌+◌, ◌<◌, ◌^◌, ◌≤◌, Bool, List, [], ◌++◌, ◌⊎◌}
use Rattle.foyer_format_blob.specs.declared.blob.BlobEntryIndex.{BlobEntryIndex}
use Rattle.foyer_format_buffer.specs.Listing.{Lists}
use Rattle.foyer_core_model.specs.Rules.{Rules, sizes_of}
use Rattle.foyer_block_recover.specs.Opening.{Keeps, all_stand, greatest, Opened, Opens}
use Rattle.foyer_block_recover.specs.declared.block.recover.RecoverMode.{RecoverMode}
use Rattle.foyer_core_restart.specs.Restart.{no_fault}

-- a block of any bytes lists something, whatever reads fail
abbrev pub ListsExist : {C : Type 0} → Rules C → Type 0
ListsExist rules = (B : ℕ → ℕ) (failed : ℕ → Bool) → (es : List BlobEntryIndex) × Lists (sizes_of rules) B failed es

-- If no read fails and there are no marks, an opening gives an index, or something that is kept has the last sequence.
abbrev pub OpensUnlessLast : {C : Type 0} → Rules C → Type 0
OpensUnlessLast rules =
    (bytes : ℕ → ℕ → ℕ) (mode : RecoverMode)
    → ((keeps : ℕ → List BlobEntryIndex) × ((b : ℕ) → b < rules.blocks → Keeps (sizes_of rules) mode (bytes b) (no_fault b) (keeps b))
    × (2 ^ 64 ≤ greatest (all_stand 0 rules.blocks keeps ++ []) + 1))
    ⊎ ((o : Opened) × Opens (sizes_of rules) rules.blocks bytes mode no_fault [] o)
