-- The life of a block: what a run writes into it since it was last cleaned.
use Rattle.std.specs.Prelude.{ℕ, ◌==◌, Bool, true, false, if◌then◌else◌, List, [], ◌∷◌, ◌++◌, Option, Some, None}
use Rattle.foyer_format_layout.specs.BlockBytes.{Write}
use Rattle.foyer_core_model.specs.Access.{BlockWrites, Issued, CleanState, CleanInFlight}
use Rattle.foyer_core_model.specs.Position.{BlockLayout, records_in}
use Rattle.foyer_core_model.specs.Record.{Record}
use Rattle.foyer_core_model.specs.Reply.{Reply, Written}
use Rattle.foyer_core_model.specs.Rules.{Rules}
use Rattle.foyer_core_model.specs.State.{Batch, State}
use Rattle.foyer_core_model.specs.Step.{Step, FlushBlock}
use Rattle.foyer_core_model.specs.World.{World, WorldEvent, Applies, WriteBegins, CleanEnds, after}

-- What became of a block since it was last cleaned well, by a reclaim or by a destroy, or since the run began.
pub record Life (C : Type 0) : Type 0 where
  pub is_cleaned : Bool  -- whether the run has cleaned it
  pub has_failed : Bool  -- whether a clean of it failed since
  pub writes : List Write  -- each write into it that began, the last one first
  pub records : List (ℕ × Record C)  -- each record that was issued into it, with its offset

-- a run begins with the life that the block has
abbrev pub first_life : {C : Type 0} → Life C
first_life = record { is_cleaned = false; has_failed = false; writes = []; records = [] }

-- and a clean begins a new one
abbrev pub cleaned_life : {C : Type 0} → Life C
cleaned_life = record { is_cleaned = true; has_failed = false; writes = []; records = [] }

-- the records of the next block of a batch
abbrev pub next_in : {C : Type 0} → List (BlockLayout C) → List (ℕ × Record C)
next_in [] = []
next_in (s ∷ ss) = records_in s.parts

abbrev pub next_records : {C : Type 0} → Option (Batch C) → List (ℕ × Record C)
next_records None = []
next_records (Some batch) = next_in batch.blocks

-- a block that is issued to its flusher is to hold the records of its parts
abbrev pub after_step : {C : Type 0} → State C → Reply C → Step C → ℕ → Life C → Life C
after_step old (Written c writes) (FlushBlock f) b l =
    if c == b then record l { records = l.records ++ next_records (old.flushers f).batch } else l
after_step old reply step b l = l

-- a write begins
abbrev pub after_begin : {C : Type 0} → BlockWrites → ℕ → Life C → Life C
after_begin (Issued c results (w ∷ ws)) b l = if c == b then record l { writes = w ∷ l.writes } else l
after_begin pending b l = l

-- a clean ends, and one that fails ends no life
abbrev pub after_clean : {C : Type 0} → (is_ok : Bool) → CleanState → Life C → Life C
after_clean true CleanInFlight l = cleaned_life
after_clean false CleanInFlight l = record l { has_failed = true }
after_clean ok clean_state l = l

-- what an event makes of the life of a block
abbrev pub life_after : {C : Type 0} → World C → WorldEvent C → ℕ → Life C → Life C
life_after w (Applies step reply new) b l = after_step w.core reply step b l
life_after w (WriteBegins f) b l = after_begin (w.block_writes f) b l
life_after w (CleanEnds c ok torn) b l = if c == b then after_clean ok (w.clean_states c) l else l
life_after w event b l = l

module _ {C : Type 0} (rules : Rules C) where
  -- and a list of events
  abbrev pub life_from : World C → List (WorldEvent C) → ℕ → Life C → Life C
  life_from w [] b l = l
  life_from w (e ∷ es) b l = life_from (after rules w e) es b (life_after w e b l)

  -- the life that a block has after a run
  abbrev pub life_of : World C → List (WorldEvent C) → ℕ → Life C
  life_of w events b = life_from w events b first_life
