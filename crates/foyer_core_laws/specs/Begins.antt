-- The model's states and worlds that a run of a core begins with: what an opening found.
use Rattle.std.specs.Prelude.{ℕ, false, nat_lt, if◌then◌else◌, List, [], None}
use Rattle.foyer_core_model.specs.Access.{Idle, CleanIdle}
use Rattle.foyer_core_model.specs.Ids.{is_id_in}
use Rattle.foyer_core_model.specs.Opened.{idle, full_filling, block_among, recovered}
use Rattle.foyer_core_model.specs.Record.{Address}
use Rattle.foyer_core_model.specs.Rules.{Rules}
use Rattle.foyer_core_model.specs.State.{State, BlockSet, Clean, Evictable, no_stats, NoDestroy}
use Rattle.foyer_core_model.specs.World.{World}
use Rattle.foyer_core_restart.specs.Opening.{Opened}

-- a block that keeps something may be reclaimed; all others are clean, and what is no block counts as clean
abbrev pub place_of : (blocks : ℕ) → (clean : List ℕ) → ℕ → BlockSet
place_of blocks clean b = if nat_lt b blocks then (if is_id_in b clean then Clean else Evictable) else Clean

-- the index, the next sequence and the clean blocks are those of the opening, and nothing is queued
abbrev pub opened_state : {C : Type 0} → Rules C → Opened → State C
opened_state rules o = record {
  index = o.index;
  next = o.next;
  steps = 0;
  closed = false;
  flushers = λ f. idle rules;
  place = place_of rules.blocks o.clean;
  clean = o.clean;
  waiting = [];
  filling = λ b. 0;
  stats = λ b. no_stats;
  reclaims = λ b. None;
  destroy = NoDestroy;
}

-- over these bytes: the history has a put for each address that was found, and nothing is under way
abbrev pub opened_world : {C : Type 0} → Rules C → (ℕ → ℕ → ℕ) → Opened → List (ℕ × Address) → World C
opened_world rules bytes o found = record {
  core = opened_state rules o;
  bytes = bytes;
  history = recovered rules bytes found;
  kept = λ hash. block_among hash found;
  filled = λ b. full_filling rules;
  begun_writes = [];
  committed = [];
  loads = λ n. None;
  issued = 0;
  scans = λ b. None;
  block_writes = λ f. Idle;
  clean_states = λ b. CleanIdle;
}
