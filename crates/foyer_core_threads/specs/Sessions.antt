-- What a session has seen.
use Rattle.std.specs.Prelude.{ℕ, ◌<◌}
use Rattle.foyer_core_chronicle.specs.Rights.{times}
use Rattle.foyer_core_chronicle.specs.SharedHistory.{Continues}
use Rattle.foyer_core_chronicle.specs.declared.View.{View}
use Rattle.foyer_core_laws.specs.Content.{Meaning}
use Rattle.foyer_core_told.specs.declared.event.Told.{Told}
use Rattle.foyer_core_told.specs.ToldRuns.{IsTold}
use Rattle.foyer_core_told.specs.ToldRights.{takes}

-- Two sessions saw one history: what each had seen is a beginning of what both have seen then, and the rights of both are there.
pub record HasJoined {K V P A D : Type 0} (m : Meaning K V P) (byte_at : D → ℕ → ℕ → ℕ) (mine other after : View (Told K V P A D)) : Type 0 where
  pub told : IsTold m byte_at after.seen
  pub kept : Continues takes after.seen mine.seen mine.has
  pub others : Continues takes after.seen other.seen other.has
  pub rights : (k : ℕ) → 0 < times k mine.has → 0 < times k after.has
  pub given : (k : ℕ) → 0 < times k other.has → 0 < times k after.has
