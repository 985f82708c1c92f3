-- The kinds of notes, and how many there are of each.
use Rattle.std.specs.Prelude.{ℕ, ◌+◌, List, [], ◌∷◌}
use Rattle.foyer_core_shared.specs.declared.brief.Brief.{Brief}
use Rattle.foyer_core_shared.specs.declared.brief.ReplyBrief.{ReplyBrief}
use Rattle.foyer_core_shared.specs.declared.brief.ReplyBrief.TheVariants as replied
use Rattle.foyer_core_shared.specs.declared.brief.StepBrief.{StepBrief}
use Rattle.foyer_core_shared.specs.declared.brief.StepBrief.TheVariants as asked
use Rattle.foyer_core_tally.specs.declared.kinds.Counts.{Counts}
use Rattle.foyer_core_tally.specs.declared.kinds.StepKind.{StepKind}
use Rattle.foyer_core_tally.specs.declared.kinds.StepKind.TheVariants.{Queued, Dropped, Deleted, Read, LookUpMiss, Entry, EndMiss, Other}

-- the kind of a step and what it got
abbrev pub kind_in : StepBrief → ReplyBrief → StepKind
kind_in (asked.Enqueue hash size) (replied.Queued sequence) = Queued
kind_in (asked.Enqueue hash size) (replied.Dropped sequence) = Dropped
kind_in (asked.Delete hash) (replied.Deleted sequence) = Deleted
kind_in (asked.LoadBegin hash throttled) (replied.Read ticket) = Read
kind_in (asked.LoadBegin hash throttled) replied.Miss = LookUpMiss
kind_in (asked.LoadEnd ticket outcome) replied.Entry = Entry
kind_in (asked.LoadEnd ticket outcome) replied.Miss = EndMiss
kind_in given answer = Other

abbrev pub kind_of : Brief → StepKind
kind_of brief = kind_in brief.step brief.reply

-- 1 if the kinds are the same, else 0
abbrev pub one_if : StepKind → StepKind → ℕ
one_if Queued Queued = 1
one_if Dropped Dropped = 1
one_if Deleted Deleted = 1
one_if Read Read = 1
one_if LookUpMiss LookUpMiss = 1
one_if Entry Entry = 1
one_if EndMiss EndMiss = 1
one_if Other Other = 1
one_if kind _ = 0

-- how many notes are of a kind
abbrev pub count_of : StepKind → List Brief → ℕ
count_of kind [] = 0
count_of kind (note ∷ notes) = count_of kind notes + one_if kind (kind_of note)

-- and of each
abbrev pub tallied : List Brief → Counts
tallied notes = record {
  queued = count_of Queued notes;
  dropped = count_of Dropped notes;
  deleted = count_of Deleted notes;
  read = count_of Read notes;
  look_up_miss = count_of LookUpMiss notes;
  entry = count_of Entry notes;
  end_miss = count_of EndMiss notes;
  other = count_of Other notes;
}
