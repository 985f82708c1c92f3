-- The eight ledgers, one for each kind.
use Rattle.std.specs.Prelude.{◌≡◌, ℕ, ◌==◌, if◌then◌else◌}
use Rattle.foyer_core_tally.specs.declared.blanks.Blanks.{Blanks}

-- the blanks are of these names, by their numbers, and have so many parts each
pub record AreOf (name_of : ℕ → ℕ) (all : ℕ) (blanks : Blanks) : Type 0 where
  pub queued : (blanks.queued.name ≡ name_of 0) × (blanks.queued.parts ≡ all)
  pub dropped : (blanks.dropped.name ≡ name_of 1) × (blanks.dropped.parts ≡ all)
  pub deleted : (blanks.deleted.name ≡ name_of 2) × (blanks.deleted.parts ≡ all)
  pub read : (blanks.read.name ≡ name_of 3) × (blanks.read.parts ≡ all)
  pub look_up_miss : (blanks.look_up_miss.name ≡ name_of 4) × (blanks.look_up_miss.parts ≡ all)
  pub entry : (blanks.entry.name ≡ name_of 5) × (blanks.entry.parts ≡ all)
  pub end_miss : (blanks.end_miss.name ≡ name_of 6) × (blanks.end_miss.parts ≡ all)
  pub other : (blanks.other.name ≡ name_of 7) × (blanks.other.parts ≡ all)

-- the names of blanks, by the numbers of their kinds
abbrev pub names_in : Blanks → ℕ → ℕ
names_in blanks n =
    if n == 0 then blanks.queued.name
    else (if n == 1 then blanks.dropped.name
    else (if n == 2 then blanks.deleted.name
    else (if n == 3 then blanks.read.name
    else (if n == 4 then blanks.look_up_miss.name
    else (if n == 5 then blanks.entry.name
    else (if n == 6 then blanks.end_miss.name
    else blanks.other.name))))))
