-- A number for each kind of step.
use Rattle.std.specs.Prelude.{◌≡◌, ℕ, ◌+◌, min, List, [], ◌∷◌}
use Rattle.foyer_core_tally.specs.declared.kinds.StepKind.{StepKind}
use Rattle.foyer_core_tally.specs.declared.kinds.StepKind.TheVariants.{Queued, Dropped, Deleted, Read, LookUpMiss, Entry, EndMiss, Other}
use Rattle.foyer_core_tally.specs.declared.kinds.Counts.{Counts}

-- a number as 64 bits show it: the greatest one stands for all above
abbrev pub saturated : ℕ → ℕ
saturated n = min n 18446744073709551615

-- 0 of each kind
abbrev pub none : Counts
none = record { queued = 0; dropped = 0; deleted = 0; read = 0; look_up_miss = 0; entry = 0; end_miss = 0; other = 0 }

-- one more of a kind, and as many of the others
abbrev pub grown : StepKind → Counts → Counts
grown Queued c = record c { queued = c.queued + 1 }
grown Dropped c = record c { dropped = c.dropped + 1 }
grown Deleted c = record c { deleted = c.deleted + 1 }
grown Read c = record c { read = c.read + 1 }
grown LookUpMiss c = record c { look_up_miss = c.look_up_miss + 1 }
grown Entry c = record c { entry = c.entry + 1 }
grown EndMiss c = record c { end_miss = c.end_miss + 1 }
grown Other c = record c { other = c.other + 1 }

-- the sum of two, of each kind
abbrev pub both : Counts → Counts → Counts
both c d = record { queued = c.queued + d.queued; dropped = c.dropped + d.dropped; deleted = c.deleted + d.deleted; read = c.read + d.read; look_up_miss = c.look_up_miss + d.look_up_miss; entry = c.entry + d.entry; end_miss = c.end_miss + d.end_miss; other = c.other + d.other }

-- what 64 bits show of each
abbrev pub shown : Counts → Counts
shown c = record { queued = saturated c.queued; dropped = saturated c.dropped; deleted = saturated c.deleted; read = saturated c.read; look_up_miss = saturated c.look_up_miss; entry = saturated c.entry; end_miss = saturated c.end_miss; other = saturated c.other }

-- in the order of the kinds
abbrev pub listed : Counts → List ℕ
listed c = c.queued ∷ c.dropped ∷ c.deleted ∷ c.read ∷ c.look_up_miss ∷ c.entry ∷ c.end_miss ∷ c.other ∷ []

-- what contracts see of a share: so many parts of each ledger, and so many steps of each kind that were noted with it
pub record Held : Type 0 where
  pub parts : ℕ
  pub amounts : Counts
