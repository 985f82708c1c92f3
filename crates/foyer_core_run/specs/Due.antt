-- The accesses of a world that were issued and haven't begun.
use Rattle.std.specs.Prelude.{◌≡◌, ℕ, List, [], ◌∷◌, Option, Some, None}
use Rattle.foyer_core_model.specs.Access.{Load, ReadState, ReadIssued, Scan, BlockWrites, Issued}
use Rattle.foyer_format_layout.specs.BlockBytes.{Write}
use Rattle.foyer_core_model.specs.Step.{Ticket}

abbrev pub unread_in : ReadState → Ticket → Option Ticket
unread_in ReadIssued t = Some t
unread_in read_state t = None

-- the ticket of a read that hasn't begun
abbrev pub unread : {C : Type 0} → Option (Load C) → Option Ticket
unread None = None
unread (Some l) = unread_in l.read_state l.ticket

-- The block and the writes of which the first is due: none while a result waits to be reported.
abbrev pub due : BlockWrites → Option (ℕ × List Write)
due (Issued b [] (w ∷ ws)) = Some (b, w ∷ ws)
due pending = None

-- the read that a reclaim issued hasn't begun
abbrev pub IsUnscanned : Option Scan → Type 0
IsUnscanned None = ⊥
IsUnscanned (Some scan) = scan.read_state ≡ ReadIssued
