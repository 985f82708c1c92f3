-- What enters the index, and what leaves it.
use Rattle.std.specs.Prelude.{ℕ, ◌==◌, nat_le, Bool, true, false, ◌&&◌, if◌then◌else◌, List, [], ◌∷◌, Option, Some, None}
use Rattle.foyer_core_model.specs.Numbers.{put}
use Rattle.foyer_core_model.specs.Record.{Address, Slot, Indexed, Mark}

-- whether two addresses are the very same
abbrev pub is_same : Address → Address → Bool
is_same a b =
    (a.block == b.block) && (a.offset == b.offset) && (a.len == b.len) && (a.sequence == b.sequence) && (a.filling == b.filling)

-- whether the index holds an address
abbrev pub is_address : Option Slot → Bool
is_address None = false
is_address (Some (Mark s)) = false
is_address (Some (Indexed a)) = true

-- whether it holds the very address
abbrev pub holds : Address → Option Slot → Bool
holds a None = false
holds a (Some (Mark s)) = false
holds a (Some (Indexed b)) = is_same a b

-- the sequence of an address or a mark
abbrev pub sequence_at : Slot → ℕ
sequence_at (Indexed a) = a.sequence
sequence_at (Mark s) = s

-- An insertion, of an address or a mark, replaces what has its sequence or a smaller one.
abbrev pub inserted : Option Slot → Slot → Option Slot
inserted None new = Some new
inserted (Some old) new = if nat_le (sequence_at old) (sequence_at new) then Some new else Some old

-- the very address leaves the index
abbrev pub without : Address → Option Slot → Option Slot
without a None = None
without a (Some (Mark s)) = Some (Mark s)
without a (Some (Indexed b)) = if is_same a b then None else Some (Indexed b)

-- these very addresses leave it, each under its hash
abbrev pub forgotten : List (ℕ × Address) → (ℕ → Option Slot) → ℕ → Option Slot
forgotten [] m = m
forgotten (p ∷ ps) m = forgotten ps (put m p.0 (without p.1 (m p.0)))

-- the very mark leaves the index
abbrev pub without_mark : ℕ → Option Slot → Option Slot
without_mark s None = None
without_mark s (Some (Indexed a)) = Some (Indexed a)
without_mark s (Some (Mark t)) = if t == s then None else Some (Mark t)

-- these very marks leave it, each under its hash
abbrev pub unmarked : List (ℕ × ℕ) → (ℕ → Option Slot) → ℕ → Option Slot
unmarked [] m = m
unmarked (p ∷ ps) m = unmarked ps (put m p.0 (without_mark p.1 (m p.0)))
