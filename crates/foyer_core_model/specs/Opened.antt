-- The worlds that begin with an opened core.
use Rattle.std.specs.Prelude.{◌≡◌, ◌≢◌, ℕ, ◌+◌, ◌<◌, ◌≤◌, ◌==◌, Bool, true, false, if◌then◌else◌, List, [], ◌∷◌, Option, Some, None, ◌⊎◌}
use Rattle.foyer_core_model.specs.Numbers.{last_number}
use Rattle.foyer_core_model.specs.Ids.{ids}
use Rattle.foyer_core_model.specs.Record.{Address, Slot, Indexed}
use Rattle.foyer_core_model.specs.Position.{Position}
use Rattle.foyer_core_model.specs.State.{Flusher, BlockSet, Clean, Writes, Evictable, Reclaims, no_stats, NoDestroy, State}
use Rattle.foyer_core_model.specs.Rules.{Rules, first_position}
use Rattle.foyer_format_layout.specs.BlockBytes.{read}
use Rattle.foyer_core_model.specs.Event.{Event, Put}
use Rattle.foyer_core_model.specs.Access.{Idle, CleanIdle}
use Rattle.foyer_core_model.specs.World.{World}

-- of the addresses that were found, each under its hash, the one of a hash
abbrev pub slot_among : ℕ → List (ℕ × Address) → Option Slot
slot_among h [] = None
slot_among h (p ∷ ps) = if p.0 == h then Some (Indexed p.1) else slot_among h ps

-- and its block
abbrev pub block_among : ℕ → List (ℕ × Address) → Option ℕ
block_among h [] = None
block_among h (p ∷ ps) = if p.0 == h then Some (p.1).block else block_among h ps

-- one put for each of them, of what the bytes there are
abbrev pub recovered : {C : Type 0} → Rules C → (ℕ → ℕ → ℕ) → List (ℕ × Address) → List (Event C)
recovered rules bytes [] = []
recovered rules bytes (p ∷ ps) =
    Put p.0 (p.1).sequence (rules.pair_of (read (bytes (p.1).block) (p.1).offset (p.1).len) p.0 (p.1).sequence) ∷ recovered rules bytes ps

-- no other of them has its hash
abbrev pub IsAlone : ℕ → List (ℕ × Address) → Type 0
IsAlone h [] = Unit {0}
IsAlone h (p ∷ ps) = (p.0 ≢ h) × IsAlone h ps

-- an address that was found under a hash of 64 bits lies behind the index within a block that isn't clean
pub record IsFound {C : Type 0} (rules : Rules C) (core : State C) (h : ℕ) (a : Address) : Type 0 where
  pub hash : h ≤ last_number
  pub filling : a.filling ≡ 0
  pub sequence : a.sequence < core.next
  pub block : a.block < rules.blocks
  pub place : core.place a.block ≡ Evictable
  pub behind : rules.index_size ≤ a.offset
  pub within : a.offset + rules.page_up a.len ≤ rules.block_size

-- each address was found, and no two have one hash
abbrev pub AllFound : {C : Type 0} → Rules C → State C → List (ℕ × Address) → Type 0
AllFound rules core [] = Unit {0}
AllFound rules core (p ∷ ps) = IsFound rules core p.0 p.1 × IsAlone p.0 ps × AllFound rules core ps

-- whether it is the clean set
abbrev pub is_clean : BlockSet → Bool
is_clean Clean = true
is_clean (Writes f) = false
is_clean Evictable = false
is_clean Reclaims = false

-- the clean ones of these blocks, in order
abbrev pub clean_among : (ℕ → BlockSet) → List ℕ → List ℕ
clean_among place [] = []
clean_among place (b ∷ bs) = if is_clean (place b) then b ∷ clean_among place bs else clean_among place bs

-- nothing was queued at a flusher
abbrev pub idle : {C : Type 0} → Rules C → Flusher C
idle rules = record {
  queue = [];
  buffer = [];
  marks = [];
  invalidated = [];
  waits = [];
  batch = None;
  own = None;
  ready = None;
  context = first_position rules;
}

-- a block into which no more is written
abbrev pub full_filling : {C : Type 0} → Rules C → Position
full_filling rules = record { blob = rules.block_size; at = 0; listed = [] }

-- An opened world: the index and the history are those of the addresses found, each block is clean or evictable and what
-- is no block is clean, the clean blocks are listed in order, and nothing is queued, issued or under way.
pub record IsOpened {C : Type 0} (rules : Rules C) (w : World C) : Type 0 where
  pub found : List (ℕ × Address)
  pub all : AllFound rules w.core found
  pub index : (h : ℕ) → w.core.index h ≡ slot_among h found
  pub history : w.history ≡ recovered rules w.bytes found
  pub kept : (h : ℕ) → w.kept h ≡ block_among h found
  pub place : (b : ℕ) → (w.core.place b ≡ Clean) ⊎ ((b < rules.blocks) × (w.core.place b ≡ Evictable))
  pub clean : w.core.clean ≡ clean_among w.core.place (ids rules.blocks)
  pub first : 0 < w.core.next
  pub last : w.core.next ≤ last_number
  pub steps : w.core.steps ≡ 0
  pub closed : w.core.closed ≡ false
  pub flushers : (f : ℕ) → w.core.flushers f ≡ idle rules
  pub waiting : w.core.waiting ≡ []
  pub filling : (b : ℕ) → w.core.filling b ≡ 0
  pub stats : (b : ℕ) → w.core.stats b ≡ no_stats
  pub reclaims : (b : ℕ) → w.core.reclaims b ≡ None
  pub destroy : w.core.destroy ≡ NoDestroy
  pub filled : (b : ℕ) → w.filled b ≡ full_filling rules
  pub begun_writes : w.begun_writes ≡ []
  pub committed : w.committed ≡ []
  pub loads : (n : ℕ) → w.loads n ≡ None
  pub issued : w.issued ≡ 0
  pub scans : (b : ℕ) → w.scans b ≡ None
  pub block_writes : (f : ℕ) → w.block_writes f ≡ Idle
  pub clean_states : (b : ℕ) → w.clean_states b ≡ CleanIdle
