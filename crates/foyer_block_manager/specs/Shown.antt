-- What pickers are shown, each of them in the order of the list.
use Rattle.std.specs.Prelude.{◌≡◌, ℕ, zero, suc, ◌++◌, if◌then◌else◌, List, [], ◌∷◌, Option, Some, None, slice_get}
use Rattle.foyer_block_manager.specs.Managed.{is_evictable, is_writing}
use Rattle.foyer_block_manager.specs.Pickers.{Info}
use Rattle.foyer_block_manager.specs.declared.block.states.BlockState.{BlockState}

-- each of them may have become the one in its place
abbrev pub AreChanged : {Q : Type 0} → (Q → Q → Type 0) → List Q → List Q → Type 0
AreChanged may_be [] [] = Unit {0}
AreChanged may_be (p ∷ ps) (q ∷ qs) = may_be p q × AreChanged may_be ps qs
AreChanged may_be ps qs = ⊥

-- each of them was shown the block, and saw this
abbrev pub AreShown : {Q : Type 0} → (Q → Info → ℕ → Q → Type 0) → Info → ℕ → List Q → List Q → Type 0
AreShown may_be info block = AreChanged (λ p q. may_be p info block q)

-- each of them was shown these blocks, one after the other
abbrev pub AreShownAll : {Q : Type 0} → (Q → Info → ℕ → Q → Type 0) → List ℕ → List Q → List Q → Type 0
AreShownAll may_be [] ps qs = qs ≡ ps
AreShownAll {Q} may_be (b ∷ bs) ps qs = (info : Info) × (between : List Q) × AreShown may_be info b ps between × AreShownAll may_be bs between qs

-- the block, if a flusher writes it
abbrev pub written_at : List BlockState → ℕ → List ℕ
written_at blocks b = if is_writing (slice_get blocks b) then b ∷ [] else []

-- and of a flusher's, if it has one
abbrev pub written_of : List BlockState → Option ℕ → List ℕ
written_of blocks None = []
written_of blocks (Some b) = written_at blocks b

-- of the first n blocks those that flushers write, in the order of their ids
abbrev pub written_below : List BlockState → ℕ → List ℕ
written_below blocks zero = []
written_below blocks (suc n) = written_below blocks n ++ written_at blocks n

-- of the first n blocks those that are evictable, in the order of their ids
abbrev pub evictable_below : List BlockState → ℕ → List ℕ
evictable_below blocks zero = []
evictable_below blocks (suc n) = evictable_below blocks n ++ (if is_evictable (slice_get blocks n) then n ∷ [] else [])
