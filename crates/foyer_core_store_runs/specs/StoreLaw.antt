-- What a load of a store answers while a piece of its key is queued.
use Rattle.std.specs.Prelude.{◌≡◌, ℕ, ◌<◌, ◌≤◌, Bool, true, List, ◌∷◌, Option, Some, None}
use Rattle.foyer_core_model.specs.Record.{Holds}
use Rattle.foyer_core_model.specs.State.{State}
use Rattle.foyer_core_model.specs.Rules.{Rules, Splitting}
use Rattle.foyer_core_model.specs.Step.{ReadResult, Age, Ticket, LoadBegin, LoadEnd}
use Rattle.foyer_core_model.specs.Reply.{Read, Entry}
use Rattle.foyer_core_model.specs.Event.{Put, newest}
use Rattle.foyer_core_model.specs.Access.{Load, ReadDone}
use Rattle.foyer_core_model.specs.World.{WorldEvent, Applies, after_all, MayHappen, MayAllHappen}
use Rattle.foyer_core_model.specs.Laws.{Demands}
use Rattle.foyer_core_store_runs.specs.StoreRun.{Kept, Store, StoreEvent, store_after_all, MayAllHappenIn, IsOpenedStore}

-- a test of keys that is their equality
abbrev pub IsEquality : {Key : Type 0} → (Key → Key → Bool) → Type 0
IsEquality {Key} same = (a b : Key) → (same a b ≡ true → a ≡ b) × (a ≡ b → same a b ≡ true)

module _ {C Key : Type 0} (same : Key → Key → Bool) (key_of : C → Key) (hash_of : Key → ℕ) (rules : Rules C) (Splits : Splitting C) (is_value : C → Type 0) where
  -- a store that events led to from an opened one
  pub record IsReachedStore (σ : Store C Key) : Type 0 where
    pub first : Store C Key
    pub events : List (StoreEvent C)
    pub opened : IsOpenedStore rules first
    pub happened : MayAllHappenIn same key_of hash_of rules Splits is_value first events
    pub is : store_after_all same key_of rules first events ≡ σ

  -- the piece of a key that the map has is queued and not released, and its sequence is this or greater
  pub record IsNoOlder (σ : Store C Key) (k : Key) (s : ℕ) (kept : Kept C) : Type 0 where
    pub sequence : ℕ
    pub held : σ.held sequence ≡ Some kept.piece
    pub number : σ.numbers sequence ≡ kept.number
    pub key : key_of kept.piece ≡ k
    pub no_older : s ≤ sequence

  -- the map has such a piece; or, whatever comes then, each look-up of the key's hash that issues a read finds a greater
  -- sequence, and an entry that the load ends with is that of the newest put at the look-up, with that sequence
  abbrev pub AnswersNoOlder : Store C Key → Key → ℕ → Option (Kept C) → Type 0
  AnswersNoOlder σ k s (Some kept) = IsNoOlder σ k s kept
  AnswersNoOlder σ k s None =
      (between : List (StoreEvent C)) (throttled : Bool) (t : Ticket) (looked : State C)
      → MayAllHappenIn same key_of hash_of rules Splits is_value σ between
      → MayHappen rules Splits is_value (store_after_all same key_of rules σ between).world (Applies (LoadBegin (hash_of k) throttled) (Read t) looked)
      → (s < t.address.sequence)
      × ((later : List (WorldEvent C)) (result : ReadResult) (c : C) (age : Age) (ended : State C) (l : Load C)
      → MayAllHappen rules Splits is_value (store_after_all same key_of rules σ between).world (Applies (LoadBegin (hash_of k) throttled) (Read t) looked ∷ later)
      → MayHappen rules Splits is_value (after_all rules (store_after_all same key_of rules σ between).world (Applies (LoadBegin (hash_of k) throttled) (Read t) looked ∷ later))
      (Applies (LoadEnd t result) (Entry c age) ended)
      → (after_all rules (store_after_all same key_of rules σ between).world (Applies (LoadBegin (hash_of k) throttled) (Read t) looked ∷ later)).loads
      (store_after_all same key_of rules σ between).world.issued ≡ Some l
      → l.read_state ≡ ReadDone result
      → newest (hash_of k) (store_after_all same key_of rules σ between).world.history ≡ Some (Put (hash_of k) t.address.sequence (Holds c)))

  -- While a piece of a key is queued and not released, a load that looks at the map answers it, a piece of the key of
  -- greater sequence, or no entry of a smaller sequence.
  abbrev pub QueuedAreFound : Type 0
  QueuedAreFound =
      (σ : Store C Key) (s : ℕ) (c : C)
      → Demands rules Splits is_value → IsEquality same → IsReachedStore σ
      → σ.held s ≡ Some c → AnswersNoOlder σ (key_of c) s (σ.map (key_of c))
