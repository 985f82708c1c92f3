-- What holds of every list of world events, from any opened core, for any number of blocks and flushers.
use Rattle.std.specs.Prelude.{◌≡◌, ◌≢◌, ℕ, ◌<◌, Bool, true, false, List, [], ◌∷◌, Some, ◌⊎◌}
use Rattle.foyer_core_model.specs.Numbers.{last_number}
use Rattle.foyer_core_model.specs.Record.{Outcome, NoRecord, NotSupported, Undecodable, Holds}
use Rattle.foyer_core_model.specs.State.{State}
use Rattle.foyer_core_model.specs.Rules.{Rules, Splitting, HasRoundTrip}
use Rattle.foyer_core_model.specs.Layout.{KeepsRecords}
use Rattle.foyer_core_model.specs.Step.{ReadResult, Bytes, Fault, Age, Ticket, Enqueue, LoadBegin, LoadEnd}
use Rattle.foyer_core_model.specs.Reply.{Io, Memory, Parse, Unsupported, Reply, Refused, Queued, Miss, Throttled, Read, Entry}
use Rattle.foyer_core_model.specs.Event.{Put, newest}
use Rattle.foyer_core_model.specs.Access.{Load, ReadDone}
use Rattle.foyer_core_model.specs.World.{World, WorldEvent, Applies, MayHappen, MayAllHappen, after_all}
use Rattle.foyer_core_model.specs.Opened.{IsOpened}

-- what the laws demand of the codes and of the splitter
pub record Demands {C : Type 0} (rules : Rules C) (Splits : Splitting C) (is_value : C → Type 0) : Type 0 where
  pub trips : HasRoundTrip rules is_value
  pub places : KeepsRecords rules Splits

-- a world that events led to from an opened one
pub record IsReached {C : Type 0} (rules : Rules C) (Splits : Splitting C) (is_value : C → Type 0) (w : World C) : Type 0 where
  pub first : World C
  pub events : List (WorldEvent C)
  pub opened : IsOpened rules first
  pub happened : MayAllHappen rules Splits is_value first events
  pub is : after_all rules first events ≡ w

-- A load answers only the record that was newest of its hash at its look-up: the one of the ticket's sequence, with
-- that very content.
abbrev pub AnswersOnly : {C : Type 0} → Rules C → Splitting C → (C → Type 0) → Type 0
AnswersOnly {C} rules Splits is_value =
    (w : World C) (t : Ticket) (result : ReadResult) (c : C) (age : Age) (new : State C) (n : ℕ) (l : Load C)
    → Demands rules Splits is_value → IsReached rules Splits is_value w
    → MayHappen rules Splits is_value w (Applies (LoadEnd t result) (Entry c age) new)
    → w.loads n ≡ Some l → l.ticket ≡ t → l.read_state ≡ ReadDone result
    → l.promise ≡ Some (Put t.hash t.address.sequence (Holds c))

-- A look-up issues a read of the newest record of its hash, unless it is throttled, or a reclaim of the record's block began or
-- a destroy cleared the index since its last commit. A record that was broken when it was recovered may be missed here already.
abbrev pub LooksUpNewest : {C : Type 0} → Rules C → Splitting C → (C → Type 0) → Type 0
LooksUpNewest {C} rules Splits is_value =
    (w : World C) (h : ℕ) (throttled : Bool) (reply : Reply C) (new : State C) (b s : ℕ) (x : Outcome C)
    → Demands rules Splits is_value → IsReached rules Splits is_value w
    → MayHappen rules Splits is_value w (Applies (LoadBegin h throttled) reply new) → w.core.steps < last_number
    → w.kept h ≡ Some b → newest h w.history ≡ Some (Put h s x) → x ≢ NoRecord
    → ((throttled ≡ true) × (reply ≡ Throttled)) ⊎ ((throttled ≡ false) × ((t : Ticket) × (reply ≡ Read t) × (t.hash ≡ h) × (t.address.sequence ≡ s)))

-- What the end of a load gives, by what the promised bytes are as its record.
abbrev pub IsAnswer : {C : Type 0} → Ticket → ReadResult → Outcome C → Reply C → Type 0
IsAnswer t Fault x reply = reply ≡ Refused Io (LoadEnd t Fault)
IsAnswer t (Bytes bs) NoRecord reply = reply ≡ Miss
IsAnswer t (Bytes bs) NotSupported reply = reply ≡ Refused Unsupported (LoadEnd t (Bytes bs))
IsAnswer t (Bytes bs) Undecodable reply = (reply ≡ Refused Parse (LoadEnd t (Bytes bs))) ⊎ (reply ≡ Refused Memory (LoadEnd t (Bytes bs)))
IsAnswer t (Bytes bs) (Holds c) reply = ((age : Age) × (reply ≡ Entry c age)) ⊎ (reply ≡ Refused Memory (LoadEnd t (Bytes bs)))

-- A load whose look-up promised a record ends with that record, unless its read failed, an allocation of its decoding was
-- refused, or a reclaim of the record's block began or a destroy cleared the index since its last commit. A recovered record
-- that is broken is a miss, and one that doesn't decode or isn't supported is so named.
abbrev pub LoadsNewest : {C : Type 0} → Rules C → Splitting C → (C → Type 0) → Type 0
LoadsNewest {C} rules Splits is_value =
    (w : World C) (t : Ticket) (result : ReadResult) (reply : Reply C) (new : State C) (n : ℕ) (l : Load C) (b s : ℕ) (x : Outcome C)
    → Demands rules Splits is_value → IsReached rules Splits is_value w
    → MayHappen rules Splits is_value w (Applies (LoadEnd t result) reply new) → w.core.steps < last_number
    → w.loads n ≡ Some l → l.ticket ≡ t → l.read_state ≡ ReadDone result
    → l.kept ≡ Some b → l.promise ≡ Some (Put t.hash s x)
    → IsAnswer t result x reply

-- A newest committed record is missed only for a named cause, and never is an older one answered in its place.
pub record MissedOnly {C : Type 0} (rules : Rules C) (Splits : Splitting C) (is_value : C → Type 0) : Type 0 where
  pub looks_up : LooksUpNewest rules Splits is_value
  pub loads : LoadsNewest rules Splits is_value

-- an Enqueue of this content was queued under this sequence
abbrev pub WasQueued : {C : Type 0} → (hash sequence : ℕ) → C → List (WorldEvent C) → Type 0
WasQueued h s c [] = ⊥
WasQueued h s c (Applies (Enqueue q n age d) (Queued u) new ∷ events) = ((q ≡ h) × (u ≡ s) × (d ≡ c)) ⊎ WasQueued h s c events
WasQueued h s c (event ∷ events) = WasQueued h s c events

-- a member of a list
abbrev pub IsAmong : {A : Type 0} → A → List A → Type 0
IsAmong x [] = ⊥
IsAmong x (y ∷ ys) = (x ≡ y) ⊎ IsAmong x ys

-- Each put is one that was recovered, or its content is that of the Enqueue that got its sequence. A reinsertion puts
-- again what one of these put.
abbrev pub PutsAreQueued : {C : Type 0} → Rules C → Splitting C → (C → Type 0) → Type 0
PutsAreQueued {C} rules Splits is_value =
    (first : World C) (events : List (WorldEvent C)) (h s : ℕ) (x : Outcome C)
    → Demands rules Splits is_value → IsOpened rules first → MayAllHappen rules Splits is_value first events
    → IsAmong (Put h s x) (after_all rules first events).history
    → IsAmong (Put h s x) first.history ⊎ ((c : C) × (x ≡ Holds c) × WasQueued h s c events)

-- The promise of a load is what was newest when its read was issued, and no later event changes it or the ticket.
abbrev pub PromisesStay : {C : Type 0} → Rules C → Splitting C → (C → Type 0) → Type 0
PromisesStay {C} rules Splits is_value =
    (w : World C) (h : ℕ) (throttled : Bool) (t : Ticket) (new : State C) (events : List (WorldEvent C))
    → MayHappen rules Splits is_value w (Applies (LoadBegin h throttled) (Read t) new)
    → (l : Load C) × ((after_all rules w (Applies (LoadBegin h throttled) (Read t) new ∷ events)).loads w.issued ≡ Some l)
    × (l.ticket ≡ t) × (l.promise ≡ newest h w.history)

-- The same of a whole run. A look-up issued a read, and whatever came between, a load ends with an entry by the bytes of that read. Then
-- the entry was newest at the look-up.
abbrev pub AnswersNewest : {C : Type 0} → Rules C → Splitting C → (C → Type 0) → Type 0
AnswersNewest {C} rules Splits is_value =
    (w : World C) (h : ℕ) (throttled : Bool) (t : Ticket) (looked : State C) (between : List (WorldEvent C)) (result : ReadResult) (c : C) (age : Age) (ended : State C) (l : Load C)
    → Demands rules Splits is_value → IsReached rules Splits is_value w
    → MayAllHappen rules Splits is_value w (Applies (LoadBegin h throttled) (Read t) looked ∷ between)
    → MayHappen rules Splits is_value (after_all rules w (Applies (LoadBegin h throttled) (Read t) looked ∷ between)) (Applies (LoadEnd t result) (Entry c age) ended)
    → (after_all rules w (Applies (LoadBegin h throttled) (Read t) looked ∷ between)).loads w.issued ≡ Some l → l.read_state ≡ ReadDone result
    → newest h w.history ≡ Some (Put h t.address.sequence (Holds c))

-- The same of a whole run. The newest event is the put of a record that isn't broken, and neither a reclaim of its block nor a destroy
-- began since. If the caller doesn't throttle, a read is issued. Whatever comes between, the load ends as `IsAnswer` says of that record,
-- unless such a reclaim or a destroy began by then.
abbrev pub MissedNewest : {C : Type 0} → Rules C → Splitting C → (C → Type 0) → Type 0
MissedNewest {C} rules Splits is_value =
    (w : World C) (h : ℕ) (reply : Reply C) (looked : State C) (b s : ℕ) (x : Outcome C)
    → Demands rules Splits is_value → IsReached rules Splits is_value w
    → MayHappen rules Splits is_value w (Applies (LoadBegin h false) reply looked) → w.core.steps < last_number
    → w.kept h ≡ Some b → newest h w.history ≡ Some (Put h s x) → x ≢ NoRecord
    → (t : Ticket) × (reply ≡ Read t)
    × ((between : List (WorldEvent C)) (result : ReadResult) (answer : Reply C) (ended : State C) (l : Load C) (d : ℕ)
    → MayAllHappen rules Splits is_value w (Applies (LoadBegin h false) (Read t) looked ∷ between)
    → MayHappen rules Splits is_value (after_all rules w (Applies (LoadBegin h false) (Read t) looked ∷ between)) (Applies (LoadEnd t result) answer ended)
    → (after_all rules w (Applies (LoadBegin h false) (Read t) looked ∷ between)).core.steps < last_number
    → (after_all rules w (Applies (LoadBegin h false) (Read t) looked ∷ between)).loads w.issued ≡ Some l → l.read_state ≡ ReadDone result → l.kept ≡ Some d
    → IsAnswer t result x answer)
