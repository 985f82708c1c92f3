-- What holds of a run that began with an opened core: the laws, of its own events and replies.
use Rattle.std.specs.Prelude.{◌≡◌, ◌≢◌, ◌⊎◌, ℕ, ◌<◌, Bool, false, List, [], ◌∷◌, ◌++◌, Some}
use Rattle.foyer_core_model.specs.Access.{Load, ReadDone}
use Rattle.foyer_core_model.specs.Event.{Put, newest}
use Rattle.foyer_core_model.specs.Laws.{IsAmong, IsAnswer, WasQueued}
use Rattle.foyer_core_model.specs.Numbers.{last_number}
use Rattle.foyer_core_model.specs.Opened.{IsOpened as IsOpenedWorld}
use Rattle.foyer_core_model.specs.Record.{Address, Outcome, NoRecord, Holds}
use Rattle.foyer_core_model.specs.Reply as model_reply
use Rattle.foyer_core_model.specs.Rules.{Rules}
use Rattle.foyer_core_model.specs.State.{State}
use Rattle.foyer_core_model.specs.Step.{Age, ReadResult, Ticket, LoadBegin, LoadEnd}
use Rattle.foyer_core_model.specs.World.{World, WorldEvent, Applies, MayAllHappen, after_all}
use Rattle.foyer_core_laws.specs.Begins.{opened_world}
use Rattle.foyer_core_laws.specs.Content.{Content, Meaning}
use Rattle.foyer_core_laws.specs.CoreRules.{layout}
use Rattle.foyer_core_laws.specs.CoreRules.{machine}
use Rattle.foyer_core_laws.specs.CoreRules.{IsEncoded}
use Rattle.foyer_block_recover.specs.Opening.{Opened}
use Rattle.foyer_block_recover.specs.Recovery.{IsRecovered}
use Rattle.foyer_block_recover.specs.declared.block.recover.RecoverMode.{RecoverMode}
use Rattle.foyer_core_laws.specs.Sizes.{AreValid, sizes_in}
use Rattle.foyer_core_steps.specs.declared.reply.Reply.{Reply}
use Rattle.foyer_core_laws.specs.Settings.{Settings}
use Rattle.foyer_core_run.specs.Moves.{AreMade}
use Rattle.foyer_core_run.specs.declared.moves.Move.{Move}

module _ {C : Type 0} (rules : Rules C) (first : World C) (events : List (WorldEvent C)) where
  -- A look-up issued a read, and whatever came between, a load ended with an entry by the bytes of that read. Then the entry was newest of
  -- its hash at the look-up.
  abbrev pub EntriesAreNewest : Type 0
  EntriesAreNewest =
      (before between rest : List (WorldEvent C)) (h : ℕ) (throttled : Bool) (t : Ticket) (looked : State C) (result : ReadResult) (c : C) (age : Age) (ended : State C) (l : Load C)
      → events ≡ before ++ ((Applies (LoadBegin h throttled) (model_reply.Read t) looked ∷ between) ++ Applies (LoadEnd t result) (model_reply.Entry c age) ended ∷ rest)
      → (after_all rules (after_all rules first before) (Applies (LoadBegin h throttled) (model_reply.Read t) looked ∷ between)).loads (after_all rules first before).issued ≡ Some l
      → l.read_state ≡ ReadDone result
      → newest h (after_all rules first before).history ≡ Some (Put h t.address.sequence (Holds c))

  -- a look-up in these events issued the read of this ticket, and this content was newest of its hash at that look-up
  pub record WasNewest (before : List (WorldEvent C)) (t : Ticket) (c : C) : Type 0 where
    pub earlier : List (WorldEvent C)
    pub between : List (WorldEvent C)
    pub hash : ℕ
    pub throttled : Bool
    pub looked : State C
    pub is : before ≡ earlier ++ Applies (LoadBegin hash throttled) (model_reply.Read t) looked ∷ between
    pub put : newest hash (after_all rules first earlier).history ≡ Some (Put hash t.address.sequence (Holds c))

  -- whatever a load ends with was newest of its hash at its look-up
  abbrev pub AnswersAreNewest : Type 0
  AnswersAreNewest =
      (before rest : List (WorldEvent C)) (t : Ticket) (result : ReadResult) (c : C) (age : Age) (ended : State C)
      → events ≡ before ++ Applies (LoadEnd t result) (model_reply.Entry c age) ended ∷ rest → WasNewest before t c

  -- If the newest event of a hash was the put of a record, the look-up issued a read. The load by the bytes of that read was answered by that
  -- record, or by the cause that is named for it.
  abbrev pub NewestAreAnswered : Type 0
  NewestAreAnswered =
      (before after : List (WorldEvent C)) (h : ℕ) (reply : model_reply.Reply C) (looked : State C) (b s : ℕ) (x : Outcome C)
      → events ≡ before ++ Applies (LoadBegin h false) reply looked ∷ after
      → (after_all rules first before).core.steps < last_number
      → (after_all rules first before).kept h ≡ Some b → newest h (after_all rules first before).history ≡ Some (Put h s x) → x ≢ NoRecord
      → (t : Ticket) × (reply ≡ model_reply.Read t)
      × ((between rest : List (WorldEvent C)) (result : ReadResult) (answer : model_reply.Reply C) (ended : State C) (l : Load C) (d : ℕ)
      → after ≡ between ++ Applies (LoadEnd t result) answer ended ∷ rest
      → (after_all rules (after_all rules first before) (Applies (LoadBegin h false) (model_reply.Read t) looked ∷ between)).core.steps < last_number
      → (after_all rules (after_all rules first before) (Applies (LoadBegin h false) (model_reply.Read t) looked ∷ between)).loads (after_all rules first before).issued ≡ Some l
      → l.read_state ≡ ReadDone result → l.kept ≡ Some d
      → IsAnswer t result x answer)

  -- each put of the history was found, or is of the content of the Enqueue that got its sequence
  abbrev pub PutsWereQueued : Type 0
  PutsWereQueued =
      (h s : ℕ) (x : Outcome C) → IsAmong (Put h s x) (after_all rules first events).history
      → IsAmong (Put h s x) first.history ⊎ ((c : C) × (x ≡ Holds c) × WasQueued h s c events)

-- Events that may happen from an opened world on, which these moves name and whose replies these are: and the laws hold
-- of them.
pub record IsLawful {K V P A : Type 0} (m : Meaning K V P) (s : Settings) (sound : AreValid s) (first : World Content) (moves : List (Move K V P A)) (said : List (Reply K V P A)) : Type 0 where
  pub opened : IsOpenedWorld (machine m s sound) first
  pub events : List (WorldEvent Content)
  pub happened : MayAllHappen (machine m s sound) (layout s) (IsEncoded m.is_key m.is_value) first events
  pub made : AreMade m s sound first first moves events said
  pub answers : AnswersAreNewest (machine m s sound) first events
  pub entries : EntriesAreNewest (machine m s sound) first events
  pub misses : NewestAreAnswered (machine m s sound) first events
  pub puts : PutsWereQueued (machine m s sound) first events

-- the same of a world with what an opening found over these bytes and marks; if the disk shows them, that is exactly what they give
pub record IsLawfulFrom {K V P A : Type 0} (m : Meaning K V P) (s : Settings) (sound : AreValid s) (bytes shown : ℕ → ℕ → ℕ) (surely_has : ℕ → ℕ → ℕ → Type 0) (mode : RecoverMode) (marks : List (ℕ × ℕ)) (moves : List (Move K V P A)) (said : List (Reply K V P A)) : Type 0 where
  pub found : Opened
  pub addresses : List (ℕ × Address)
  pub recovered : IsRecovered (sizes_in s) s.blocks shown surely_has mode marks found
  pub lawful : IsLawful m s sound (opened_world (machine m s sound) bytes found addresses) moves said

-- the same of a world in which nothing was found
pub record IsLawfulEmpty {K V P A : Type 0} (m : Meaning K V P) (s : Settings) (sound : AreValid s) (bytes : ℕ → ℕ → ℕ) (moves : List (Move K V P A)) (said : List (Reply K V P A)) : Type 0 where
  pub found : Opened
  pub next : found.next ≡ 1
  pub lawful : IsLawful m s sound (opened_world (machine m s sound) bytes found []) moves said
