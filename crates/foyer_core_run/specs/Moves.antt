-- What moves make: the events of the world that they name, and the replies of these.
use Rattle.std.specs.Prelude.{◌≡◌, ◌≢◌, ℕ, ◌+◌, ◌≤◌, ◌⊎◌, Bool, List, [], ◌∷◌, ◌++◌, Option, Some, None}
use Rattle.foyer_core_model.specs.Access.{CleanIssued}
use Rattle.foyer_core_model.specs.Kind.{Kind}
use Rattle.foyer_core_model.specs.Reply as model_reply
use Rattle.foyer_core_model.specs.State.{State}
use Rattle.foyer_core_model.specs.Step as model_step
use Rattle.foyer_core_model.specs.World.{World, WorldEvent, Applies, ReadBegins, ReadEnds, ScanBegins, ScanEnds, WriteBegins, WriteEnds, CleanBegins, CleanEnds, is_none, after_all}
use Rattle.foyer_core_steps.specs.Asked.{step_of}
use Rattle.foyer_core_laws.specs.Content.{Content, Meaning}
use Rattle.foyer_core_laws.specs.CoreRules.{machine}
use Rattle.foyer_core_steps.specs.Replied.{IsReply}
use Rattle.foyer_core_laws.specs.Sizes.{AreValid}
use Rattle.foyer_core_steps.specs.declared.reply.Reply.{Reply}
use Rattle.foyer_core_laws.specs.Settings.{Settings}
use Rattle.foyer_core_steps.specs.declared.step.Step.TheVariants as step
use Rattle.foyer_core_run.specs.Due.{unread, due, IsUnscanned}
use Rattle.foyer_core_run.specs.declared.moves.Asked.{Asked}
use Rattle.foyer_core_run.specs.declared.moves.Asked.TheVariants as asks
use Rattle.foyer_core_run.specs.declared.moves.Move.{Move}
use Rattle.foyer_core_run.specs.declared.moves.Move.TheVariants as move

-- what a move asks for
abbrev pub asked : {K V P A : Type 0} → Move K V P A → Asked K V P A
asked (move.Enqueue piece size) = asks.Step (step.Enqueue piece size)
asked (move.Delete hash) = asks.Step (step.Delete hash)
asked (move.Wait flusher id) = asks.Step (step.Wait flusher id)
asked (move.MayContains hash) = asks.Step (step.MayContains hash)
asked (move.LoadBegin hash throttled) = asks.Step (step.LoadBegin hash throttled)
asked (move.LoadEnd ticket) = asks.LoadEnd ticket
asked (move.Receive flusher) = asks.Step (step.Receive flusher)
asked (move.FlushBegin flusher) = asks.Step (step.FlushBegin flusher)
asked (move.FlushBlock flusher) = asks.FlushBlock flusher
asked (move.FlushWrote flusher) = asks.FlushWrote flusher
asked (move.LogWrote flusher outcome) = asks.Step (step.LogWrote flusher outcome)
asked (move.FlushEnd flusher) = asks.Step (step.FlushEnd flusher)
asked move.ReclaimBegin = asks.Step step.ReclaimBegin
asked (move.ReclaimRead block) = asks.ReclaimRead block
asked (move.ReclaimForget block) = asks.Step (step.ReclaimForget block)
asked (move.ReclaimCleaned block) = asks.ReclaimCleaned block
asked move.ReclaimIdle = asks.Step step.ReclaimIdle
asked move.DestroyBegin = asks.Step step.DestroyBegin
asked move.DestroyClear = asks.Step step.DestroyClear
asked (move.DestroyCleaned block) = asks.DestroyCleaned block
asked move.Close = asks.Step step.Close

module _ {K V P A : Type 0} (m : Meaning K V P) where
  -- these accesses, then this step, with the one reply of it
  pub record IsApplied (accesses : List (WorldEvent Content)) (given : model_step.Step Content) (events : List (WorldEvent Content)) (said : List (Reply K V P A)) : Type 0 where
    pub it : model_reply.Reply Content
    pub after : State Content
    pub answer : Reply K V P A
    pub is : events ≡ accesses ++ Applies given it after ∷ []
    pub said_is : said ≡ answer ∷ []
    pub reply : IsReply m answer it

  -- nothing happens and nothing is said
  abbrev pub IsPassed : List (WorldEvent Content) → List (Reply K V P A) → Type 0
  IsPassed events said = (events ≡ []) × (said ≡ [])

  -- What a move makes in a world, in a run that began in another. A load ends if its read was issued and hasn't begun, with that read before
  -- it. A write is reported if one is due, with that write before it. It is passed over only if none is due, or none was issued in this run.
  -- The same holds for what a reclaim read, if that is due, and for the clean of a block.
  abbrev pub Makes : (from : World Content) → World Content → Asked K V P A → List (WorldEvent Content) → List (Reply K V P A) → Type 0
  Makes from w (asks.Step given) events said = IsApplied [] (step_of m given) events said
  Makes from w (asks.FlushBlock f) events said = IsApplied [] (model_step.FlushBlock f) events said
  Makes from w (asks.LoadEnd n) events said =
      (IsPassed events said × ((unread (w.loads (from.issued + n)) ≡ None) ⊎ (w.issued ≤ from.issued + n)))
      ⊎ ((t : model_step.Ticket) × (came : model_step.ReadResult) × (unread (w.loads (from.issued + n)) ≡ Some t)
      × IsApplied (ReadBegins (from.issued + n) ∷ ReadEnds (from.issued + n) came ∷ []) (model_step.LoadEnd t came) events said)
  Makes from w (asks.FlushWrote f) events said =
      (IsPassed events said × ((due (w.block_writes f) ≡ None) ⊎ (w.block_writes f ≡ from.block_writes f)))
      ⊎ ((ok : Bool) × (torn : ℕ → ℕ) × (due (w.block_writes f) ≡ None → ⊥)
      × IsApplied (WriteBegins f ∷ WriteEnds f ok torn ∷ []) (model_step.FlushWrote f ok) events said)
  Makes from w (asks.ReclaimRead b) events said =
      (IsPassed events said × ((IsUnscanned (w.scans b) → ⊥) ⊎ (w.scans b ≡ from.scans b)))
      ⊎ ((came : model_step.ReadResult) × IsUnscanned (w.scans b)
      × IsApplied (ScanBegins b ∷ ScanEnds b came ∷ []) (model_step.ReclaimRead b came) events said)
  Makes from w (asks.ReclaimCleaned b) events said =
      (IsPassed events said × ((w.clean_states b ≢ CleanIssued) ⊎ (w.clean_states b ≡ from.clean_states b)))
      ⊎ ((ok : Bool) × (torn : ℕ → ℕ) × (w.clean_states b ≡ CleanIssued)
      × IsApplied (CleanBegins b ∷ CleanEnds b ok torn ∷ []) (model_step.ReclaimCleaned b ok) events said)
  Makes from w (asks.DestroyCleaned b) events said =
      (IsPassed events said × ((w.clean_states b ≢ CleanIssued) ⊎ (w.clean_states b ≡ from.clean_states b)))
      ⊎ ((fault : Option Kind) × (torn : ℕ → ℕ) × (w.clean_states b ≡ CleanIssued)
      × IsApplied (CleanBegins b ∷ CleanEnds b (is_none fault) torn ∷ []) (model_step.DestroyCleaned b fault) events said)

module _ {K V P A : Type 0} (m : Meaning K V P) (s : Settings) (sound : AreValid s) (from : World Content) where
  -- what the first move makes, and what those after it make
  pub record IsMadeFirst (w : World Content) (x : Move K V P A) (rest : World Content → List (WorldEvent Content) → List (Reply K V P A) → Type 0) (events : List (WorldEvent Content)) (said : List (Reply K V P A)) : Type 0 where
    pub now : List (WorldEvent Content)
    pub later : List (WorldEvent Content)
    pub answers : List (Reply K V P A)
    pub others : List (Reply K V P A)
    pub is : events ≡ now ++ later
    pub said_is : said ≡ answers ++ others
    pub made : Makes m from w (asked x) now answers
    pub more : rest (after_all (machine m s sound) w now) later others

  -- what moves make, one after the other
  abbrev pub AreMade : World Content → List (Move K V P A) → List (WorldEvent Content) → List (Reply K V P A) → Type 0
  AreMade w [] events said = (events ≡ []) × (said ≡ [])
  AreMade w (x ∷ xs) events said = IsMadeFirst w x (λ v later others. AreMade v xs later others) events said
