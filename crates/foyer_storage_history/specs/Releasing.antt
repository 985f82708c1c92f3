-- What the end of a batch, and the front of a queue, have released.
use Rattle.std.specs.Prelude.{◌≡◌, ℕ, List, [], Option, Some, None, slice_get}
use Rattle.std.specs.declared.alloc.Global.{Global}
use Rattle.foyer_policy_piece.specs.Referred.{Referred}
use Rattle.foyer_policy_release.specs.declared.noted.AllReleased.{AllReleased}
use Rattle.foyer_policy_release.specs.declared.shown.Released.{Released}
use Rattle.foyer_core_chronicle.specs.declared.View.{View}
use Rattle.foyer_core_laws.specs.Content.{Meaning}
use Rattle.foyer_core_steps.specs.declared.reply.Reply.{Reply}
use Rattle.foyer_core_steps.specs.declared.reply.Reply.TheVariants as replies
use Rattle.foyer_core_steps.specs.declared.step.Step.TheVariants as steps
use Rattle.foyer_core_told.specs.declared.event.Told.{Told}
use Rattle.foyer_core_threads.specs.Going.{IsMadeAgain}
use Rattle.foyer_storage_history.specs.declared.maintainer.Front.{Front}
use Rattle.foyer_storage_history.specs.declared.maintainer.Front.TheVariants as front

module _ {K V P : Type 0} where
  -- the pieces that the end of a batch hands back
  abbrev pub pieces_of : Reply K V P Global → List (Referred K V P)
  pieces_of (replies.Ended pieces waits) = pieces.items
  pieces_of other = []

  -- the pieces that were released
  abbrev pub pieces_in : Option (AllReleased K V P Global) → List (Referred K V P)
  pieces_in None = []
  pieces_in (Some all) = all.pieces.items

  -- the end of a batch answers this wait
  abbrev pub AnswersWait : (id : ℕ) → Reply K V P Global → Type 0
  AnswersWait id (replies.Ended pieces waits) = (at : ℕ) × (slice_get waits.items at ≡ Some id)
  AnswersWait id other = ⊥

  -- what became of the front of a queue: a piece that was returned was released by its own number
  abbrev pub IsFrontOf : Reply K V P Global → Front → Type 0
  IsFrontOf (replies.Received None) became = became ≡ front.Taken
  IsFrontOf (replies.Received (Some piece)) became = (shown : Released) × (became ≡ front.Back shown) × (shown.hash ≡ piece.piece.hash) × (shown.number ≡ piece.number)
  IsFrontOf other became = became ≡ front.Over

module _ {K V P D : Type 0} (m : Meaning K V P) (byte_at : D → ℕ → ℕ → ℕ) where
  -- A flusher was asked to end its batch, and all pieces that the reply hands back were released, each by its own number.
  pub record HasReleased (mine after : View (Told K V P Global D)) (flusher : ℕ) (released : List (Referred K V P)) : Type 0 where
    pub reply : Reply K V P Global
    pub made : IsMadeAgain m byte_at mine after (steps.FlushEnd flusher) reply
    pub pieces : released ≡ pieces_of reply
