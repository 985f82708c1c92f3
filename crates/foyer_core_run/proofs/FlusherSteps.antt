-- What the steps of one flusher's flushes do to its batch and its queue, and that they leave the other flushers alone.
use Rattle.std.proofs.Common.{◌≡◌, ℕ, Bool, true, false, List, [], ◌∷◌, Option, Some, None, inl, inr, refl, ap, subst, ◌∙◌}
use Rattle.foyer_core_model.specs.Changes.{Changes}
use Rattle.foyer_core_model.specs.Flush.{Begins, Describes, Finishes, Logs, Wrote}
use Rattle.foyer_core_model.specs.Follows.{Follows}
use Rattle.foyer_core_model.specs.Numbers.{put}
use Rattle.foyer_core_model.specs.Queue.{Waits}
use Rattle.foyer_core_model.specs.Receive.{TakesFront}
use Rattle.foyer_core_model.specs.Reply.{Reply, NotNow, Refused, Done, Empty, Received, Began, Written, NoBlock, Next, Committed, Failed, Ended}
use Rattle.foyer_core_model.specs.Rules.{Rules, Splitting}
use Rattle.foyer_core_model.specs.State.{Submission, Piece, Remove, Await, Reinsert, Batch, Flusher, State}
use Rattle.foyer_core_model.specs.Step.{Step, Wait, Receive, FlushBegin, FlushBlock, FlushWrote, LogWrote, FlushEnd}
use Rattle.foyer_core_model.specs.World.{World, WorldEvent, Applies, ReadBegins, ReadEnds, ScanBegins, ScanEnds, WriteBegins, WriteEnds, CleanBegins, CleanEnds, MayAllHappen, after, after_all}
use Rattle.foyer_core_model.proofs.Basics.{put_other, put_same}
use Rattle.foyer_core_run.specs.AtRest.{BeginsNone, KeepsOthers}
use Rattle.foyer_core_run.specs.Waiting.{AllSteps}

-- a step of the flushes of this flusher
abbrev pub IsOf : {C : Type 0} → ℕ → Step C → Type 0
IsOf f (Wait g id) = g ≡ f
IsOf f (Receive g) = g ≡ f
IsOf f (FlushBegin g) = g ≡ f
IsOf f (FlushBlock g) = g ≡ f
IsOf f (FlushWrote g is_ok) = g ≡ f
IsOf f (LogWrote g is_ok) = g ≡ f
IsOf f (FlushEnd g) = g ≡ f
IsOf f step = ⊥

module _ {C : Type 0} where
  flushers_of : (one two : State C) → one ≡ two → one.flushers ≡ two.flushers
  flushers_of one two e = ap (λ c. c.flushers) e

  -- one flusher alone changes
  put_keeps : (f : ℕ) (c new : State C) (φ : Flusher C) → new.flushers ≡ put c.flushers f φ → KeepsOthers f c new
  put_keeps f c new φ is = λ g ne. ap (λ k. k g) is ∙ put_other c.flushers f φ g ne

  pub keeps_same : (f : ℕ) (c new : State C) → new ≡ c → KeepsOthers f c new
  keeps_same f c new is = λ g ne. ap (λ k. k.flushers g) is

  pub keeps_more : (f : ℕ) (a b c : State C) → KeepsOthers f a b → KeepsOthers f b c → KeepsOthers f a c
  keeps_more f a b c one two = λ g ne. two g ne ∙ one g ne

  -- and its batch stays
  put_begins_none : (f : ℕ) (c new : State C) (φ : Flusher C) → new.flushers ≡ put c.flushers f φ → φ.batch ≡ (c.flushers f).batch → BeginsNone f c new
  put_begins_none f c new φ is batch =
      (put_keeps f c new φ is, λ none. ap (λ k. (k f).batch) is ∙ ap (λ k. k.batch) (put_same c.flushers f φ) ∙ batch ∙ none)

  pub begins_none_same : (f : ℕ) (c new : State C) → new ≡ c → BeginsNone f c new
  begins_none_same f c new is = (keeps_same f c new is, λ none. ap (λ k. (k.flushers f).batch) is ∙ none)

  pub begins_none_more : (f : ℕ) (a b c : State C) → BeginsNone f a b → BeginsNone f b c → BeginsNone f a c
  begins_none_more f a b c one two = (keeps_more f a b c one.0 two.0, λ none. two.1 (one.1 none))

module _ {C : Type 0} (rules : Rules C) where
  takes_none : (c new : State C) (f : ℕ) (queue : List (Submission C)) (reply : Reply C) → TakesFront rules c f queue reply new → BeginsNone f c new
  takes_none c new f [] Empty ok = begins_none_same f c new ok
  takes_none c new f (Piece h s n k ∷ rest) (Received None) (bytes, encoded, fits, eq) = put_begins_none f c new _ (flushers_of new _ eq) refl
  takes_none c new f (Piece h s n k ∷ rest) (Received (Some d)) ok = put_begins_none f c new _ (flushers_of new _ ok.2) refl
  takes_none c new f (Remove h s invalidated ∷ rest) (Received None) ok = put_begins_none f c new _ (flushers_of new _ ok) refl
  takes_none c new f (Await i ∷ rest) (Received None) ok = put_begins_none f c new _ (flushers_of new _ ok) refl
  takes_none c new f (Reinsert h bytes a ∷ rest) (Received None) ok =
      elim ok [
        | inl (held, fits, eq) ↦ put_begins_none f c new _ (flushers_of new _ eq) refl
        | inr (dropped, eq) ↦ put_begins_none f c new _ (flushers_of new _ eq) refl
      ]
  takes_none c new f queue reply ok = absurd ok

  waits_keeps : (c new : State C) (f id : ℕ) (reply : Reply C) → Waits rules c f id reply new → KeepsOthers f c new
  waits_keeps c new f id Done ok = put_keeps f c new _ (flushers_of new _ ok)
  waits_keeps c new f id reply ok = absurd ok

  -- only of an empty queue nothing is taken
  pub takes_empty : (c new : State C) (f : ℕ) (queue : List (Submission C)) → TakesFront rules c f queue Empty new → queue ≡ []
  takes_empty c new f [] ok = refl
  takes_empty c new f (Piece h s n k ∷ rest) ok = absurd ok
  takes_empty c new f (Remove h s invalidated ∷ rest) ok = absurd ok
  takes_empty c new f (Await i ∷ rest) ok = absurd ok
  takes_empty c new f (Reinsert h bytes a ∷ rest) ok = absurd ok

  describes_keeps : (c new : State C) (f : ℕ) (batch : Option (Batch C)) (reply : Reply C) → Describes rules c f batch reply new → KeepsOthers f c new
  describes_keeps c new f (Some batch) NoBlock ok = put_keeps f c new _ (flushers_of new _ ok.3)
  describes_keeps c new f (Some batch) (Written b writes) (s, rest, blocks, all, which) =
      elim which [
        | inl (own, is, eq) ↦ put_keeps f c new _ (flushers_of new _ eq)
        | inr (inl (fresh, ready, eq)) ↦ put_keeps f c new _ (flushers_of new _ eq)
        | inr (inr (fresh, ready, free, eq)) ↦ put_keeps f c new _ (flushers_of new _ eq)
      ]
  describes_keeps c new f batch reply ok = absurd ok

  wrote_keeps : (c new : State C) (f : ℕ) (is_ok : Bool) (batch : Option (Batch C)) (reply : Reply C) → Wrote rules c f is_ok batch reply new → KeepsOthers f c new
  wrote_keeps c new f true (Some batch) Next (r, first, second, rest, writing, left, eq) = put_keeps f c new _ (flushers_of new _ eq)
  wrote_keeps c new f true (Some batch) (Committed n) (r, last, writing, left, count, eq) = put_keeps f c new _ (flushers_of new _ eq)
  wrote_keeps c new f is_ok (Some batch) Failed (r, first, rest, writing, left, grown, eq) = put_keeps f c new _ (flushers_of new _ eq)
  wrote_keeps c new f is_ok batch reply ok = absurd ok

  logs_keeps : (c new : State C) (f : ℕ) (is_ok : Bool) (batch : Option (Batch C)) (reply : Reply C) → Logs rules c f is_ok batch reply new → KeepsOthers f c new
  logs_keeps c new f is_ok (Some batch) Done ok = put_keeps f c new _ (flushers_of new _ ok)
  logs_keeps c new f is_ok batch reply ok = absurd ok

  -- a batch that is finished is over
  pub finishes_ends : (c new : State C) (f : ℕ) (batch : Option (Batch C)) (reply : Reply C) → Finishes rules c f batch reply new → KeepsOthers f c new × ((new.flushers f).batch ≡ None)
  finishes_ends c new f (Some batch) (Ended pieces waits) ok =
      (put_keeps f c new _ (flushers_of new _ ok.2), ap (λ k. (k.flushers f).batch) ok.2 ∙ ap (λ k. k.batch) (put_same c.flushers f (record (c.flushers f) { batch = None })))
  finishes_ends c new f batch reply ok = absurd ok

module _ {C : Type 0} (rules : Rules C) (Splits : Splitting C) where
  begins_keeps : (c new : State C) (f : ℕ) (reply : Reply C) → Begins rules Splits c f reply new → KeepsOthers f c new
  begins_keeps c new f (Began blocks marks) ok = put_keeps f c new _ (flushers_of new _ ok.2)
  begins_keeps c new f reply ok = absurd ok

  changes_keep : (c new : State C) (f : ℕ) (step : Step C) (reply : Reply C) → IsOf f step → Changes rules Splits c step reply new → KeepsOthers f c new
  changes_keep c new f (Wait g id) reply is ok = subst (λ k. KeepsOthers k c new) is (waits_keeps rules c new g id reply ok)
  changes_keep c new f (Receive g) reply is ok = subst (λ k. KeepsOthers k c new) is (takes_none rules c new g (c.flushers g).queue reply ok).0
  changes_keep c new f (FlushBegin g) reply is ok = subst (λ k. KeepsOthers k c new) is (begins_keeps c new g reply ok)
  changes_keep c new f (FlushBlock g) reply is ok = subst (λ k. KeepsOthers k c new) is (describes_keeps rules c new g (c.flushers g).batch reply ok)
  changes_keep c new f (FlushWrote g is_ok) reply is ok = subst (λ k. KeepsOthers k c new) is (wrote_keeps rules c new g is_ok (c.flushers g).batch reply ok)
  changes_keep c new f (LogWrote g is_ok) reply is ok = subst (λ k. KeepsOthers k c new) is (logs_keeps rules c new g is_ok (c.flushers g).batch reply ok)
  changes_keep c new f (FlushEnd g) reply is ok = subst (λ k. KeepsOthers k c new) is (finishes_ends rules c new g (c.flushers g).batch reply ok).0
  changes_keep c new f step reply is ok = absurd is

  -- a step of a flusher's flushes leaves the others alone
  pub follows_keep : (c new : State C) (f : ℕ) (step : Step C) (reply : Reply C) → IsOf f step → Follows rules Splits c step reply new → KeepsOthers f c new
  follows_keep c new f step (NotNow back) is ok = keeps_same f c new ok.2
  follows_keep c new f step (Refused kind back) is ok = keeps_same f c new ok.2
  follows_keep c new f step reply is (few, turn, (done, does, eq)) = λ g ne. ap (λ k. k.flushers g) eq ∙ changes_keep c done f step reply is does g ne

  -- after a write that failed no other is asked for
  pub wrote_next : (c new : State C) (f : ℕ) (is_ok : Bool) → is_ok ≡ false → Follows rules Splits c (FlushWrote f is_ok) Next new → ⊥
  wrote_next c new f is_ok failed (few, turn, (done, does, eq)) =
      never (c.flushers f).batch (subst (λ ok. Wrote rules c f ok (c.flushers f).batch Next done) failed does)
    where
      never : (batch : Option (Batch C)) → Wrote rules c f false batch Next done → ⊥
      never (Some batch) ok = ok
      never None ok = ok

  -- nor is it by a block that is asked for
  pub described_next : (c new : State C) (f : ℕ) → Follows rules Splits c (FlushBlock f) Next new → ⊥
  described_next c new f (few, turn, (done, does, eq)) = never (c.flushers f).batch does
    where
      never : (batch : Option (Batch C)) → Describes rules c f batch Next done → ⊥
      never (Some batch) ok = ok
      never None ok = ok

  -- what is received begins no batch
  pub receives_none : (c new : State C) (f : ℕ) (reply : Reply C) → Follows rules Splits c (Receive f) reply new → BeginsNone f c new
  receives_none c new f (NotNow back) ok = begins_none_same f c new ok.2
  receives_none c new f (Refused kind back) ok = begins_none_same f c new ok.2
  receives_none c new f reply (few, turn, (done, does, eq)) =
      let took = takes_none rules c done f (c.flushers f).queue reply does in
      (λ g ne. ap (λ k. k.flushers g) eq ∙ took.0 g ne, λ none. ap (λ k. (k.flushers f).batch) eq ∙ took.1 none)

  -- and so do events with no other step
  pub all_keep : (is_value : C → Type 0) (w : World C) (f : ℕ) (events : List (WorldEvent C)) → MayAllHappen rules Splits is_value w events → AllSteps (IsOf f) events → KeepsOthers f w.core (after_all rules w events).core
  all_keep is_value w f [] ok is = λ g ne. refl
  all_keep is_value w f (Applies step reply new ∷ es) ok is =
      let next = after rules w (Applies step reply new) in
      keeps_more f w.core new (after_all rules next es).core (follows_keep w.core new f step reply is.0 (ok.0).1) (all_keep is_value next f es ok.1 is.1)
  all_keep is_value w f (ReadBegins n ∷ es) ok is = all_keep is_value (after rules w (ReadBegins n)) f es ok.1 is
  all_keep is_value w f (ReadEnds n result ∷ es) ok is = all_keep is_value (after rules w (ReadEnds n result)) f es ok.1 is
  all_keep is_value w f (ScanBegins b ∷ es) ok is = all_keep is_value (after rules w (ScanBegins b)) f es ok.1 is
  all_keep is_value w f (ScanEnds b result ∷ es) ok is = all_keep is_value (after rules w (ScanEnds b result)) f es ok.1 is
  all_keep is_value w f (WriteBegins g ∷ es) ok is = all_keep is_value (after rules w (WriteBegins g)) f es ok.1 is
  all_keep is_value w f (WriteEnds g is_ok torn ∷ es) ok is = all_keep is_value (after rules w (WriteEnds g is_ok torn)) f es ok.1 is
  all_keep is_value w f (CleanBegins b ∷ es) ok is = all_keep is_value (after rules w (CleanBegins b)) f es ok.1 is
  all_keep is_value w f (CleanEnds b is_ok torn ∷ es) ok is = all_keep is_value (after rules w (CleanEnds b is_ok torn)) f es ok.1 is
