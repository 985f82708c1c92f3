-- What a newer event of a hash hides stays hidden: no look-up issues a read of a smaller sequence.
use Rattle.std.proofs.Common.{◌≡◌, ℕ, ◌<◌, ◌≤◌, ◌==◌, nat_le, Bool, true, false, ◌&&◌, if◌then◌else◌, List, [], ◌∷◌, map, Option, Some, None, ◌⊎◌, inl, inr, refl, sym, ap, subst, ◌∙◌, arith}
use Rattle.std.proofs.lemmas.Bool.{eqb-true, eqb-false}
use Rattle.std.proofs.lemmas.Bool.Decides.{nat_tests}
use Rattle.foyer_core_model.specs.Record.{Slot, Indexed, Mark, Outcome, Holds, Source, Given, Reread, Record}
use Rattle.foyer_core_model.specs.Index.{holds}
use Rattle.foyer_core_model.specs.Position.{records_of}
use Rattle.foyer_core_model.specs.State.{Submission, Piece, Remove, Await, Reinsert, Batch, State}
use Rattle.foyer_core_model.specs.Rules.{Rules, flusher_of, Splitting}
use Rattle.foyer_core_model.specs.Step.{Age, Ticket, Step, Enqueue, Delete, LoadBegin, Receive, FlushWrote, DestroyClear}
use Rattle.foyer_core_model.specs.Reply.{Reply, NotNow, Refused, Ignored, Queued, Dropped, Deleted, Read, Empty, Received, Next, Committed, Failed, Cleared}
use Rattle.foyer_core_model.specs.Commit.{committed_one}
use Rattle.foyer_core_model.specs.Queue.{Enqueues, Deletes}
use Rattle.foyer_core_model.specs.Receive.{TakesFront}
use Rattle.foyer_core_model.specs.Flush.{Wrote}
use Rattle.foyer_core_model.specs.Load.{Looks}
use Rattle.foyer_core_model.specs.Destroy.{Clears}
use Rattle.foyer_core_model.specs.InTurn.{MayClear, InTurn}
use Rattle.foyer_core_model.specs.Changes.{Changes}
use Rattle.foyer_core_model.specs.Follows.{Follows}
use Rattle.foyer_core_model.specs.Event.{Event, Put, Deletion, sequence_in, newest, outcome_in, put_event, with_puts, puts_of, with_returned, events_of}
use Rattle.foyer_core_model.specs.Access.{BlockWrites}
use Rattle.foyer_core_model.specs.World.{World, WorldEvent, Applies, ReadBegins, ReadEnds, ScanBegins, ScanEnds, WriteBegins, WriteEnds, CleanBegins, CleanEnds, after, MayHappen}
use Rattle.foyer_core_model.specs.Laws.{Demands}
use Rattle.foyer_format_layout.specs.Each.{Each}
use Rattle.foyer_format_layout.proofs.EachLaws.{each_front}
use Rattle.foyer_core_model.proofs.Invariant.{Ground, ground_of, writing_in, batch_records, line_of, SlotOk, WritingOk, RecordWaits}
use Rattle.foyer_core_model.proofs.CommitSteps.{newest_other, noted_one, noted, noted_is, holds_is, SourceBrings, Brings, all_bring}
use Rattle.foyer_core_model.proofs.RereadFlushes.{brings_of}
use Rattle.foyer_core_model.proofs.SoundKept.{IsKnown}
use Rattle.foyer_core_model.proofs.Traced.{SubmissionKnown, SourceKnown, RecordKnown, IsTracedAt}
use Rattle.foyer_core_store_runs.proofs.Draws.{event_draws}
use Rattle.foyer_core_store_runs.proofs.Tracks.{AllKnown, IsQueuedKnown, IsQuiet, quiet, known_stays}

module _ {C : Type 0} (h u : ℕ) where
  -- the newest event has at least this sequence
  abbrev pub IsAbove : List (Event C) → Type 0
  IsAbove H = u ≤ sequence_in (newest h H)

  -- or there is none
  abbrev pub IsAboveAny : List (Event C) → Type 0
  IsAboveAny H = IsAbove H ⊎ (newest h H ≡ None)

  put_stays : (q s : ℕ) (x : Outcome C) (H : List (Event C)) → IsAbove H → IsAbove (Put q s x ∷ H)
  put_stays q s x H above = go (q == h) (nat_le (sequence_in (newest h H)) s) refl
    where
      go : (p b : Bool) → nat_le (sequence_in (newest h H)) s ≡ b → u ≤ sequence_in (if p && b then Some (Put q s x) else newest h H)
      go true true e = let le : sequence_in (newest h H) ≤ s = grind (arith, nat_tests) in omega arith
      go true false e = above
      go false b e = above

  put_above : (q s : ℕ) (x : Outcome C) (H : List (Event C)) → (q ≡ h → u ≤ s) → IsAboveAny H → IsAboveAny (Put q s x ∷ H)
  put_above q s x H at_least ok = go (q == h) (nat_le (sequence_in (newest h H)) s) refl refl
    where
      keeps : (H' : Option (Event C)) → H' ≡ newest h H → (u ≤ sequence_in H') ⊎ (H' ≡ None)
      keeps H' e = subst (λ k. (u ≤ sequence_in k) ⊎ (k ≡ None)) (sym e) ok

      go : (p b : Bool) → (q == h) ≡ p → nat_le (sequence_in (newest h H)) s ≡ b
          → (u ≤ sequence_in (if p && b then Some (Put q s x) else newest h H)) ⊎ ((if p && b then Some (Put q s x) else newest h H) ≡ None)
      go true true e k = inl (at_least (eqb-true q h e))
      go true false e k = keeps (newest h H) refl
      go false b e k = keeps (newest h H) refl

  -- a reinsertion puts what is newest again
  again_above : (q s : ℕ) (x y : Outcome C) (H : List (Event C)) → newest q H ≡ Some (Put q s y) → IsAboveAny H → IsAboveAny (Put q s x ∷ H)
  again_above q s x y H is ok =
      elim ok [
        | inl above ↦ inl (put_stays q s x H above)
        | inr none ↦ inr (newest_other q s x H h (λ e. absurd (let f : newest h H ≡ Some (Put q s y) = subst (λ k. newest k H ≡ Some (Put q s y)) e is in let g : None ≡ Some (Put q s y) = sym none ∙ f in cc)) ∙ none)
      ]

  deletion_stays : (q s : ℕ) (H : List (Event C)) → IsAbove H → IsAbove (Deletion q s ∷ H)
  deletion_stays q s H above = go (q == h) (nat_le (sequence_in (newest h H)) s) refl
    where
      go : (p b : Bool) → nat_le (sequence_in (newest h H)) s ≡ b → u ≤ sequence_in (if p && b then Some (Deletion q s) else newest h H)
      go true true e = let le : sequence_in (newest h H) ≤ s = grind (arith, nat_tests) in omega arith
      go true false e = above
      go false b e = above

  deletion_above : (q s : ℕ) (H : List (Event C)) → (q ≡ h → u ≤ s) → IsAboveAny H → IsAboveAny (Deletion q s ∷ H)
  deletion_above q s H at_least ok = go (q == h) (nat_le (sequence_in (newest h H)) s) refl
    where
      go : (p b : Bool) → (q == h) ≡ p → (u ≤ sequence_in (if p && b then Some (Deletion q s) else newest h H)) ⊎ ((if p && b then Some (Deletion q s) else newest h H) ≡ None)
      go true true e = inl (at_least (eqb-true q h e))
      go true false e = ok
      go false b e = ok

  puts_stay : (rs : List (Record C)) (H : List (Event C)) → IsAbove H → IsAbove (with_puts rs H)
  puts_stay [] H above = above
  puts_stay (r ∷ rs) H above = puts_stay rs (put_event r r.source H ∷ H) (one r.source)
    where
      one : (src : Source C) → IsAbove (put_event r src H ∷ H)
      one (Given c) = put_stays r.hash r.sequence (Holds c) H above
      one (Reread a) = put_stays r.hash r.sequence (outcome_in (newest r.hash H)) H above

-- a deletion is no older than what is newest after it
pub deletion_covers : {C : Type 0} (h s : ℕ) (H : List (Event C)) → s ≤ sequence_in (newest h (Deletion h s ∷ H))
deletion_covers {C} h s H = go (h == h) (nat_le (sequence_in (newest h H)) s) refl refl
  where
    go : (p b : Bool) → (h == h) ≡ p → nat_le (sequence_in (newest h H)) s ≡ b → s ≤ sequence_in (if p && b then Some (Deletion h s) else newest h H)
    go true true e k = omega arith
    go true false e k = let lt : s < sequence_in (newest h H) = grind (arith, nat_tests) in omega arith
    go false b e k = absurd (eqb-false h h e refl)

-- every piece of the hash on its way has at least this sequence
abbrev pub at_least : {C : Type 0} → (h u : ℕ) → ℕ → ℕ → C → Type 0
at_least h u q s c = q ≡ h → u ≤ s

module _ {C : Type 0} (rules : Rules C) (h u : ℕ) where
  one_above : (r : Record C) (src : Source C) (apart : ℕ → ℕ → Type 0) (m : ℕ → Option Slot) (H : List (Event C)) (g : Ground) (block_writes : ℕ → BlockWrites) → SourceKnown (at_least h u) r src
      → SourceBrings rules g block_writes apart m H r src → IsAboveAny h u H → IsAboveAny h u (noted_one r src (m r.hash) H)
  one_above r (Given c) apart m H g block_writes known brings ok = put_above h u r.hash r.sequence (Holds c) H known ok
  one_above r (Reread over) apart m H g block_writes known brings ok = go (holds over (m r.hash)) refl
    where
      go : (t : Bool) → holds over (m r.hash) ≡ t → IsAboveAny h u (if t then Put r.hash r.sequence (outcome_in (newest r.hash H)) ∷ H else H)
      go true is = again_above h u r.hash r.sequence (outcome_in (newest r.hash H)) (rules.pair_of r.bytes r.hash r.sequence) H (brings.2 (holds_is over (m r.hash) is)) ok
      go false is = ok

  all_above : (g : Ground) (block_writes : ℕ → BlockWrites) (b n : ℕ) (ps : List (ℕ × Record C)) (m : ℕ → Option Slot) (H : List (Event C)) → Each (RecordKnown (at_least h u)) (map (λ p. p.1) ps)
      → Each (Brings rules g block_writes b n m H) (map (λ p. p.1) ps) → IsAboveAny h u H → IsAboveAny h u (noted b n ps m H)
  all_above g block_writes b n [] m H known brings ok = ok
  all_above g block_writes b n (p ∷ ps) m H known brings ok =
      all_above g block_writes b n ps (committed_one b n p m) (noted_one p.1 (p.1).source (m (p.1).hash) H) known.1 (all_bring rules g block_writes b n p m H (map (λ q. q.1) ps) brings.1)
      (one_above p.1 (p.1).source (λ d k. d ≡ b → k ≡ n → ⊥) m H g block_writes known.0 brings.0 ok)

  -- the commit of a block
  wrote_above : (w : World C) (f : ℕ) (good : Bool) (batch : Option (Batch C)) (reply : Reply C) (new : State C) → (w.core.flushers f).batch ≡ batch → Wrote rules w.core f good batch reply new
      → (Splits : Splitting C) (is_value : C → Type 0) (demands : Demands rules Splits is_value) → IsKnown rules Splits is_value demands w → AllKnown (at_least h u) w → IsAboveAny h u w.history
      → IsAboveAny h u (events_of w.core reply (FlushWrote f good) w.history)
  wrote_above w f true (Some batch) Next new is ok Splits is_value demands known all above = above
  wrote_above w f true (Some batch) (Committed n) new is (r, last, writing, left, count, eq) Splits is_value demands known all above =
      subst (IsAboveAny h u) (sym (ap (λ k. with_puts (puts_of w.core k) w.history) whole ∙ noted_is r.block (w.core.filling r.block) r.records w.core.index w.history))
      (all_above (ground_of w) w.block_writes r.block (w.core.filling r.block) r.records w.core.index w.history
      (each_front (RecordKnown (at_least h u)) (map (λ p. p.1) r.records) (records_of batch.blocks) (subst (λ k. Each (RecordKnown (at_least h u)) (batch_records k)) whole (all f).written))
      (brings_of rules w f r.block (map (λ p. p.1) r.records) ((known.sound.flushers f).owned r.block own)
      (each_front (RecordWaits rules w.core.index w.history w.core.place w.core.filling) (map (λ p. p.1) r.records) (records_of batch.blocks)
      (subst (λ k. Each (RecordWaits rules w.core.index w.history w.core.place w.core.filling) (batch_records k)) whole (known.again.waits f).batch)))
      above)
    where
      whole : (w.core.flushers f).batch ≡ Some (record batch { writing = Some r })
      whole = is ∙ (λ i. Some (record batch { writing = writing i }))

      own : (w.core.flushers f).own ≡ Some r.block
      own = (subst (λ k. WritingOk rules (ground_of w) (w.core.flushers f).own (writing_in k) (w.block_writes f)) whole (known.sound.flushers f).writing).0
  wrote_above w f good (Some batch) Failed new is ok Splits is_value demands known all above = above
  wrote_above w f good batch reply new is ok Splits is_value demands known all above = absurd ok

-- of a hash nothing older than this is answered any more
pub record IsPast {C : Type 0} (w : World C) (h u : ℕ) : Type 0 where
  pub drawn : u < w.core.next
  pub above : IsAbove h u w.history ⊎ ((newest h w.history ≡ None) × AllKnown (at_least h u) w)

module _ {C : Type 0} (rules : Rules C) (Splits : Splitting C) (is_value : C → Type 0) (demands : Demands rules Splits is_value) (h u : ℕ) where
  -- what IsPast asks of a history and of what is on its way
  abbrev Hidden : World C → Type 0
  Hidden w = IsAbove h u w.history ⊎ ((newest h w.history ≡ None) × AllKnown (at_least h u) w)

  -- what is hidden stays hidden if the history continues
  goes_on : (w v : World C) → (IsAbove h u w.history → IsAbove h u v.history) → (AllKnown (at_least h u) w → IsAboveAny h u w.history → IsAboveAny h u v.history) → (AllKnown (at_least h u) w → AllKnown (at_least h u) v) → Hidden w → Hidden v
  goes_on w v stays any tracks hidden =
      elim hidden [
        | inl above ↦ inl (stays above)
        | inr (none, all) ↦ elim (any all (inr none)) [ inl above ↦ inl above | inr still ↦ inr (still, tracks all) ]
      ]

  same_history : (w : World C) (step : Step C) (reply : Reply C) (new : State C) → IsQuiet rules Splits is_value demands (at_least h u) step → (AllKnown (at_least h u) w → AllKnown (at_least h u) (after rules w (Applies step reply new)))
      → Hidden w → Hidden (after rules w (Applies step reply new))
  same_history w step reply new none tracks hidden =
      let eq : events_of w.core reply step w.history ≡ w.history = quiet rules Splits is_value demands (at_least h u) w.core w.history reply step none in
      goes_on w (after rules w (Applies step reply new)) (λ above. subst (IsAbove h u) (sym eq) above) (λ all any. subst (IsAboveAny h u) (sym eq) any) tracks hidden

  deletes_hidden : (w : World C) (k : ℕ) (reply : Reply C) (new done : State C) → u < w.core.next → Deletes rules w.core k reply done → (AllKnown (at_least h u) w → AllKnown (at_least h u) (after rules w (Applies (Delete k) reply new)))
      → Hidden w → Hidden (after rules w (Applies (Delete k) reply new))
  deletes_hidden w k (Deleted s) new done drawn ok tracks hidden =
      let le : u ≤ s = (let e : s ≡ w.core.next = ok.0 in omega arith) in
      goes_on w (after rules w (Applies (Delete k) (Deleted s) new)) (λ above. deletion_stays h u k s w.history above) (λ all any. deletion_above h u k s w.history (λ _. le) any) tracks hidden
  deletes_hidden w k reply new done drawn ok tracks hidden = absurd ok

  enqueues_hidden : (w : World C) (k n : ℕ) (age : Age) (c : C) (reply : Reply C) (new done : State C) → u < w.core.next → Enqueues rules w.core k n age c reply done
      → (AllKnown (at_least h u) w → AllKnown (at_least h u) (after rules w (Applies (Enqueue k n age c) reply new))) → Hidden w → Hidden (after rules w (Applies (Enqueue k n age c) reply new))
  enqueues_hidden w k n age c (Ignored d) new done drawn ok tracks hidden = goes_on w (after rules w (Applies (Enqueue k n age c) (Ignored d) new)) (λ above. above) (λ all any. any) tracks hidden
  enqueues_hidden w k n age c (Dropped d s) new done drawn ok tracks hidden =
      let le : u ≤ s = (let e : s ≡ w.core.next = (ok.3).0 in omega arith) in
      goes_on w (after rules w (Applies (Enqueue k n age c) (Dropped d s) new)) (λ above. deletion_stays h u k s w.history above) (λ all any. deletion_above h u k s w.history (λ _. le) any) tracks hidden
  enqueues_hidden w k n age c (Queued s) new done drawn ok tracks hidden = goes_on w (after rules w (Applies (Enqueue k n age c) (Queued s) new)) (λ above. above) (λ all any. any) tracks hidden
  enqueues_hidden w k n age c reply new done drawn ok tracks hidden = absurd ok

  -- a piece that is returned is deleted under its own sequence
  takes_hidden : (w : World C) (f : ℕ) (queue : List (Submission C)) (reply : Reply C) (new done : State C) → (w.core.flushers f).queue ≡ queue → TakesFront rules w.core f queue reply done
      → (AllKnown (at_least h u) w → AllKnown (at_least h u) (after rules w (Applies (Receive f) reply new))) → Hidden w → Hidden (after rules w (Applies (Receive f) reply new))
  takes_hidden w f [] Empty new done is ok tracks hidden = goes_on w (after rules w (Applies (Receive f) Empty new)) (λ above. above) (λ all any. any) tracks hidden
  takes_hidden w f (Piece k s n c ∷ rest) (Received (Some d)) new done is ok tracks hidden =
      goes_on w (after rules w (Applies (Receive f) (Received (Some d)) new))
      (λ above. subst (λ q. IsAbove h u (with_returned q w.history)) (sym is) (deletion_stays h u k s w.history above))
      (λ all any. subst (λ q. IsAboveAny h u (with_returned q w.history)) (sym is) (deletion_above h u k s w.history (subst (Each (SubmissionKnown (at_least h u))) is (all f).pieces).0 any))
      tracks hidden
  takes_hidden w f (sub ∷ rest) (Received None) new done is ok tracks hidden = goes_on w (after rules w (Applies (Receive f) (Received None) new)) (λ above. above) (λ all any. any) tracks hidden
  takes_hidden w f queue reply new done is ok tracks hidden = absurd ok

  wrote_stays : (w : World C) (f : ℕ) (good : Bool) (batch : Option (Batch C)) (reply : Reply C) (done : State C) → Wrote rules w.core f good batch reply done → IsAbove h u w.history → IsAbove h u (events_of w.core reply (FlushWrote f good) w.history)
  wrote_stays w f true (Some batch) Next done ok above = above
  wrote_stays w f true (Some batch) (Committed n) done ok above = puts_stay h u (puts_of w.core (w.core.flushers f).batch) w.history above
  wrote_stays w f good (Some batch) Failed done ok above = above
  wrote_stays w f good batch reply done ok above = absurd ok

  clears_hidden : (w : World C) (reply : Reply C) (new done : State C) → MayClear w.core → Clears rules w.core reply done → new.flushers ≡ done.flushers → Hidden (after rules w (Applies DestroyClear reply new))
  clears_hidden w (Cleared bs) new done turn ok same =
      inr (
        refl,
        λ f. subst (λ k. IsTracedAt (at_least h u) (k f)) (sym (same ∙ ap (λ k. k.flushers) ok.1)) (record {
          pieces = subst (λ l. Each (SubmissionKnown (at_least h u)) l) (sym ((turn.1 f).0)) tt;
          received = subst (λ l. Each (RecordKnown (at_least h u)) l) (sym ((turn.1 f).1)) tt;
          written = subst (λ b. Each (RecordKnown (at_least h u)) (batch_records b)) (sym ((turn.1 f).4)) tt;
        }),
      )
  clears_hidden w reply new done turn ok same = absurd ok

  does_hidden : (w : World C) (step : Step C) (reply : Reply C) (new done : State C) → u < w.core.next → InTurn rules w.core step → Changes rules Splits w.core step reply done → new.flushers ≡ done.flushers → IsKnown rules Splits is_value demands w
      → (AllKnown (at_least h u) w → AllKnown (at_least h u) (after rules w (Applies step reply new))) → Hidden w → Hidden (after rules w (Applies step reply new))
  does_hidden w (Enqueue k n age c) reply new done drawn turn ok same known tracks hidden = enqueues_hidden w k n age c reply new done drawn ok tracks hidden
  does_hidden w (Delete k) reply new done drawn turn ok same known tracks hidden = deletes_hidden w k reply new done drawn ok tracks hidden
  does_hidden w (Receive f) reply new done drawn turn ok same known tracks hidden = takes_hidden w f (w.core.flushers f).queue reply new done refl ok tracks hidden
  does_hidden w (FlushWrote f good) reply new done drawn turn ok same known tracks hidden =
      goes_on w (after rules w (Applies (FlushWrote f good) reply new)) (wrote_stays w f good (w.core.flushers f).batch reply done ok)
      (λ all any. wrote_above rules h u w f good (w.core.flushers f).batch reply done refl ok Splits is_value demands known all any) tracks hidden
  does_hidden w DestroyClear reply new done drawn turn ok same known tracks hidden = clears_hidden w reply new done turn ok same
  does_hidden w step reply new done drawn turn ok same known tracks hidden = same_history w step reply new tt tracks hidden

  not_now_history : (w : World C) (step back : Step C) (new : State C) → (after rules w (Applies step (NotNow back) new)).history ≡ w.history
  not_now_history w step back new = refl

  step_hidden : (w : World C) (step : Step C) (reply : Reply C) (new : State C) → u < w.core.next → Follows rules Splits w.core step reply new → IsKnown rules Splits is_value demands w
      → (AllKnown (at_least h u) w → AllKnown (at_least h u) (after rules w (Applies step reply new))) → Hidden w → Hidden (after rules w (Applies step reply new))
  step_hidden w step (NotNow back) new drawn ok known tracks hidden = goes_on w (after rules w (Applies step (NotNow back) new)) (λ above. above) (λ all any. any) tracks hidden
  step_hidden w step (Refused kind back) new drawn ok known tracks hidden = goes_on w (after rules w (Applies step (Refused kind back) new)) (λ above. above) (λ all any. any) tracks hidden
  step_hidden w step reply new drawn (few, turn, (done, changes, eq)) known tracks hidden =
      does_hidden w step reply new done drawn turn changes (ap (λ k. k.flushers) eq) known tracks hidden

  enqueue_fresh : (w : World C) (k n : ℕ) (age : Age) (c : C) (reply : Reply C) (new : State C) → u < w.core.next → Follows rules Splits w.core (Enqueue k n age c) reply new → IsQueuedKnown (at_least h u) (Applies (Enqueue k n age c) reply new)
  enqueue_fresh w k n age c (Queued s) new drawn (few, turn, (done, changes, eq)) = λ at. let e : s ≡ w.core.next = changes.0 in omega arith
  enqueue_fresh w k n age c reply new drawn ok = tt

  fresh : (w : World C) (e : WorldEvent C) → u < w.core.next → MayHappen rules Splits is_value w e → IsQueuedKnown (at_least h u) e
  fresh w (Applies (Enqueue k n age c) reply new) drawn ok = enqueue_fresh w k n age c reply new drawn ok.1
  fresh w e drawn ok = tt

  pub past_stays : (w : World C) (e : WorldEvent C) → MayHappen rules Splits is_value w e → IsKnown rules Splits is_value demands w → IsPast w h u → IsPast (after rules w e) h u
  past_stays w e ok known past = record {
    drawn = let up : w.core.next ≤ (after rules w e).core.next = event_draws rules Splits is_value w e ok in let lt : u < w.core.next = past.drawn in omega arith;
    above = one e ok (λ all. known_stays rules Splits is_value demands (at_least h u) w e ok known (fresh w e past.drawn ok) all);
  }
    where
      one : (e : WorldEvent C) → MayHappen rules Splits is_value w e → (AllKnown (at_least h u) w → AllKnown (at_least h u) (after rules w e)) → Hidden (after rules w e)
      one (Applies step reply new) ok tracks = step_hidden w step reply new past.drawn ok.1 known tracks past.above
      one (ReadBegins n) ok tracks = past.above
      one (ReadEnds n result) ok tracks = past.above
      one (ScanBegins b) ok tracks = past.above
      one (ScanEnds b result) ok tracks = past.above
      one (WriteBegins f) ok tracks = past.above
      one (WriteEnds f good g) ok tracks = past.above
      one (CleanBegins b) ok tracks = past.above
      one (CleanEnds b good g) ok tracks = past.above

  -- a look-up that issues a read of the hash finds at least this sequence
  pub past_read : (w : World C) (t : Ticket) (looked : State C) (throttled : Bool) → IsKnown rules Splits is_value demands w → IsPast w h u
      → MayHappen rules Splits is_value w (Applies (LoadBegin h throttled) (Read t) looked) → u ≤ t.address.sequence
  past_read w t looked throttled known past (fed, (few, turn, (done, changes, eq))) = at (w.core.index h) refl changes
    where
      at : (slot : Option Slot) → w.core.index h ≡ slot → Looks rules w.core h throttled slot (Read t) done → u ≤ t.address.sequence
      at None is ok = absurd ok
      at (Some (Mark s)) is ok = absurd ok
      at (Some (Indexed a)) is ok =
          let here : SlotOk rules (ground_of w) w.block_writes w.history h (line_of (w.core.flushers (flusher_of rules h))) (Some (Indexed a)) =
          subst (SlotOk rules (ground_of w) w.block_writes w.history h (line_of (w.core.flushers (flusher_of rules h)))) is (known.sound.slots h (flusher_of rules h) refl) in
          let same : t.address.sequence ≡ a.sequence = ap (λ k. k.address.sequence) ok.2 in
          let at_a : sequence_in (newest h w.history) ≡ a.sequence = ap sequence_in here.1 in
          elim past.above [
            | inl above ↦ (let le : u ≤ sequence_in (newest h w.history) = above in omega arith)
            | inr (none, all) ↦ absurd (let f : None ≡ Some (Put h a.sequence here.0) = sym none ∙ here.1 in cc)
          ]
