-- Each step and each access that goes well keeps a world safe.
use Rattle.std.proofs.Common.{◌≡◌, ℕ, ◌+◌, ◌<◌, ◌==◌, nat_le, Bool, true, false, if◌then◌else◌, Option, Some, None, List, [], ◌∷◌, ◌++◌, inl, inr, refl, sym, ap, subst, ◌∙◌, arith}
use Rattle.foyer_format_layout.specs.BlockBytes.{read}
use Rattle.foyer_core_model.specs.Kind.{Kind}
use Rattle.foyer_core_model.specs.Destroy.{first_fault}
use Rattle.foyer_core_model.specs.Numbers.{put, last_number}
use Rattle.foyer_core_model.specs.Ids.{ids, without_id}
use Rattle.foyer_core_model.specs.Record.{Address, Slot, IndexEntry, Record}
use Rattle.foyer_core_model.specs.Position.{Position}
use Rattle.foyer_core_model.specs.State.{Submission, Piece, Remove, Await, Reinsert, Writing, Batch, Flusher, BlockSet, Clean, Writes, Evictable, Reclaims, Stage, AtIndex, AtRecord, AllListed, ToClean, Reclaim, Destroy, NoDestroy, Begun, Cleaning, State}
use Rattle.foyer_core_model.specs.Rules.{Rules, flusher_of, first_position, Splitting, sizes_of}
use Rattle.foyer_core_model.specs.Step.{ReadResult, Bytes, Fault, Step, Enqueue, Delete, Wait, MayContains, LoadBegin, LoadEnd, Receive, FlushBegin, FlushBlock, FlushWrote, LogWrote, FlushEnd, ReclaimBegin, ReclaimRead, ReclaimForget, ReclaimCleaned, ReclaimIdle, DestroyBegin, DestroyClear, DestroyCleaned, Close}
use Rattle.foyer_core_model.specs.Reply.{Reply, NotNow, Refused, Ignored, Queued, Deleted, Done, Miss, Throttled, Read, Entry, Empty, Received, Began, Written, NoBlock, Next, Committed, Failed, Ended, Picked, Scans, Listed, Cleans, Destroying, Cleared, Destroyed}
use Rattle.foyer_core_model.specs.Index.{inserted, without, unmarked}
use Rattle.foyer_core_model.specs.Flush.{is_cleaning, commit_in, Wrote}
use Rattle.foyer_core_model.specs.Reclaim.{not_among, addresses, admitted, place_behind, Picks, stage_after, issued_at, reclaiming, stage_behind, Lists, Scanned, Rereads, Forgets, reclaimed, Cleaned}
use Rattle.foyer_core_model.specs.Destroy.{issued_after_clean, after_clean, BeginsDestroy, Clears, CleansOne}
use Rattle.foyer_core_model.specs.InTurn.{IsAt, MayClear, InTurn}
use Rattle.foyer_core_model.specs.Changes.{Changes}
use Rattle.foyer_core_model.specs.Follows.{Follows}
use Rattle.foyer_core_model.specs.Access.{BlockWrites, Idle, Issued, InFlight, ReadIssued, ReadDone, Scan, writes_of, writes_reported, result_of}
use Rattle.foyer_core_model.specs.World.{World, WorldEvent, Applies, with_stored, stored_of, stored_in, end_of, end_in, after, IsFed}
use Rattle.foyer_core_model.specs.Laws.{Demands}
use Rattle.foyer_core_model.specs.Widths.{StateHasWidths}
use Rattle.foyer_core_model.proofs.Basics.{put_other}
use Rattle.foyer_format_layout.specs.Each.{Each}
use Rattle.foyer_core_model.proofs.Invariant.{WritesFit, WritingOk, ground_of, writing_in, blocks_in, goes_on_in, batch_records, start_of}
use Rattle.foyer_core_model.proofs.CommitSteps.{committed, committed_is}
use Rattle.foyer_core_model.proofs.Sets.{fillings_few}
use Rattle.foyer_core_model.proofs.SoundKept.{IsKnown}
use Rattle.foyer_core_restart.specs.Entries.{filled_to}
use Rattle.foyer_core_restart.specs.Real.{IsReal}
use Rattle.foyer_core_restart.specs.Restart.{AllRefused, StepGoesWell}
use Rattle.foyer_core_restart.proofs.Safe.{Sight, sight_of, Job, job_of, job_in, left_in, results_in, RecordIs, SubmissionIs, AllWait, IsOf, RestOk, IsDead, IsSlot, sequences_of, puts_in, ScanReads, StageReads, ReadsOk, IsSafe}
use Rattle.foyer_core_restart.proofs.Stop.{some_same}
use Rattle.foyer_core_restart.proofs.Mild as mild
use Rattle.foyer_core_restart.proofs.Mild.{RestAt, hand_of, fewer_same, fewer_put, fewer_mark, fewer_without, fewer_unmarked}
use Rattle.foyer_core_restart.proofs.Owned.{IsOwned, owned_of}
use Rattle.foyer_core_restart.proofs.Writings.{left_reported, results_reported}
use Rattle.foyer_core_restart.proofs.Issued.{issued}
use Rattle.foyer_core_restart.proofs.Commits.{commits}
use Rattle.foyer_core_restart.proofs.Reclaims as reclaims
use Rattle.foyer_core_restart.proofs.Cleans as cleans
use Rattle.foyer_core_model.specs.Access.{block_writes_after, cleans_after, scans_after, CleanState, CleanIdle, CleanDone, CleanIssued, writes_covers, clean_covers, begun}
use Rattle.foyer_core_model.specs.World.{ReadBegins, ReadEnds, ScanBegins, ScanEnds, WriteBegins, WriteEnds, CleanBegins, CleanEnds, covers, after_all, MayHappen, MayAllHappen}
use Rattle.foyer_core_model.proofs.SoundKept.{known_keeps}
use Rattle.foyer_core_model.proofs.Widths.{event_wide}
use Rattle.foyer_core_model.proofs.Served.{IsServed, event_served}
use Rattle.foyer_core_restart.specs.Restart.{GoesWell, AllGoWell}
use Rattle.foyer_core_restart.proofs.Stop as stop
use Rattle.foyer_core_restart.proofs.Writings.{write_begins, write_ends}
use Rattle.foyer_core_restart.proofs.Steps.{writes_done, not_among_none, enqueue_safe, delete_safe, wait_safe, look_safe, end_safe, take_safe, begin_safe, log_safe, finish_safe, issue_safe}

module _ (A : Type 0) {C : Type 0} (rules : Rules C) (Splits : Splitting C) (is_value : C → Type 0) (demands : Demands rules Splits is_value) (real : IsReal A rules Splits) where
  abbrev At : World C → Step C → Reply C → State C → Type 0
  At w step reply new = IsSafe A rules (sight_of (after rules w (Applies step reply new)))

  abbrev Knows : World C → Type 0
  Knows = IsKnown rules Splits is_value demands

  abbrev AllServed : World C → Type 0
  AllServed w = (f : ℕ) → IsServed rules Splits (w.core.flushers f)

  -- FlushWrote

  wrote_safe : (w : World C) (f : ℕ) (good : Bool) (batch : Option (Batch C)) (reply : Reply C) (new : State C) → (w.core.flushers f).batch ≡ batch → result_of (w.block_writes f) ≡ Some good → Wrote rules w.core f good batch reply new
      → StepGoesWell (FlushWrote f good) reply → Knows w → IsSafe A rules (sight_of w) → At w (FlushWrote f good) reply new
  wrote_safe w f true (Some batch) Next new is fed (r, first, second, rest, writing, left, eq) well known s =
      subst (At w (FlushWrote f true) Next) (sym eq)
      (mild.turned_writes A rules (sight_of w) w.core.index w.core.next f (record (w.core.flushers f) { batch = Some (record batch { writing = Some (record r { left = second ∷ rest }) }) }) (writes_reported (w.block_writes f)) s (omega arith) (fewer_same w.core.index)
      (λ i. record { own = (w.core.flushers f).own; ready = (w.core.flushers f).ready; job = same_job i; left = left_reported (w.block_writes f) i })
      (results_reported (w.block_writes f) (s.well f))
      (record { batch = subst (λ k. Each (RecordIs (IsOf rules s.low f)) (batch_records k)) whole (s.lines.waits f).batch; buffer = (s.lines.waits f).buffer; queue = (s.lines.waits f).queue })
      (subst (λ k. RestOk A (sizes_of rules) (filled_to (start_of rules w.filled (w.core.flushers f).own (goes_on_in k))) (blocks_in k)) is (s.rests f)))
    where
      whole : (w.core.flushers f).batch ≡ Some (record batch { writing = Some r })
      whole = is ∙ (λ i. Some (record batch { writing = writing i }))

      same_job : job_of (Some r) ≡ job_in (w.core.flushers f)
      same_job = sym (ap (λ k. job_of (writing_in k)) whole)
  wrote_safe w f true (Some batch) (Committed n) new is fed (r, last, writing, left, count, eq) well known s =
      subst (At w (FlushWrote f true) (Committed n)) (sym eq)
      (subst (IsSafe A rules) shapes
      (commits A rules (sight_of w) f r.block r.records batch s (owned_of rules Splits is_value demands w known) is (ap (λ k. job_of (writing_in k)) whole) (ap batch_records whole)
      (writes_done (w.block_writes f) w.bytes r last fed (s.well f) left fits)))
    where
      whole : (w.core.flushers f).batch ≡ Some (record batch { writing = Some r })
      whole = is ∙ (λ i. Some (record batch { writing = writing i }))

      fits : WritesFit w.bytes r (w.block_writes f)
      fits = (subst (λ k. WritingOk rules (ground_of w) (w.core.flushers f).own (writing_in k) (w.block_writes f)) whole (known.sound.flushers f).writing).1

      shape : (ℕ → Option Slot) → List (Rattle.foyer_core_model.specs.World.Stored C) → Sight C
      shape m stored = record (sight_of w) {
        index = m;
        flushers = put w.core.flushers f (record (w.core.flushers f) { batch = Some (record batch { writing = None }) });
        committed = stored;
        block_writes = put w.block_writes f Idle;
      }

      shapes : shape (committed r.block (w.core.filling r.block) r.records w.core.index) (with_stored r.block (w.core.filling r.block) r.records w.committed)
          ≡ shape (commit_in w.core r).index (stored_of w.core (w.core.flushers f).batch w.committed)
      shapes = λ i. shape (sym (committed_is r.block (w.core.filling r.block) r.records w.core.index) i) (sym (ap (λ k. stored_of w.core k w.committed) whole) i)
  wrote_safe w f good (Some batch) Failed new is fed ok well known s = absurd well
  wrote_safe w f good batch reply new is fed ok well known s = absurd ok

  -- reclaims

  pick_safe : (w : World C) (reply : Reply C) (new : State C) → is_cleaning w.core.destroy ≡ false → Picks rules w.core reply new → Knows w → IsSafe A rules (sight_of w) → At w ReclaimBegin reply new
  pick_safe w (Picked b answers probation) new quiet ok known s =
      subst (At w ReclaimBegin (Picked b answers probation)) (sym ok.4)
      (reclaims.picked A rules real.format.sizes (sight_of w) b (owned_of rules Splits is_value demands w known) ok.1 quiet s)
  pick_safe w reply new quiet ok known s = absurd ok

  well_issued : (old : State C) (b d : ℕ) (came : ReadResult) (stage : Stage) (verdicts : List Bool) → StepGoesWell {C = C} (ReclaimRead b came) (issued_at rules old d stage verdicts) → AllRefused verdicts
  well_issued old b d came (AtIndex p) verdicts ok = ok.1
  well_issued old b d came (AtRecord h a rest p) verdicts ok = ok.1
  well_issued old b d came AllListed verdicts ok = ok.1
  well_issued old b d came ToClean verdicts ok = ok.1

  -- the bytes that a reclaim was brought are those of its block
  was_read : (w : World C) (b p : ℕ) (r : Reclaim) (bs : List ℕ) → w.core.reclaims b ≡ Some r → r.stage ≡ AtIndex p → IsFed rules Splits is_value w (ReclaimRead b (Bytes bs)) → IsSafe A rules (sight_of w) → bs ≡ read (w.bytes b) p rules.index_size
  was_read w b p r bs is at (sc, scan, read_state) s =
      let reading : ReadsOk (sizes_of rules) (w.bytes b) b (w.core.filling b) (Some r) (Some sc) = subst (λ k. ReadsOk (sizes_of rules) (w.bytes b) b (w.core.filling b) (Some r) k) scan
      (subst (λ k. ReadsOk (sizes_of rules) (w.bytes b) b (w.core.filling b) k (w.scans b)) is (s.reads b)) in
      let stage : StageReads (sizes_of rules) (w.bytes b) b (w.core.filling b) r.listed (AtIndex p) (Some sc) = subst (λ k. StageReads (sizes_of rules) (w.bytes b) b (w.core.filling b) r.listed k (Some sc)) at reading.1 in
      subst (Rattle.foyer_core_restart.proofs.Safe.PhaseReads (sizes_of rules) (w.bytes b) p) read_state (stage.3).2

  reads_now : (w : World C) (b : ℕ) (r : Reclaim) → w.core.reclaims b ≡ Some r → IsSafe A rules (sight_of w) → ReadsOk (sizes_of rules) (w.bytes b) b (w.core.filling b) (Some r) (w.scans b)
  reads_now w b r is s = subst (λ k. ReadsOk (sizes_of rules) (w.bytes b) b (w.core.filling b) k (w.scans b)) is (s.reads b)

  lists_safe : (w : World C) (b : ℕ) (bs : List ℕ) (r : Reclaim) (p : ℕ) (es : Option (List IndexEntry)) (reply : Reply C) (new : State C) → w.core.reclaims b ≡ Some r → r.stage ≡ AtIndex p → rules.entries_of p bs ≡ es
      → bs ≡ read (w.bytes b) p rules.index_size → Lists rules w.core b r p es reply new → StepGoesWell (ReclaimRead b (Bytes bs)) reply → IsSafe A rules (sight_of w) → At w (ReclaimRead b (Bytes bs)) reply new
  lists_safe w b bs r p None reply new is at entries same ok well s =
      subst (λ q. At w (ReclaimRead b (Bytes bs)) q new) (sym ok.0)
      (subst (At w (ReclaimRead b (Bytes bs)) (Listed [])) (sym ok.1)
      (reclaims.read_on A rules real.format.sizes (sight_of w) b r (record r { stage = AllListed }) None is (λ e. let x : AtIndex p ≡ ToClean = sym at ∙ e in cc) (λ e. let x : AllListed ≡ ToClean = e in cc)
      (reclaims.read_none A rules real.format.sizes Splits real (w.bytes b) b (w.core.filling b) p bs r at entries same (w.scans b) (reads_now w b r is s) None) s))
  lists_safe w b bs r p (Some es) reply new is at entries same (vs, count, issued, eq) well s =
      subst (λ q. At w (ReclaimRead b (Bytes bs)) q new) (sym issued)
      (subst (At w (ReclaimRead b (Bytes bs)) (issued_at rules w.core b (stage_behind rules w.core b p es vs) vs)) (sym eq)
      (subst (λ l. At w (ReclaimRead b (Bytes bs)) (issued_at rules w.core b (stage_after rules w.core l next) vs) (reclaiming rules w.core b (record r { stage = stage_after rules w.core l next; listed = listed }))) (sym none)
      (go (nat_le (next + rules.index_size) rules.block_size) refl)))
    where
      next : ℕ
      next = place_behind rules.page_up rules.block_size p es

      listed : List (ℕ × Address)
      listed = addresses b (w.core.filling b) p es ++ r.listed

      none : admitted vs (addresses b (w.core.filling b) p es) ≡ []
      none = reclaims.none_admitted vs (addresses b (w.core.filling b) p es)
          (well_issued w.core b b (Bytes bs) (stage_behind rules w.core b p es vs) vs (subst (StepGoesWell (ReclaimRead b (Bytes bs))) issued well))

      reading : ReadsOk (sizes_of rules) (w.bytes b) b (w.core.filling b) (Some (record r { stage = reclaims.stage_next A rules real.format.sizes next; listed = listed })) (reclaims.scan_next A rules real.format.sizes next)
      reading = reclaims.read_some A rules real.format.sizes Splits real (w.bytes b) b (w.core.filling b) p bs es r at entries same (w.scans b) (reads_now w b r is s)

      not_yet : r.stage ≡ ToClean → ⊥
      not_yet e = let x : AtIndex p ≡ ToClean = sym at ∙ e in cc

      go : (t : Bool) → nat_le (next + rules.index_size) rules.block_size ≡ t
          → At w (ReclaimRead b (Bytes bs)) (issued_at rules w.core b (if t then AtIndex next else AllListed) vs) (reclaiming rules w.core b (record r { stage = if t then AtIndex next else AllListed; listed = listed }))
      go true e = reclaims.read_on A rules real.format.sizes (sight_of w) b r (record r { stage = AtIndex next; listed = listed }) (Some (record { offset = next; len = rules.index_size; read_state = ReadIssued })) is not_yet (λ k. let x : AtIndex next ≡ ToClean = k in cc)
          (subst (λ t. ReadsOk (sizes_of rules) (w.bytes b) b (w.core.filling b) (Some (record r { stage = if t then AtIndex next else AllListed; listed = listed })) (if t then Some (record { offset = next; len = rules.index_size; read_state = ReadIssued }) else None)) e reading) s
      go false e = reclaims.read_on A rules real.format.sizes (sight_of w) b r (record r { stage = AllListed; listed = listed }) None is not_yet (λ k. let x : AllListed ≡ ToClean = k in cc)
          (subst (λ t. ReadsOk (sizes_of rules) (w.bytes b) b (w.core.filling b) (Some (record r { stage = if t then AtIndex next else AllListed; listed = listed })) (if t then Some (record { offset = next; len = rules.index_size; read_state = ReadIssued }) else None)) e reading) s

  scan_safe : (w : World C) (b : ℕ) (r : Reclaim) (stage : Stage) (came : ReadResult) (reply : Reply C) (new : State C) → w.core.reclaims b ≡ Some r → r.stage ≡ stage → IsFed rules Splits is_value w (ReclaimRead b came)
      → Scanned rules w.core b r stage came reply new → StepGoesWell (ReclaimRead b came) reply → IsSafe A rules (sight_of w) → At w (ReclaimRead b came) reply new
  scan_safe w b r (AtIndex p) Fault reply new is at fed ok well s = absurd (subst (StepGoesWell (ReclaimRead b Fault)) ok.0 well).0
  scan_safe w b r (AtIndex p) (Bytes bs) reply new is at fed ok well s = lists_safe w b bs r p (rules.entries_of p bs) reply new is at refl (was_read w b p r bs is at fed s) ok well s
  scan_safe w b r (AtRecord h a rest p) came reply new is at fed ok well s =
      absurd (subst (λ k. StageReads (sizes_of rules) (w.bytes b) b (w.core.filling b) r.listed k (w.scans b)) at (reads_now w b r is s).1)
  scan_safe w b r stage came reply new is at fed ok well s = absurd ok

  reread_safe : (w : World C) (b : ℕ) (r : Option Reclaim) (came : ReadResult) (reply : Reply C) (new : State C) → w.core.reclaims b ≡ r → IsFed rules Splits is_value w (ReclaimRead b came)
      → Rereads rules w.core b r came reply new → StepGoesWell (ReclaimRead b came) reply → IsSafe A rules (sight_of w) → At w (ReclaimRead b came) reply new
  reread_safe w b None came reply new is fed ok well s = absurd ok
  reread_safe w b (Some r) came reply new is fed ok well s = scan_safe w b r r.stage came reply new is refl fed ok well s

  forget_safe : (w : World C) (b : ℕ) (r : Option Reclaim) (reply : Reply C) (new : State C) → w.core.reclaims b ≡ r → IsAt AllListed r → Forgets rules w.core b r reply new → Knows w → IsSafe A rules (sight_of w) → At w (ReclaimForget b) reply new
  forget_safe w b (Some r) (Cleans d) new is at ok known s =
      subst (At w (ReclaimForget b) (Cleans d)) (sym ok.1)
      (subst (λ l. IsSafe A rules (record (sight_of w) { index = Rattle.foyer_core_model.specs.Index.forgotten l w.core.index; reclaims = put w.core.reclaims b (Some (record r { stage = ToClean })); clean_states = put w.clean_states b CleanIssued }))
      (sym (ap (λ q. not_among q r.listed) (reads_now w b r is s).0 ∙ not_among_none r.listed))
      (reclaims.forgot A rules real.format.sizes (sight_of w) b r (owned_of rules Splits is_value demands w known) is at s))
  forget_safe w b r reply new is at ok known s = absurd ok

  clean_safe : (w : World C) (b : ℕ) (good : Bool) (r : Option Reclaim) (reply : Reply C) (new : State C) → w.core.reclaims b ≡ r → IsAt ToClean r → Cleaned rules w.core b reply new → Knows w → IsSafe A rules (sight_of w) → At w (ReclaimCleaned b good) reply new
  clean_safe w b good None reply new is at ok known s = absurd at
  clean_safe w b good (Some r) Done new is at ok known s =
      elim ok [
        | inl (f, others, waits, room, eq) ↦ subst (At w (ReclaimCleaned b good) Done) (sym eq)
            (reclaims.handed A rules real.format.sizes (sight_of w) b f r (filled' (put w.core.filling b (w.core.filling b + 1))) (owned_of rules Splits is_value demands w known) is at (far (put w.core.filling b (w.core.filling b + 1))) s)
        | inr (nobody, eq) ↦ subst (At w (ReclaimCleaned b good) Done) (sym eq)
            (subst (λ g. IsSafe A rules (record (sight_of w) { place = put w.core.place b Clean; reclaims = put w.core.reclaims b None; clean_states = put w.clean_states b CleanIdle; filled = g })) (sym same)
            (reclaims.cleaned A rules real.format.sizes (sight_of w) b r (owned_of rules Splits is_value demands w known) is at s))
      ]
    where
      filled' : (ℕ → ℕ) → ℕ → Position
      filled' filling = if filling b == w.core.filling b then w.filled else put w.filled b (first_position rules)

      far : (filling : ℕ → ℕ) (c : ℕ) → (c ≡ b → ⊥) → filled' filling c ≡ w.filled c
      far filling c ne = go (filling b == w.core.filling b)
        where
          go : (t : Bool) → (if t then w.filled else put w.filled b (first_position rules)) c ≡ w.filled c
          go true = refl
          go false = put_other w.filled b (first_position rules) c ne

      same : filled' w.core.filling ≡ w.filled
      same = go (w.core.filling b == w.core.filling b) refl
        where
          go : (t : Bool) → (w.core.filling b == w.core.filling b) ≡ t → (if t then w.filled else put w.filled b (first_position rules)) ≡ w.filled
          go true e = refl
          go false e = absurd (Rattle.std.proofs.lemmas.Bool.eqb-false (w.core.filling b) (w.core.filling b) e refl)
  clean_safe w b good (Some r) reply new is at ok known s = absurd ok

  -- destroys

  destroying_safe : (w : World C) (reply : Reply C) (new : State C) → w.core.destroy ≡ NoDestroy → BeginsDestroy rules w.core reply new → IsSafe A rules (sight_of w) → At w DestroyBegin reply new
  destroying_safe w (Destroying k) new none ok s =
      subst (At w DestroyBegin (Destroying k)) (sym ok.3)
      (mild.destroying A rules (record (sight_of w) { next = k + 1; flushers = put w.core.flushers (flusher_of rules 0) (record (w.core.flushers (flusher_of rules 0)) { queue = (w.core.flushers (flusher_of rules 0)).queue ++ Remove 0 k [] ∷ [] }) }) none
      (mild.pushed A rules (sight_of w) w.core.index (k + 1) (flusher_of rules 0) (Remove 0 k []) s (let e : k ≡ w.core.next = ok.0 in omega arith) (fewer_same w.core.index) tt))
  destroying_safe w reply new none ok s = absurd ok

  clear_safe : (w : World C) (reply : Reply C) (new : State C) → MayClear w.core → w.core.steps < last_number → Clears rules w.core reply new → Knows w → IsSafe A rules (sight_of w) → At w DestroyClear reply new
  clear_safe w (Cleared bs) new turn few ok known s =
      subst (λ l. At w DestroyClear (Cleared l) new) (sym ok.0)
      (subst (At w DestroyClear (Cleared (ids rules.blocks))) (sym ok.1)
      (cleans.cleared A rules real.format.sizes (sight_of w) turn.0 (λ f. (turn.1 f).4) turn.2 (fillings_few rules w.core known.sets few) s))
  clear_safe w reply new turn few ok known s = absurd ok

  destroyed_safe : (w : World C) (b : ℕ) (good : Option Kind) (d : Destroy) (reply : Reply C) (new : State C) → w.core.destroy ≡ d → CleansOne rules w.core b good d reply new → IsSafe A rules (sight_of w) → At w (DestroyCleaned b good) reply new
  destroyed_safe w b good (Cleaning left failed) reply new is ok s =
      subst (λ q. At w (DestroyCleaned b good) q new) (sym ok.0)
      (subst (At w (DestroyCleaned b good) (issued_after_clean (without_id b left) (first_fault failed good))) (sym ok.1) (go (without_id b left) refl))
    where
      done : IsSafe A rules (record (sight_of w) { destroy = after_clean (without_id b left) (first_fault failed good); clean_states = put w.clean_states b CleanIdle })
      done = cleans.destroyed A rules real.format.sizes (sight_of w) b left failed (first_fault failed good) is s

      go : (l : List ℕ) → without_id b left ≡ l
          → At w (DestroyCleaned b good) (issued_after_clean l (first_fault failed good)) (record w.core { destroy = after_clean (without_id b left) (first_fault failed good); stats = put w.core.stats b Rattle.foyer_core_model.specs.State.no_stats })
      go [] e = done
      go (c ∷ cs) e = done
  destroyed_safe w b good NoDestroy reply new is ok s = absurd ok
  destroyed_safe w b good Begun reply new is ok s = absurd ok

  does_safe : (w : World C) (step : Step C) (reply : Reply C) (new : State C) → IsFed rules Splits is_value w step → InTurn rules w.core step → Changes rules Splits w.core step reply new → StepGoesWell step reply → w.core.steps < last_number → Knows w → AllServed w
      → IsSafe A rules (sight_of w) → At w step reply new
  does_safe w (Enqueue h n age c) reply new fed turn ok well few known served s = enqueue_safe A rules Splits is_value demands real w h n age c reply new ok s
  does_safe w (Delete h) reply new fed turn ok well few known served s = delete_safe A rules Splits is_value demands real w h reply new ok s
  does_safe w (Wait f i) reply new fed turn ok well few known served s = wait_safe A rules Splits is_value demands real w f i reply new ok s
  does_safe w (MayContains h) reply new fed turn ok well few known served s = subst (λ r. At w (MayContains h) r new) (sym ok.0) (subst (At w (MayContains h) (Rattle.foyer_core_model.specs.Reply.Answer (Rattle.foyer_core_model.specs.Index.is_address (w.core.index h)))) (sym ok.1) s)
  does_safe w (LoadBegin h throttled) reply new fed turn ok well few known served s = look_safe A rules Splits is_value demands real w h throttled (w.core.index h) reply new ok s
  does_safe w (LoadEnd t came) reply new fed turn ok well few known served s = end_safe A rules Splits is_value demands real w t came reply new ok s
  does_safe w (Receive f) reply new fed turn ok well few known served s = take_safe A rules Splits is_value demands real w f (w.core.flushers f).queue reply new refl ok s
  does_safe w (FlushBegin f) reply new fed turn ok well few known served s = begin_safe A rules Splits is_value demands real w f reply new (served f).fit turn.1 ok known s
  does_safe w (FlushBlock f) reply new fed turn ok well few known served s = issue_safe A rules Splits is_value demands real w f (w.core.flushers f).batch reply new refl turn.1 ok known s
  does_safe w (FlushWrote f good) reply new fed turn ok well few known served s = wrote_safe w f good (w.core.flushers f).batch reply new refl fed ok well known s
  does_safe w (LogWrote f good) reply new fed turn ok well few known served s = log_safe A rules Splits is_value demands real w f good (w.core.flushers f).batch reply new refl ok s
  does_safe w (FlushEnd f) reply new fed turn ok well few known served s = finish_safe A rules Splits is_value demands real w f (w.core.flushers f).batch reply new refl turn.1 ok s
  does_safe w ReclaimBegin reply new fed turn ok well few known served s = pick_safe w reply new turn.quiet ok known s
  does_safe w (ReclaimRead b came) reply new fed turn ok well few known served s = reread_safe w b (w.core.reclaims b) came reply new refl fed ok well s
  does_safe w (ReclaimForget b) reply new fed turn ok well few known served s = forget_safe w b (w.core.reclaims b) reply new refl turn.1 ok known s
  does_safe w (ReclaimCleaned b good) reply new fed turn ok well few known served s = clean_safe w b good (w.core.reclaims b) reply new refl turn.1 ok known s
  does_safe w ReclaimIdle reply new fed turn ok well few known served s = subst (λ r. At w ReclaimIdle r new) (sym ok.0) (subst (At w ReclaimIdle (Rattle.foyer_core_model.specs.Reply.Answer (Rattle.foyer_core_model.specs.Reclaim.running rules.blocks w.core.reclaims == 0))) (sym ok.1) s)
  does_safe w DestroyBegin reply new fed turn ok well few known served s = destroying_safe w reply new turn ok s
  does_safe w DestroyClear reply new fed turn ok well few known served s = clear_safe w reply new turn few ok known s
  does_safe w (DestroyCleaned b good) reply new fed turn ok well few known served s = destroyed_safe w b good w.core.destroy reply new refl ok s
  does_safe w Close reply new fed turn ok well few known served s = subst (λ r. At w Close r new) (sym ok.0) (subst (At w Close Done) (sym ok.1) s)

  step_safe : (w : World C) (step : Step C) (reply : Reply C) (new : State C) → IsFed rules Splits is_value w step → Follows rules Splits w.core step reply new → StepGoesWell step reply → Knows w → AllServed w → IsSafe A rules (sight_of w) → At w step reply new
  step_safe w step (NotNow back) new fed ok well known served s = subst (At w step (NotNow back)) (sym ok.2) s
  step_safe w step (Refused kind back) new fed ok well known served s = subst (At w step (Refused kind back)) (sym ok.2) s
  step_safe w step reply new fed (few, turn, (state, does, eq)) well known served s = subst (At w step reply) (sym eq) (does_safe w step reply state fed turn does well few known served s)

  -- nothing is under way in a block whose reclaim reads it
  quiet_read : (w : World C) (b p : ℕ) → IsAt (AtIndex p) (w.core.reclaims b) → Knows w → IsSafe A rules (sight_of w) → (i : ℕ) → covers rules w b i ≡ false
  quiet_read w b p at known s i = go (w.core.reclaims b) refl at
    where
      o : IsOwned rules (sight_of w)
      o = owned_of rules Splits is_value demands w known

      dry : (k : CleanState) → w.clean_states b ≡ k → clean_covers k i ≡ false
      dry CleanIdle e = refl
      dry CleanIssued e = refl
      dry (CleanDone ok) e = refl
      dry Rattle.foyer_core_model.specs.Access.CleanInFlight e = absurd (cleans.unread_dirty A rules real.format.sizes (sight_of w) b s (λ f. let x : Rattle.foyer_core_model.specs.Access.CleanInFlight ≡ CleanIdle = sym e ∙ f in cc) p at)

      go : (r : Option Reclaim) → w.core.reclaims b ≡ r → IsAt (AtIndex p) r → covers rules w b i ≡ false
      go None is at = absurd at
      go (Some r) is at = stop.uncovered A rules w known.sound s b i
          (λ f rs x xs under. absurd (let j : (ps : List (ℕ × Record C)) × (job_in (w.core.flushers f) ≡ Some (b, ps)) = o.under f b rs x xs under in
          let y : Reclaims ≡ Writes f = sym (o.reclaims b r is) ∙ o.place f b (o.job f b j.0 j.1) in cc))
          (dry (w.clean_states b) refl)

  pub event_safe : (w : World C) (e : WorldEvent C) → MayHappen rules Splits is_value w e → GoesWell e → Knows w → AllServed w → IsSafe A rules (sight_of w) → IsSafe A rules (sight_of (after rules w e))
  event_safe w (Applies step reply new) ok well known served s = step_safe w step reply new ok.0 ok.1 well known served s
  event_safe w (ReadBegins n) ok well known served s = s
  event_safe w (ReadEnds n result) ok well known served s = s
  event_safe w (ScanBegins b) ok well known served s = cleans.scan_begins A rules real.format.sizes (sight_of w) b (covers rules w) (λ p at i. quiet_read w b p at known s i) s
  event_safe w (ScanEnds b Fault) ok well known served s = absurd well
  event_safe w (ScanEnds b (Bytes bs)) ok well known served s = cleans.scan_ends A rules real.format.sizes (sight_of w) b bs ok s
  event_safe w (WriteBegins f) ok well known served s = write_begins A rules (sight_of w) f (owned_of rules Splits is_value demands w known) s
  event_safe w (WriteEnds f good g) ok well known served s =
      subst (λ t. IsSafe A rules (sight_of (after rules w (WriteEnds f t g)))) (sym well) (write_ends A rules (sight_of w) f g (w.block_writes f) refl (owned_of rules Splits is_value demands w known) s)
  event_safe w (CleanBegins b) ok well known served s = cleans.clean_begins A rules real.format.sizes (sight_of w) b (w.clean_states b) refl s
  event_safe w (CleanEnds b good g) ok well known served s = cleans.clean_ends A rules real.format.sizes (sight_of w) b good g (w.clean_states b) refl (owned_of rules Splits is_value demands w known) s

  pub all_safe : (w : World C) (events : List (WorldEvent C)) → MayAllHappen rules Splits is_value w events → AllGoWell events → Knows w → StateHasWidths w.core → AllServed w → IsSafe A rules (sight_of w) → IsSafe A rules (sight_of (after_all rules w events))
  all_safe w [] ok well known wide served s = s
  all_safe w (e ∷ es) ok well known wide served s =
      all_safe (after rules w e) es ok.1 well.1 (known_keeps rules Splits is_value demands w e ok.0 known) (event_wide rules Splits is_value demands.places w e ok.0 wide) (event_served rules Splits is_value w e wide ok.0 served)
      (event_safe w e ok.0 well.0 known served s)
