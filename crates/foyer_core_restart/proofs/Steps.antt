-- Each step that goes well keeps a world safe.
use Rattle.std.proofs.Common.{◌≡◌, ℕ, ◌+◌, ◌≤◌, Bool, true, false, if◌then◌else◌, Option, Some, None, List, [], ◌∷◌, ◌++◌, inl, inr, refl, sym, ap, subst, ◌∙◌, arith}
use Rattle.foyer_format_layout.specs.Position.{Sizes, fresh}
use Rattle.foyer_format_buffer.specs.Position as laid
use Rattle.foyer_format_buffer.specs.Holding.{Holds}
use Rattle.foyer_format_buffer.proofs.HoldsLemmas.{holds_fresh}
use Rattle.foyer_core_model.specs.Numbers.{put}
use Rattle.foyer_core_model.specs.Record.{Address, Slot, Indexed, Mark, Outcome, NoRecord, Holds as Content, Given}
use Rattle.foyer_format_layout.specs.BlockBytes.{Write}
use Rattle.foyer_core_model.specs.Position.{Position, Part, BlockLayout, records_in, last_end}
use Rattle.foyer_core_model.specs.State.{Submission, Piece, Remove, Await, Reinsert, Writing, Batch, Flusher, BlockSet, Clean, Writes, Evictable, Reclaims, Reclaim, State}
use Rattle.foyer_core_model.specs.Rules.{Rules, flusher_of, first_position, Splitting, sizes_of}
use Rattle.foyer_core_model.specs.Step.{ReadResult, Bytes, Fault, Age, Ticket, Step, Enqueue, Delete, Wait, LoadBegin, LoadEnd, Receive, FlushBegin, FlushBlock, LogWrote, FlushEnd}
use Rattle.foyer_core_model.specs.Reply.{Reply, Ignored, Queued, Dropped, Deleted, Done, Miss, Throttled, Read, Entry, Empty, Received, Began, Written, NoBlock, Ended}
use Rattle.foyer_core_model.specs.Index.{inserted, without, unmarked}
use Rattle.foyer_core_model.specs.Layout.{writes_in, AllFitBlock}
use Rattle.foyer_core_model.specs.Queue.{invalidated_by, Enqueues, Deletes, Waits}
use Rattle.foyer_core_model.specs.Load.{Looks, judged, Judges, Ends}
use Rattle.foyer_core_model.specs.Receive.{TakesFront}
use Rattle.foyer_core_model.specs.Flush.{is_some, is_cleaning, released, writing_of, Begins, clean_block, Describes, Logs, Finishes, first_usable}
use Rattle.foyer_core_model.specs.Reclaim.{not_among}
use Rattle.foyer_core_model.specs.InTurn.{WantsBlock, IsWritten}
use Rattle.foyer_core_model.specs.Access.{BlockWrites, Idle, Issued, InFlight, writes_of as issued_writes, result_of}
use Rattle.foyer_core_model.specs.World.{World, Applies, end_in, after}
use Rattle.foyer_core_model.specs.Laws.{Demands}
use Rattle.foyer_core_model.proofs.Basics.{put_at, put_one, put_same, put_other, Ascends}
use Rattle.foyer_format_layout.specs.Each.{Each}
use Rattle.foyer_core_model.proofs.Invariant.{AllWell, AreLeft, WritesFit, writing_in, blocks_in, goes_on_in, batch_records, start_of}
use Rattle.foyer_format_layout.proofs.EachLaws.{each_join}
use Rattle.foyer_core_model.proofs.Received.{start_same}
use Rattle.foyer_core_model.proofs.Sets.{clean_is}
use Rattle.foyer_core_model.proofs.SoundKept.{IsKnown}
use Rattle.foyer_core_restart.specs.Entries.{filled_to, puts_at}
use Rattle.foyer_core_restart.specs.Real.{IsReal, IsSpread}
use Rattle.foyer_core_restart.proofs.Tasks.{writes_of, writes_cons}
use Rattle.foyer_core_restart.proofs.Safe.{Sight, sight_of, job_of, job_in, left_in, results_in, RecordIs, SubmissionIs, AllWait, IsOf, RestOk, IsDead, sequences_of, puts_in, IsSafe}
use Rattle.foyer_core_restart.proofs.Mild as mild
use Rattle.foyer_core_restart.proofs.Mild.{RestAt, hand_of, fewer_same, fewer_put, fewer_mark, fewer_without, fewer_unmarked}
use Rattle.foyer_core_restart.proofs.Owned.{IsOwned, no_reclaim, owned_of}
use Rattle.foyer_core_restart.proofs.Issued.{issued, leaves, no_puts}

-- the rest of a batch that is spread
rest_of : (A : Type 0) {C : Type 0} (s : Sizes) (f : laid.Position) (blocks : List (BlockLayout C)) → IsSpread A s f blocks → RestOk A s f blocks
rest_of A s f [] ok = tt
rest_of A s f (b ∷ bs) ok = ok

rest_is : (A : Type 0) {C : Type 0} (s : Sizes) (f : laid.Position) (blocks : List (BlockLayout C)) (b : BlockLayout C) (bs : List (BlockLayout C)) → blocks ≡ b ∷ bs → RestOk A s f blocks → IsSpread A s f (b ∷ bs)
rest_is A s f blocks b bs is ok = subst (RestOk A s f) is ok

-- the last result of a block leaves nothing to be written
last_left : (rs : List Bool) (ws : List Write) (v : Write) → AllWell (true ∷ rs) → AreLeft (true ∷ rs) ws (v ∷ []) → ws ≡ []
last_left [] ws v well are = are
last_left (true ∷ rs) ws v well are = absurd are
last_left (false ∷ rs) ws v well are = absurd well

pub writes_done : (pending : BlockWrites) {C : Type 0} (bytes : ℕ → ℕ → ℕ) (r : Writing C) (v : Write) → result_of pending ≡ Some true → AllWell (results_in pending) → r.left ≡ v ∷ [] → WritesFit bytes r pending → left_in pending ≡ []
writes_done Idle bytes r v got well left fits = refl
writes_done (Issued b [] ws) bytes r v got well left fits = absurd (let e : None ≡ Some true = got in cc)
writes_done (Issued b (true ∷ rs) ws) bytes r v got well left fits = last_left rs ws v well (subst (AreLeft (true ∷ rs) ws) left fits.1)
writes_done (Issued b (false ∷ rs) ws) bytes r v got well left fits = absurd well
writes_done (InFlight b [] w ws) bytes r v got well left fits = absurd (let e : None ≡ Some true = got in cc)
writes_done (InFlight b (true ∷ rs) w ws) bytes r v got well left fits = last_left rs (w ∷ ws) v well (subst (AreLeft (true ∷ rs) (w ∷ ws)) left fits.1)
writes_done (InFlight b (false ∷ rs) w ws) bytes r v got well left fits = absurd well

pub not_among_none : (ps : List (ℕ × Address)) → not_among [] ps ≡ ps
not_among_none [] = refl
not_among_none (p ∷ ps) = ap (λ l. p ∷ l) (not_among_none ps)

module _ (A : Type 0) {C : Type 0} (rules : Rules C) (Splits : Splitting C) (is_value : C → Type 0) (demands : Demands rules Splits is_value) (real : IsReal A rules Splits) where
  -- the world is safe after a step with this reply and this state
  abbrev pub SafeAt : World C → Step C → Reply C → State C → Type 0
  SafeAt w step reply new = IsSafe A rules (sight_of (after rules w (Applies step reply new)))

  abbrev pub Known : World C → Type 0
  Known = IsKnown rules Splits is_value demands

  pub delete_safe : (w : World C) (h : ℕ) (reply : Reply C) (new : State C) → Deletes rules w.core h reply new → IsSafe A rules (sight_of w) → SafeAt w (Delete h) reply new
  delete_safe w h (Deleted k) new ok s =
      subst (SafeAt w (Delete h) (Deleted k)) (sym ok.3)
      (mild.pushed A rules (sight_of w) (put w.core.index h (inserted (w.core.index h) (Mark k))) (k + 1) (flusher_of rules h) (Remove h k (invalidated_by rules k (w.core.index h))) s (let e : k ≡ w.core.next = ok.0 in omega arith)
      (fewer_put w.core.index h (inserted (w.core.index h) (Mark k)) (fewer_mark (w.core.index h) k)) tt)
  delete_safe w h reply new ok s = absurd ok

  pub enqueue_safe : (w : World C) (h n : ℕ) (age : Age) (c : C) (reply : Reply C) (new : State C) → Enqueues rules w.core h n age c reply new → IsSafe A rules (sight_of w) → SafeAt w (Enqueue h n age c) reply new
  enqueue_safe w h n age c (Dropped d k) new ok s = delete_safe w h (Deleted k) new ok.3 s
  enqueue_safe w h n age c (Ignored d) new ok s = subst (SafeAt w (Enqueue h n age c) (Ignored d)) (sym ok.3) s
  enqueue_safe w h n age c (Queued k) new ok s =
      subst (SafeAt w (Enqueue h n age c) (Queued k)) (sym ok.4)
      (mild.pushed A rules (sight_of w) w.core.index (k + 1) (flusher_of rules h) (Piece h k n c) s (let e : k ≡ w.core.next = ok.0 in omega arith) (fewer_same w.core.index)
      ((let e : k ≡ w.core.next = ok.0 in let l : s.low (flusher_of rules h) ≤ w.core.next = s.lines.lows (flusher_of rules h) in omega arith), refl))
  enqueue_safe w h n age c reply new ok s = absurd ok

  pub wait_safe : (w : World C) (f i : ℕ) (reply : Reply C) (new : State C) → Waits rules w.core f i reply new → IsSafe A rules (sight_of w) → SafeAt w (Wait f i) reply new
  wait_safe w f i Done new ok s =
      subst (SafeAt w (Wait f i) Done) (sym ok) (mild.pushed A rules (sight_of w) w.core.index w.core.next f (Await i) s (omega arith) (fewer_same w.core.index) tt)
  wait_safe w f i reply new ok s = absurd ok

  pub look_safe : (w : World C) (h : ℕ) (throttled : Bool) (slot : Option Slot) (reply : Reply C) (new : State C) → Looks rules w.core h throttled slot reply new → IsSafe A rules (sight_of w) → SafeAt w (LoadBegin h throttled) reply new
  look_safe w h throttled (Some (Indexed a)) Throttled new ok s = subst (SafeAt w (LoadBegin h throttled) Throttled) (sym ok.1) s
  look_safe w h throttled (Some (Indexed a)) Miss new ok s =
      subst (SafeAt w (LoadBegin h throttled) Miss) (sym ok.2)
      (mild.indexed A rules (sight_of w) (put w.core.index h None) (fewer_put w.core.index h None (λ b e. absurd (let x : None ≡ Some (Indexed b) = e in cc))) s)
  look_safe w h throttled (Some (Indexed a)) (Read t) new ok s = subst (SafeAt w (LoadBegin h throttled) (Read t)) (sym ok.3) s
  look_safe w h throttled None Miss new ok s = subst (SafeAt w (LoadBegin h throttled) Miss) (sym ok) s
  look_safe w h throttled (Some (Mark k)) Miss new ok s = subst (SafeAt w (LoadBegin h throttled) Miss) (sym ok) s
  look_safe w h throttled slot reply new ok s = absurd ok

  judge_safe : (w : World C) (t : Ticket) (came : ReadResult) (outcome : Outcome C) (reply : Reply C) (new : State C) → Judges rules w.core t outcome reply new → IsSafe A rules (sight_of w) → SafeAt w (LoadEnd t came) reply new
  judge_safe w t came NoRecord Miss new ok s =
      subst (SafeAt w (LoadEnd t came) Miss) (sym ok)
      (mild.indexed A rules (sight_of w) (put w.core.index t.hash (without t.address (w.core.index t.hash)))
      (fewer_put w.core.index t.hash (without t.address (w.core.index t.hash)) (fewer_without t.address (w.core.index t.hash))) s)
  judge_safe w t came (Content c) (Entry d age) new ok s = subst (SafeAt w (LoadEnd t came) (Entry d age)) (sym ok.2) s
  judge_safe w t came outcome reply new ok s = absurd ok

  pub end_safe : (w : World C) (t : Ticket) (came : ReadResult) (reply : Reply C) (new : State C) → Ends rules w.core t came reply new → IsSafe A rules (sight_of w) → SafeAt w (LoadEnd t came) reply new
  end_safe w t Fault reply new ok s = absurd ok
  end_safe w t (Bytes bs) reply new ok s = judge_safe w t (Bytes bs) (judged rules w.core t bs) reply new ok s

  -- a flusher's queue and buffer change
  pub taken : (w : World C) (f : ℕ) (ψ : Flusher C) (s : IsSafe A rules (sight_of w)) → hand_of ψ (w.block_writes f) ≡ hand_of (w.core.flushers f) (w.block_writes f)
      → AllWait (IsOf rules s.low f) ψ → RestAt A rules w.filled ψ → IsSafe A rules (record (sight_of w) { flushers = put w.core.flushers f ψ })
  taken w f ψ s hand waits rest = mild.turned A rules (sight_of w) w.core.index w.core.next f ψ s (omega arith) (fewer_same w.core.index) hand waits rest

  pub take_safe : (w : World C) (f : ℕ) (queue : List (Submission C)) (reply : Reply C) (new : State C) → (w.core.flushers f).queue ≡ queue → TakesFront rules w.core f queue reply new → IsSafe A rules (sight_of w) → SafeAt w (Receive f) reply new
  take_safe w f [] Empty new is ok s = subst (SafeAt w (Receive f) Empty) (sym ok) s
  take_safe w f (Piece h k n c ∷ rest) (Received None) new is ok s =
      let all : Each (SubmissionIs (IsOf rules s.low f)) (Piece h k n c ∷ rest) = subst (Each (SubmissionIs (IsOf rules s.low f))) is (s.lines.waits f).queue in
      subst (SafeAt w (Receive f) (Received None)) (sym ok.3)
      (taken w f _ s refl (record { batch = (s.lines.waits f).batch; buffer = each_join (RecordIs (IsOf rules s.low f)) (w.core.flushers f).buffer (record { hash = h; sequence = k; bytes = ok.0; source = Given c } ∷ []) (s.lines.waits f).buffer (all.0, tt); queue = all.1 }) (s.rests f))
  take_safe w f (Piece h k n c ∷ rest) (Received (Some d)) new is ok s =
      let all : Each (SubmissionIs (IsOf rules s.low f)) (Piece h k n c ∷ rest) = subst (Each (SubmissionIs (IsOf rules s.low f))) is (s.lines.waits f).queue in
      subst (SafeAt w (Receive f) (Received (Some d))) (sym ok.2)
      (mild.turned A rules (sight_of w) (put w.core.index h (inserted (w.core.index h) (Mark k))) w.core.next f _ s (omega arith)
      (fewer_put w.core.index h (inserted (w.core.index h) (Mark k)) (fewer_mark (w.core.index h) k)) refl
      (record { batch = (s.lines.waits f).batch; buffer = (s.lines.waits f).buffer; queue = all.1 }) (s.rests f))
  take_safe w f (Remove h k invalidated ∷ rest) (Received None) new is ok s =
      let all : Each (SubmissionIs (IsOf rules s.low f)) (Remove h k invalidated ∷ rest) = subst (Each (SubmissionIs (IsOf rules s.low f))) is (s.lines.waits f).queue in
      subst (SafeAt w (Receive f) (Received None)) (sym ok)
      (taken w f _ s refl (record { batch = (s.lines.waits f).batch; buffer = (s.lines.waits f).buffer; queue = all.1 }) (s.rests f))
  take_safe w f (Await i ∷ rest) (Received None) new is ok s =
      let all : Each (SubmissionIs (IsOf rules s.low f)) (Await i ∷ rest) = subst (Each (SubmissionIs (IsOf rules s.low f))) is (s.lines.waits f).queue in
      subst (SafeAt w (Receive f) (Received None)) (sym ok)
      (taken w f _ s refl (record { batch = (s.lines.waits f).batch; buffer = (s.lines.waits f).buffer; queue = all.1 }) (s.rests f))
  take_safe w f (Reinsert h bytes a ∷ rest) (Received None) new is ok s =
      absurd ((subst (Each (SubmissionIs (IsOf rules s.low f))) is (s.lines.waits f).queue).0)
  take_safe w f queue reply new is ok s = absurd ok

  pub begin_safe : (w : World C) (f : ℕ) (reply : Reply C) (new : State C) → AllFitBlock rules (w.core.flushers f).buffer → (w.core.flushers f).batch ≡ None → Begins rules Splits w.core f reply new → Known w → IsSafe A rules (sight_of w) → SafeAt w (FlushBegin f) reply new
  begin_safe w f (Began blocks marks) new fit none ok known s =
      subst (SafeAt w (FlushBegin f) (Began blocks marks)) (sym ok.2)
      (taken w f _ s (λ i. record { own = φ.own; ready = φ.ready; job = no_job (sym none) i; left = left_in (w.block_writes f) })
      (record { batch = subst (Each (RecordIs (IsOf rules s.low f))) (sym (demands.places φ.context φ.buffer blocks ok.1).all) (s.lines.waits f).buffer; buffer = tt; queue = (s.lines.waits f).queue })
      (subst (λ g. RestOk A (sizes_of rules) (filled_to g) blocks) start (rest_of A (sizes_of rules) (filled_to φ.context) blocks (real.places φ.context φ.buffer blocks fit ok.1))))
    where
      φ : Flusher C
      φ = w.core.flushers f

      no_job : {b : Option (Batch C)} → None ≡ b → job_of (writing_in None) ≡ job_of (writing_in b)
      no_job e = ap (λ k. job_of (writing_in k)) e

      start : φ.context ≡ start_of rules w.filled φ.own (is_some φ.own)
      start = (known.sound.flushers f).context ∙ ap (λ k. last_end (start_of rules w.filled φ.own true) (blocks_in k)) none ∙ start_same rules w.filled φ.own
  begin_safe w f reply new fit none ok known s = absurd ok

  pub log_safe : (w : World C) (f : ℕ) (well : Bool) (batch : Option (Batch C)) (reply : Reply C) (new : State C) → (w.core.flushers f).batch ≡ batch → Logs rules w.core f well batch reply new → IsSafe A rules (sight_of w) → SafeAt w (LogWrote f well) reply new
  log_safe w f well (Some batch) Done new is ok s =
      subst (SafeAt w (LogWrote f well) Done) (sym ok)
      (taken w f _ s (λ i. record { own = (w.core.flushers f).own; ready = (w.core.flushers f).ready; job = ap (λ k. job_of (writing_in k)) (sym is) i; left = left_in (w.block_writes f) })
      (record { batch = subst (λ k. Each (RecordIs (IsOf rules s.low f)) (batch_records k)) is (s.lines.waits f).batch; buffer = (s.lines.waits f).buffer; queue = (s.lines.waits f).queue })
      (subst (λ k. RestOk A (sizes_of rules) (filled_to (start_of rules w.filled (w.core.flushers f).own (goes_on_in k))) (blocks_in k)) is (s.rests f)))
  log_safe w f well batch reply new is ok s = absurd ok

  pub finish_safe : (w : World C) (f : ℕ) (batch : Option (Batch C)) (reply : Reply C) (new : State C) → (w.core.flushers f).batch ≡ batch → IsWritten rules.has_log batch → Finishes rules w.core f batch reply new → IsSafe A rules (sight_of w) → SafeAt w (FlushEnd f) reply new
  finish_safe w f (Some batch) (Ended pieces waits) new is turn ok s =
      subst (SafeAt w (FlushEnd f) (Ended pieces waits)) (sym ok.2)
      (mild.turned A rules (sight_of w) (unmarked batch.marks w.core.index) w.core.next f (record (w.core.flushers f) { batch = None }) s (omega arith) (fewer_unmarked batch.marks w.core.index)
      (λ i. record { own = (w.core.flushers f).own; ready = (w.core.flushers f).ready; job = no_job i; left = left_in (w.block_writes f) })
      (record { batch = tt; buffer = (s.lines.waits f).buffer; queue = (s.lines.waits f).queue }) tt)
    where
      no_job : None ≡ job_in (w.core.flushers f)
      no_job = sym (ap (λ k. job_of (writing_in k)) is ∙ ap job_of turn.1)
  finish_safe w f batch reply new is turn ok s = absurd ok

  -- FlushBlock

  writes_are : (parts : List (Part C)) → writes_in rules parts ≡ writes_of rules.block_size parts
  writes_are [] = refl
  writes_are (p ∷ ps) = (λ i. real.format.writes p i ++ writes_are ps i) ∙ writes_cons rules.block_size p ps

  -- what it leaves, with the writes as they are issued and as they are kept
  abbrev shape : World C → (f b : ℕ) → Batch C → BlockLayout C → List (BlockLayout C) → (ℕ → ℕ) → (ℕ → BlockSet) → List Write → List Write → Position → Sight C
  shape w f b batch sp rest fill place issued kept e =
      record (sight_of w) {
        filling = fill;
        place = place;
        flushers = put w.core.flushers f (record (w.core.flushers f) { own = Some b; ready = None; batch = Some (record batch { blocks = rest; continues_own_block = false; writing = writing_of b kept (records_in sp.parts) }) });
        filled = put w.filled b e;
        block_writes = put w.block_writes f (issued_writes b issued);
      }

  empty_start : (filled : ℕ → Position) (own : Option ℕ) (goes : Bool) → goes ≡ false → start_of rules filled own goes ≡ first_position rules
  empty_start filled None goes e = refl
  empty_start filled (Some b) true e = absurd (let x : true ≡ false = e in cc)
  empty_start filled (Some b) false e = refl

  pub issue_safe : (w : World C) (f : ℕ) (batch : Option (Batch C)) (reply : Reply C) (new : State C) → (w.core.flushers f).batch ≡ batch → WantsBlock batch → Describes rules w.core f batch reply new → Known w → IsSafe A rules (sight_of w) → SafeAt w (FlushBlock f) reply new
  issue_safe w f (Some batch) NoBlock new is turn ok known s =
      subst (SafeAt w (FlushBlock f) NoBlock) (sym ok.3)
      (leaves A rules real.format.sizes (sight_of w) f batch s (owned_of rules Splits is_value demands w known) is ok.0 (ap (λ k. job_of (writing_in k)) is ∙ ap job_of turn.1))
  issue_safe w f (Some batch) (Written b writes) new is turn (sp, rest, blocks, all, which) known s =
      elim which [
        | inl (goes, own, eq) ↦ subst (SafeAt w (FlushBlock f) (Written b writes)) (sym eq) (subst (IsSafe A rules) (shapes w.core.filling w.core.place) (in_own goes own))
        | inr (inl (fresh, ready, eq)) ↦ subst (SafeAt w (FlushBlock f) (Written b writes)) (sym eq) (subst (IsSafe A rules) (shapes w.core.filling w.core.place) (in_ready fresh ready))
        | inr (inr (fresh, ready, free, eq)) ↦ subst (SafeAt w (FlushBlock f) (Written b writes)) (sym eq) (subst (IsSafe A rules) (shapes fill' place') (in_clean fresh free))
      ]
    where
      v : Sight C
      v = sight_of w

      o : IsOwned rules v
      o = owned_of rules Splits is_value demands w known

      fill' : ℕ → ℕ
      fill' = put w.core.filling b (w.core.filling b + 1)

      place' : ℕ → BlockSet
      place' = put (released (w.core.flushers f).own w.core.place) b (Writes f)

      whole : (w.core.flushers f).batch ≡ Some (record batch { blocks = sp ∷ rest; writing = None })
      whole = is ∙ (λ j. Some (record batch { blocks = blocks j; writing = turn.1 j }))

      ends : end_in (w.core.flushers f).batch (w.filled b) ≡ sp.end
      ends = ap (λ k. end_in k (w.filled b)) whole

      shapes : (fill : ℕ → ℕ) (place : ℕ → BlockSet) → shape w f b batch sp rest fill place (writes_of rules.block_size sp.parts) (writes_of rules.block_size sp.parts) sp.end
          ≡ shape w f b batch sp rest fill place writes (writes_in rules sp.parts) (end_in (w.core.flushers f).batch (w.filled b))
      shapes fill place = λ i. shape w f b batch sp rest fill place (sym (all ∙ writes_are sp.parts) i) (sym (writes_are sp.parts) i) (sym ends i)

      no_job : job_in (w.core.flushers f) ≡ None
      no_job = ap (λ k. job_of (writing_in k)) whole

      spread : (g : Position) → start_of rules w.filled (w.core.flushers f).own (goes_on_in (w.core.flushers f).batch) ≡ g → IsSpread A (sizes_of rules) (filled_to g) (sp ∷ rest)
      spread g at = subst (λ k. IsSpread A (sizes_of rules) (filled_to k) (sp ∷ rest)) at (rest_is A (sizes_of rules) _ (blocks_in (w.core.flushers f).batch) sp rest (ap blocks_in whole) (s.rests f))

      goes_is : goes_on_in (w.core.flushers f).batch ≡ batch.continues_own_block
      goes_is = ap goes_on_in is

      in_own : batch.continues_own_block ≡ true → (w.core.flushers f).own ≡ Some b → IsSafe A rules (shape w f b batch sp rest w.core.filling w.core.place (writes_of rules.block_size sp.parts) (writes_of rules.block_size sp.parts) sp.end)
      in_own goes own =
          issued A rules real.format.sizes v f b batch sp rest w.core.filling w.core.place (filled_to (w.filled b)) s o whole
          (spread (w.filled b) (λ i. start_of rules w.filled (own i) ((goes_is ∙ goes) i)))
          ((s.held f).mine b own no_job) (s.ups.owned f b own)
          (λ q ne e. ne (o.one q f b e own))
          (λ q ne e. ne (let x : w.core.place b ≡ Writes f = o.place f b own in let y : w.core.place b ≡ Writes q = (o.ready q b e).0 in cc))
          (λ c _. refl) (λ c. omega arith) (λ h a e at. refl) (λ c d. d) (λ c _ d. d)
          (λ e. let x : None ≡ Some b = sym (s.apart.idle e f).0 ∙ own in cc)
          (no_reclaim rules v o f b (o.place f b own))

      in_ready : batch.continues_own_block ≡ false → (w.core.flushers f).ready ≡ Some b → IsSafe A rules (shape w f b batch sp rest w.core.filling w.core.place (writes_of rules.block_size sp.parts) (writes_of rules.block_size sp.parts) sp.end)
      in_ready begins ready =
          issued A rules real.format.sizes v f b batch sp rest w.core.filling w.core.place (fresh (sizes_of rules)) s o whole
          (spread (first_position rules) (empty_start w.filled (w.core.flushers f).own (goes_on_in (w.core.flushers f).batch) (goes_is ∙ begins)))
          (subst (Holds (sizes_of rules) (w.bytes b) (fresh (sizes_of rules))) (sym none) (holds_fresh (sizes_of rules) (w.bytes b) real.format.sizes))
          (subst (λ l. Ascends 0 (sequences_of l) (s.low f)) (sym none) (omega arith))
          (λ q ne e. ne (let x : w.core.place b ≡ Writes f = (o.ready f b ready).0 in let y : w.core.place b ≡ Writes q = o.place q b e in cc))
          (λ q ne e. ne (let x : w.core.place b ≡ Writes f = (o.ready f b ready).0 in let y : w.core.place b ≡ Writes q = (o.ready q b e).0 in cc))
          (λ c _. refl) (λ c. omega arith) (λ h a e at. refl) (λ c d. d) (λ c _ d. d)
          (λ e. let x : None ≡ Some b = sym (s.apart.idle e f).1 ∙ ready in cc)
          (no_reclaim rules v o f b (o.ready f b ready).0)
        where
          none : puts_in w.core.filling w.committed b ≡ []
          none = s.apart.handed f b ready

      in_clean : batch.continues_own_block ≡ false → clean_block rules w.core ≡ Some b → IsSafe A rules (shape w f b batch sp rest fill' place' (writes_of rules.block_size sp.parts) (writes_of rules.block_size sp.parts) sp.end)
      in_clean begins free =
          issued A rules real.format.sizes v f b batch sp rest fill' place' (fresh (sizes_of rules)) s o whole
          (spread (first_position rules) (empty_start w.filled (w.core.flushers f).own (goes_on_in (w.core.flushers f).batch) (goes_is ∙ begins)))
          (subst (Holds (sizes_of rules) (w.bytes b) (fresh (sizes_of rules))) (sym none) (holds_fresh (sizes_of rules) (w.bytes b) real.format.sizes))
          (subst (λ l. Ascends 0 (sequences_of l) (s.low f)) (sym none) (omega arith))
          (λ q ne e. let x : Clean ≡ Writes q = sym at ∙ o.place q b e in cc)
          (λ q ne e. let x : Clean ≡ Writes q = sym at ∙ (o.ready q b e).0 in cc)
          (λ c ne. put_other w.core.filling b (w.core.filling b + 1) c ne)
          (put_one (λ c n. w.core.filling c ≤ n) w.core.filling b (w.core.filling b + 1) (omega arith) (λ c _. omega arith))
          (λ h a e here. absurd ((s.slots h a e).alive (inl (ap w.core.place here ∙ at))))
          dead dead_back
          (λ e. quiet (is_cleaning w.core.destroy) refl e free)
          (unread (w.core.reclaims b) refl)
        where
          at : w.core.place b ≡ Clean
          at = clean_is rules w.core known.sets b free

          none : puts_in fill' w.committed b ≡ []
          none = ap (λ n. puts_at b n w.committed) (put_same w.core.filling b (w.core.filling b + 1)) ∙ no_puts A rules real.format.sizes v s.low b (w.core.filling b + 1) s.done.below (omega arith)

          quiet : (t : Bool) → is_cleaning w.core.destroy ≡ t → is_cleaning w.core.destroy ≡ true → (if t then None else first_usable w.core.filling w.core.clean) ≡ Some b → ⊥
          quiet true e f g = let x : None ≡ Some b = g in cc
          quiet false e f g = let x : true ≡ false = sym f ∙ e in cc

          unread : (r : Option Reclaim) → w.core.reclaims b ≡ r → w.core.reclaims b ≡ None
          unread None e = e
          unread (Some r) e = absurd (let x : Clean ≡ Reclaims = sym at ∙ o.reclaims b r e in cc)

          left : (own : Option ℕ) (c : ℕ) → ((d : ℕ) → own ≡ Some d → w.core.place d ≡ Writes f) → w.core.place c ≡ Clean → released own w.core.place c ≡ Clean
          left None c owned e = e
          left (Some d) c owned e = put_at (λ k. k ≡ Clean) w.core.place d Evictable c (λ same. absurd (let x : Clean ≡ Writes f = sym e ∙ ap w.core.place same ∙ owned d refl in cc)) (λ _. e)

          was : (own : Option ℕ) (c : ℕ) → released own w.core.place c ≡ Clean → w.core.place c ≡ Clean
          was None c e = e
          was (Some d) c given = put_at (λ k. k ≡ Clean → w.core.place c ≡ Clean) w.core.place d Evictable c (λ _ e. absurd (let z : Evictable ≡ Clean = e in cc)) (λ _ e. e) given

          dead : (c : ℕ) → IsDead place' w.core.reclaims c → IsDead w.core.place w.core.reclaims c
          dead c (inr soon) = inr soon
          dead c (inl clean) = inl (put_at (λ k. k ≡ Clean → w.core.place c ≡ Clean) (released (w.core.flushers f).own w.core.place) b (Writes f) c (λ _ e. absurd (let z : Writes f ≡ Clean = e in cc)) (λ _ e. was (w.core.flushers f).own c e) clean)

          dead_back : (c : ℕ) → (c ≡ b → ⊥) → IsDead w.core.place w.core.reclaims c → IsDead place' w.core.reclaims c
          dead_back c ne (inr soon) = inr soon
          dead_back c ne (inl clean) = inl (put_other (released (w.core.flushers f).own w.core.place) b (Writes f) c ne ∙ left (w.core.flushers f).own c (o.place f) clean)
  issue_safe w f batch reply new is turn ok known s = absurd ok
