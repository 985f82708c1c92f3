-- Steps of flushers keep what is true of the life of a block.
use Rattle.std.proofs.Common.{◌≡◌, ℕ, ◌==◌, Bool, true, false, if◌then◌else◌, Option, Some, None, List, [], ◌∷◌, ◌++◌, inl, inr, refl, sym, ap, subst, ◌∙◌}
use Rattle.std.proofs.lemmas.Bool.{eqb-true, eqb-false}
use Rattle.foyer_format_layout.specs.BlockBytes.{Write}
use Rattle.foyer_format_layout.specs.Position.{Sizes, fresh}
use Rattle.foyer_format_buffer.specs.Position as laid
use Rattle.foyer_format_buffer.proofs.HoldsLemmas.{holds_fresh}
use Rattle.foyer_core_model.specs.Access.{CleanIdle, CleanDone, BlockWrites, Idle, Issued, InFlight, writes_of as issued_writes, writes_reported}
use Rattle.foyer_core_model.specs.Flush.{is_some, is_cleaning, released, writing_of, first_usable, Begins, clean_block, Describes, Wrote, Logs, Finishes}
use Rattle.foyer_core_model.specs.InTurn.{WantsBlock}
use Rattle.foyer_core_model.specs.Laws.{Demands}
use Rattle.foyer_core_model.specs.Layout.{writes_in, AllFitBlock}
use Rattle.foyer_core_model.specs.Load.{Looks, judged, Judges, Ends}
use Rattle.foyer_core_model.specs.Numbers.{put}
use Rattle.foyer_core_model.specs.Position.{Position, Part, BlockLayout, records_in, last_end}
use Rattle.foyer_core_model.specs.Queue.{Enqueues, Deletes, Waits}
use Rattle.foyer_core_model.specs.Receive.{TakesFront}
use Rattle.foyer_core_model.specs.Record.{Slot, Indexed, Mark, Outcome, NoRecord, Holds as Content}
use Rattle.foyer_core_model.specs.Reply.{Reply, Ignored, Queued, Dropped, Deleted, Done, Miss, Throttled, Read, Entry, Empty, Received, Began, Written, NoBlock, Next, Committed, Failed, Ended}
use Rattle.foyer_core_model.specs.Rules.{Rules, flusher_of, first_position, Splitting, sizes_of}
use Rattle.foyer_core_model.specs.State.{Submission, Piece, Remove, Await, Reinsert, Batch, Flusher, BlockSet, Clean, Writes, Reclaims, State}
use Rattle.foyer_core_model.specs.Step.{ReadResult, Bytes, Fault, Age, Ticket, Step, Enqueue, Delete, Wait, LoadBegin, LoadEnd, Receive, FlushBegin, FlushBlock, FlushWrote, LogWrote, FlushEnd}
use Rattle.foyer_core_model.specs.World.{World, Applies, end_in, after}
use Rattle.foyer_core_model.proofs.Basics.{put_at, put_one}
use Rattle.foyer_core_model.proofs.Invariant.{blocks_in, goes_on_in, start_of}
use Rattle.foyer_core_model.proofs.Received.{start_same}
use Rattle.foyer_core_model.proofs.Sets.{clean_is}
use Rattle.foyer_core_model.proofs.SoundKept.{IsKnown, reclaims_at}
use Rattle.foyer_core_restart.specs.Entries.{filled_to}
use Rattle.foyer_core_restart.specs.Real.{IsReal, IsSpread}
use Rattle.foyer_core_restart.proofs.Issued.{awaits_cleaning}
use Rattle.foyer_core_restart.proofs.Members.{in_left}
use Rattle.foyer_core_restart.proofs.Owned.{IsOwned, owned_of}
use Rattle.foyer_core_restart.proofs.Safe.{sight_of, RestOk}
use Rattle.foyer_core_restart.proofs.Tasks.{writes_of, writes_cons}
use Rattle.foyer_core_returns.specs.Lives.{Life, next_records, after_step}
use Rattle.foyer_core_returns.proofs.LifeWrites.{IsFilledBy, spread_left, spread_rest}
use Rattle.foyer_core_returns.proofs.Lived.{Scene, scene_of, released_was, IsClear, AreLeft, IsLived, turned_one, pushed, leaves, issued}

-- the rest of a batch that is spread
rest_of : (A : Type 0) {C : Type 0} (s : Sizes) (f : laid.Position) (blocks : List (BlockLayout C)) → IsSpread A s f blocks → RestOk A s f blocks
rest_of A s f [] ok = tt
rest_of A s f (b ∷ bs) ok = ok

rest_is : (A : Type 0) {C : Type 0} (s : Sizes) (f : laid.Position) (blocks : List (BlockLayout C)) (b : BlockLayout C) (bs : List (BlockLayout C)) → blocks ≡ b ∷ bs → RestOk A s f blocks → IsSpread A s f (b ∷ bs)
rest_is A s f blocks b bs is ok = subst (RestOk A s f) is ok

empty_start : {C : Type 0} (rules : Rules C) (filled : ℕ → Position) (own : Option ℕ) (goes : Bool) → goes ≡ false → start_of rules filled own goes ≡ first_position rules
empty_start rules filled None goes e = refl
empty_start rules filled (Some b) true e = absurd (let x : true ≡ false = e in cc)
empty_start rules filled (Some b) false e = refl

module _ (A : Type 0) {C : Type 0} (rules : Rules C) (Splits : Splitting C) (is_value : C → Type 0) (demands : Demands rules Splits is_value) (real : IsReal A rules Splits) (b : ℕ) (B : ℕ → ℕ) (Nothing : Type 0) where
  -- what is true of the life of the block, and what is after a step with this reply and this state
  abbrev pub Lived : World C → Life C → Type 0
  Lived w l = IsLived A rules b B Nothing (scene_of w) l

  abbrev pub LivedAt : World C → Life C → Step C → Reply C → State C → Type 0
  LivedAt w l step reply new = IsLived A rules b B Nothing (scene_of (after rules w (Applies step reply new))) (after_step w.core reply step b l)

  abbrev s : Sizes
  s = sizes_of rules

  queue_grows : (w : World C) (l : Life C) (f : ℕ) (sub : Submission C) → Lived w l
      → IsLived A rules b B Nothing (record (scene_of w) { flushers = put w.core.flushers f (record (w.core.flushers f) { queue = (w.core.flushers f).queue ++ sub ∷ [] }) }) l
  queue_grows w l f sub k = pushed A rules b B Nothing (scene_of w) l f (record (w.core.flushers f) { queue = (w.core.flushers f).queue ++ sub ∷ [] }) k refl refl refl

  pub delete_lived : (w : World C) (l : Life C) (h : ℕ) (reply : Reply C) (new : State C) → Deletes rules w.core h reply new → Lived w l → LivedAt w l (Delete h) reply new
  delete_lived w l h (Deleted n) new ok k = subst (LivedAt w l (Delete h) (Deleted n)) (sym ok.3) (queue_grows w l (flusher_of rules h) _ k)
  delete_lived w l h reply new ok k = absurd ok

  pub enqueue_lived : (w : World C) (l : Life C) (h n : ℕ) (age : Age) (c : C) (reply : Reply C) (new : State C) → Enqueues rules w.core h n age c reply new → Lived w l → LivedAt w l (Enqueue h n age c) reply new
  enqueue_lived w l h n age c (Dropped d m) new ok k = delete_lived w l h (Deleted m) new ok.3 k
  enqueue_lived w l h n age c (Ignored d) new ok k = subst (LivedAt w l (Enqueue h n age c) (Ignored d)) (sym ok.3) k
  enqueue_lived w l h n age c (Queued m) new ok k = subst (LivedAt w l (Enqueue h n age c) (Queued m)) (sym ok.4) (queue_grows w l (flusher_of rules h) (Piece h m n c) k)
  enqueue_lived w l h n age c reply new ok k = absurd ok

  pub wait_lived : (w : World C) (l : Life C) (f i : ℕ) (reply : Reply C) (new : State C) → Waits rules w.core f i reply new → Lived w l → LivedAt w l (Wait f i) reply new
  wait_lived w l f i Done new ok k = subst (LivedAt w l (Wait f i) Done) (sym ok) (queue_grows w l f (Await i) k)
  wait_lived w l f i reply new ok k = absurd ok

  pub look_lived : (w : World C) (l : Life C) (h : ℕ) (throttled : Bool) (slot : Option Slot) (reply : Reply C) (new : State C) → Looks rules w.core h throttled slot reply new → Lived w l → LivedAt w l (LoadBegin h throttled) reply new
  look_lived w l h throttled (Some (Indexed a)) Throttled new ok k = subst (LivedAt w l (LoadBegin h throttled) Throttled) (sym ok.1) k
  look_lived w l h throttled (Some (Indexed a)) Miss new ok k = subst (LivedAt w l (LoadBegin h throttled) Miss) (sym ok.2) k
  look_lived w l h throttled (Some (Indexed a)) (Read t) new ok k = subst (LivedAt w l (LoadBegin h throttled) (Read t)) (sym ok.3) k
  look_lived w l h throttled None Miss new ok k = subst (LivedAt w l (LoadBegin h throttled) Miss) (sym ok) k
  look_lived w l h throttled (Some (Mark n)) Miss new ok k = subst (LivedAt w l (LoadBegin h throttled) Miss) (sym ok) k
  look_lived w l h throttled slot reply new ok k = absurd ok

  judge_lived : (w : World C) (l : Life C) (t : Ticket) (came : ReadResult) (outcome : Outcome C) (reply : Reply C) (new : State C) → Judges rules w.core t outcome reply new → Lived w l → LivedAt w l (LoadEnd t came) reply new
  judge_lived w l t came NoRecord Miss new ok k = subst (LivedAt w l (LoadEnd t came) Miss) (sym ok) k
  judge_lived w l t came (Content c) (Entry d age) new ok k = subst (LivedAt w l (LoadEnd t came) (Entry d age)) (sym ok.2) k
  judge_lived w l t came outcome reply new ok k = absurd ok

  pub end_lived : (w : World C) (l : Life C) (t : Ticket) (came : ReadResult) (reply : Reply C) (new : State C) → Ends rules w.core t came reply new → Lived w l → LivedAt w l (LoadEnd t came) reply new
  end_lived w l t Fault reply new ok k = absurd ok
  end_lived w l t (Bytes bs) reply new ok k = judge_lived w l t (Bytes bs) (judged rules w.core t bs) reply new ok k

  taken : (w : World C) (l : Life C) (f : ℕ) (flusher : Flusher C) → Lived w l → flusher.own ≡ (w.core.flushers f).own → flusher.ready ≡ (w.core.flushers f).ready → flusher.batch ≡ (w.core.flushers f).batch
      → IsLived A rules b B Nothing (record (scene_of w) { flushers = put w.core.flushers f flusher }) l
  taken w l f flusher k own ready batch = pushed A rules b B Nothing (scene_of w) l f flusher k own ready batch

  pub take_lived : (w : World C) (l : Life C) (f : ℕ) (queue : List (Submission C)) (reply : Reply C) (new : State C) → TakesFront rules w.core f queue reply new → Lived w l → LivedAt w l (Receive f) reply new
  take_lived w l f [] Empty new ok k = subst (LivedAt w l (Receive f) Empty) (sym ok) k
  take_lived w l f (Piece h m n c ∷ rest) (Received None) new ok k = subst (LivedAt w l (Receive f) (Received None)) (sym ok.3) (taken w l f _ k refl refl refl)
  take_lived w l f (Piece h m n c ∷ rest) (Received (Some d)) new ok k = subst (LivedAt w l (Receive f) (Received (Some d))) (sym ok.2) (taken w l f _ k refl refl refl)
  take_lived w l f (Remove h m invalidated ∷ rest) (Received None) new ok k = subst (LivedAt w l (Receive f) (Received None)) (sym ok) (taken w l f _ k refl refl refl)
  take_lived w l f (Await i ∷ rest) (Received None) new ok k = subst (LivedAt w l (Receive f) (Received None)) (sym ok) (taken w l f _ k refl refl refl)
  take_lived w l f (Reinsert h bytes a ∷ rest) (Received None) new ok k =
      elim ok [
        | inl put ↦ subst (LivedAt w l (Receive f) (Received None)) (sym put.2) (taken w l f _ k refl refl refl)
        | inr gone ↦ subst (LivedAt w l (Receive f) (Received None)) (sym gone.1) (taken w l f _ k refl refl refl)
      ]
  take_lived w l f queue reply new ok k = absurd ok

  -- a batch begins

  pub begin_lived : (w : World C) (l : Life C) (f : ℕ) (reply : Reply C) (new : State C) → AllFitBlock rules (w.core.flushers f).buffer → (w.core.flushers f).batch ≡ None → Begins rules Splits w.core f reply new
      → IsKnown rules Splits is_value demands w → Lived w l → LivedAt w l (FlushBegin f) reply new
  begin_lived w l f (Began blocks marks) new fit none ok known k =
      subst (LivedAt w l (FlushBegin f) (Began blocks marks)) (sym ok.2)
      (turned_one A rules b B Nothing (scene_of w) l f _ w.block_writes k refl refl
      (subst (λ g. RestOk A s (filled_to g) blocks) start (rest_of A s (filled_to flusher.context) blocks (real.places flusher.context flusher.buffer blocks fit ok.1))) k.left)
    where
      flusher : Flusher C
      flusher = w.core.flushers f

      start : flusher.context ≡ start_of rules w.filled flusher.own (is_some flusher.own)
      start = (known.sound.flushers f).context ∙ ap (λ q. last_end (start_of rules w.filled flusher.own true) (blocks_in q)) none ∙ start_same rules w.filled flusher.own
  begin_lived w l f reply new fit none ok known k = absurd ok

  -- the same batch, as far as it is to be written
  rest_same : (w : World C) (l : Life C) (f : ℕ) (batch : Batch C) → (w.core.flushers f).batch ≡ Some batch → Lived w l
      → RestOk A s (filled_to (start_of rules w.filled (w.core.flushers f).own batch.continues_own_block)) batch.blocks
  rest_same w l f batch is k = subst (λ q. RestOk A s (filled_to (start_of rules w.filled (w.core.flushers f).own (goes_on_in q))) (blocks_in q)) is (k.rests f)

  pub log_lived : (w : World C) (l : Life C) (f : ℕ) (well : Bool) (batch : Option (Batch C)) (reply : Reply C) (new : State C) → (w.core.flushers f).batch ≡ batch → Logs rules w.core f well batch reply new → Lived w l → LivedAt w l (LogWrote f well) reply new
  log_lived w l f well (Some batch) Done new is ok k =
      subst (LivedAt w l (LogWrote f well) Done) (sym ok) (turned_one A rules b B Nothing (scene_of w) l f _ w.block_writes k refl refl (rest_same w l f batch is k) k.left)
  log_lived w l f well batch reply new is ok k = absurd ok

  pub finish_lived : (w : World C) (l : Life C) (f : ℕ) (batch : Option (Batch C)) (reply : Reply C) (new : State C) → Finishes rules w.core f batch reply new → Lived w l → LivedAt w l (FlushEnd f) reply new
  finish_lived w l f (Some batch) (Ended pieces waits) new ok k =
      subst (LivedAt w l (FlushEnd f) (Ended pieces waits)) (sym ok.2) (turned_one A rules b B Nothing (scene_of w) l f _ w.block_writes k refl refl tt k.left)
  finish_lived w l f batch reply new ok k = absurd ok

  -- FlushWrote

  left_reported : (l : Life C) (pending : BlockWrites) → AreLeft A rules b B Nothing l pending → AreLeft A rules b B Nothing l (writes_reported pending)
  left_reported l Idle ok = tt
  left_reported l (Issued c [] ws) ok = ok
  left_reported l (Issued c (r ∷ rs) ws) ok = ok
  left_reported l (InFlight c [] v ws) ok = ok
  left_reported l (InFlight c (r ∷ rs) v ws) ok = ok

  left_put : (w : World C) (l : Life C) (f : ℕ) (pending : BlockWrites) → AreLeft A rules b B Nothing l pending → Lived w l → (q : ℕ) → AreLeft A rules b B Nothing l (put w.block_writes f pending q)
  left_put w l f pending ok k = put_one (λ q p. AreLeft A rules b B Nothing l p) w.block_writes f pending ok (λ q _. k.left q)

  pub wrote_lived : (w : World C) (l : Life C) (f : ℕ) (good : Bool) (batch : Option (Batch C)) (reply : Reply C) (new : State C) → (w.core.flushers f).batch ≡ batch → Wrote rules w.core f good batch reply new → Lived w l → LivedAt w l (FlushWrote f good) reply new
  wrote_lived w l f true (Some batch) Next new is (r, first, second, rest, writing, left, eq) k =
      subst (LivedAt w l (FlushWrote f true) Next) (sym eq)
      (turned_one A rules b B Nothing (scene_of w) l f _ (put w.block_writes f (writes_reported (w.block_writes f))) k refl refl (rest_same w l f batch is k)
      (left_put w l f (writes_reported (w.block_writes f)) (left_reported l (w.block_writes f) (k.left f)) k))
  wrote_lived w l f true (Some batch) (Committed n) new is (r, last, writing, left, count, eq) k =
      subst (LivedAt w l (FlushWrote f true) (Committed n)) (sym eq)
      (turned_one A rules b B Nothing (scene_of w) l f _ (put w.block_writes f Idle) k refl refl (rest_same w l f batch is k) (left_put w l f Idle tt k))
  wrote_lived w l f good (Some batch) Failed new is (r, first, rest, writing, left, last, eq) k =
      subst (LivedAt w l (FlushWrote f good) Failed) (sym eq)
      (leaves A rules b B Nothing (scene_of w) l f _ (put w.block_writes f Idle) k refl refl tt (left_put w l f Idle tt k))
  wrote_lived w l f good batch reply new is ok k = absurd ok

  -- FlushBlock

  writes_are : (parts : List (Part C)) → writes_in rules parts ≡ writes_of rules.block_size parts
  writes_are [] = refl
  writes_are (p ∷ ps) = (λ i. real.format.writes p i ++ writes_are ps i) ∙ writes_cons rules.block_size p ps

  -- what it leaves, with the writes as they are issued and as they are kept
  abbrev shape : World C → (f c : ℕ) → Batch C → BlockLayout C → List (BlockLayout C) → (ℕ → BlockSet) → List Write → List Write → Position → Scene C
  shape w f c batch sp rest place issued kept e =
      record (scene_of w) {
        place = place;
        flushers = put w.core.flushers f (record (w.core.flushers f) { own = Some c; ready = None; batch = Some (record batch { blocks = rest; continues_own_block = false; writing = writing_of c kept (records_in sp.parts) }) });
        filled = put w.filled c e;
        block_writes = put w.block_writes f (issued_writes c issued);
      }

  pub issue_lived : (w : World C) (l : Life C) (f : ℕ) (batch : Option (Batch C)) (reply : Reply C) (new : State C) → (w.core.flushers f).batch ≡ batch → WantsBlock batch → Describes rules w.core f batch reply new
      → IsKnown rules Splits is_value demands w → Lived w l → LivedAt w l (FlushBlock f) reply new
  issue_lived w l f (Some batch) NoBlock new is turn ok known k =
      subst (LivedAt w l (FlushBlock f) NoBlock) (sym ok.3)
      (leaves A rules b B Nothing (scene_of w) l f (record (w.core.flushers f) { own = None }) w.block_writes k refl refl
      (subst (λ g. RestOk A s (filled_to g) (blocks_in (w.core.flushers f).batch))
      (empty_start rules w.filled (w.core.flushers f).own (goes_on_in (w.core.flushers f).batch) (ap goes_on_in is ∙ ok.0) ∙ sym (empty_start rules w.filled None (goes_on_in (w.core.flushers f).batch) (ap goes_on_in is ∙ ok.0)))
      (k.rests f)) k.left)
  issue_lived w l f (Some batch) (Written c writes) new is turn (sp, rest, blocks, all, which) known k =
      elim which [
        | inl (goes, own, eq) ↦ subst (LivedAt w l (FlushBlock f) (Written c writes)) (sym eq)
            (lives w.core.place (filled_to (w.filled c)) (spread (w.filled c) (λ i. start_of rules w.filled (own i) ((goes_is ∙ goes) i)))
            (λ at. subst (λ d. IsFilledBy s l.records (filled_to (w.filled d))) (sym at) (k.mine f (own ∙ ap Some at)))
            (λ q ne e. ne (o.one q f c e own)) k.clean k.owned
            (λ e. let x : None ≡ Some c = sym (k.idle e f).0 ∙ own in cc) (λ e. let x : Reclaims ≡ Writes f = sym e ∙ o.place f c own in cc))
        | inr (inl (begins, ready, eq)) ↦ subst (LivedAt w l (FlushBlock f) (Written c writes)) (sym eq)
            (lives w.core.place (fresh s) (fresh_spread begins) (λ _. nothing)
            (λ q ne e. ne (let x : w.core.place c ≡ Writes f = (o.ready f c ready).0 in let y : w.core.place c ≡ Writes q = o.place q c e in cc)) k.clean k.owned
            (λ e. let x : None ≡ Some c = sym (k.idle e f).1 ∙ ready in cc) (λ e. let x : Reclaims ≡ Writes f = sym e ∙ (o.ready f c ready).0 in cc))
        | inr (inr (begins, ready, free, eq)) ↦ subst (LivedAt w l (FlushBlock f) (Written c writes)) (sym eq)
            (lives (put (released (w.core.flushers f).own w.core.place) c (Writes f)) (fresh s) (fresh_spread begins) (λ _. nothing)
            (λ q ne e. let x : Clean ≡ Writes q = sym (at_clean free) ∙ o.place q c e in cc)
            (put_at (λ x. x ≡ Clean → IsClear A rules b B Nothing l) (released (w.core.flushers f).own w.core.place) c (Writes f) b (λ _ e. absurd (let z : Writes f ≡ Clean = e in cc))
            (λ _ e. k.clean (released_was w.core.place (w.core.flushers f).own b Clean (λ x. cc) e)))
            (λ q. put_at (λ x. x ≡ Writes q → IsClear A rules b B Nothing l) (released (w.core.flushers f).own w.core.place) c (Writes f) b (λ at e. k.clean (ap w.core.place at ∙ at_clean free))
            (λ _ e. k.owned q (released_was w.core.place (w.core.flushers f).own b (Writes q) (λ x. cc) e)))
            (λ e. quiet (is_cleaning w.core.destroy) refl e free) (λ e. let x : Reclaims ≡ Clean = sym e ∙ at_clean free in cc))
      ]
    where
      o : IsOwned rules (sight_of w)
      o = owned_of rules Splits is_value demands w known

      whole : (w.core.flushers f).batch ≡ Some (record batch { blocks = sp ∷ rest; writing = None })
      whole = is ∙ (λ j. Some (record batch { blocks = blocks j; writing = turn.1 j }))

      ends : end_in (w.core.flushers f).batch (w.filled c) ≡ sp.end
      ends = ap (λ q. end_in q (w.filled c)) whole

      shapes : (place : ℕ → BlockSet) → shape w f c batch sp rest place (writes_of rules.block_size sp.parts) (writes_of rules.block_size sp.parts) sp.end
          ≡ shape w f c batch sp rest place writes (writes_in rules sp.parts) (end_in (w.core.flushers f).batch (w.filled c))
      shapes place = λ i. shape w f c batch sp rest place (sym (all ∙ writes_are sp.parts) i) (sym (writes_are sp.parts) i) (sym ends i)

      next_is : next_records (w.core.flushers f).batch ≡ records_in sp.parts
      next_is = ap next_records whole

      goes_is : goes_on_in (w.core.flushers f).batch ≡ batch.continues_own_block
      goes_is = ap goes_on_in is

      spread : (g : Position) → start_of rules w.filled (w.core.flushers f).own (goes_on_in (w.core.flushers f).batch) ≡ g → IsSpread A s (filled_to g) (sp ∷ rest)
      spread g at = subst (λ q. IsSpread A s (filled_to q) (sp ∷ rest)) at (rest_is A s _ (blocks_in (w.core.flushers f).batch) sp rest (ap blocks_in whole) (k.rests f))

      fresh_spread : batch.continues_own_block ≡ false → IsSpread A s (fresh s) (sp ∷ rest)
      fresh_spread begins = spread (first_position rules) (empty_start rules w.filled (w.core.flushers f).own (goes_on_in (w.core.flushers f).batch) (goes_is ∙ begins))

      nothing : IsFilledBy s l.records (fresh s)
      nothing = ((λ _. 0), [], holds_fresh s (λ _. 0) real.format.sizes, λ e i. absurd i)

      at_clean : clean_block rules w.core ≡ Some c → w.core.place c ≡ Clean
      at_clean free = clean_is rules w.core known.sets c free

      quiet : (t : Bool) → is_cleaning w.core.destroy ≡ t → is_cleaning w.core.destroy ≡ true → (if t then None else first_usable w.core.filling w.core.clean) ≡ Some c → ⊥
      quiet true e f' g = let x : None ≡ Some c = g in cc
      quiet false e f' g = let x : true ≡ false = sym f' ∙ e in cc

      lives : (place : ℕ → BlockSet) (start : laid.Position) → IsSpread A s start (sp ∷ rest) → (c ≡ b → IsFilledBy s l.records start)
          → ((q : ℕ) → (q ≡ f → ⊥) → (w.core.flushers q).own ≡ Some c → ⊥)
          → (place b ≡ Clean → IsClear A rules b B Nothing l) → ((q : ℕ) → place b ≡ Writes q → IsClear A rules b B Nothing l) → (is_cleaning w.core.destroy ≡ true → ⊥)
          → (w.core.place c ≡ Reclaims → ⊥)
          → IsLived A rules b B Nothing (shape w f c batch sp rest place writes (writes_in rules sp.parts) (end_in (w.core.flushers f).batch (w.filled c)))
          (if c == b then record l { records = l.records ++ next_records (w.core.flushers f).batch } else l)
      lives place start spreads filled alone clean owned calm held = subst (λ v. IsLived A rules b B Nothing v (if c == b then record l { records = l.records ++ next_records (w.core.flushers f).batch } else l)) (shapes place) (go (c == b) refl)
        where
          later : RestOk A s (fresh s) rest
          later = spread_rest A s start sp rest spreads

          undone : c ≡ b → (ok : Bool) → w.clean_states b ≡ CleanDone ok → ⊥
          undone at ok e = elim (k.dirty (λ x. let z : CleanDone ok ≡ CleanIdle = sym e ∙ x in cc)) [
            | inl soon ↦ held (ap w.core.place at ∙ reclaims_at rules Splits is_value demands w b known.again soon)
            | inr awaits ↦ calm (awaits_cleaning b w.core.destroy awaits)
          ]

          go : (t : Bool) → (c == b) ≡ t → IsLived A rules b B Nothing (shape w f c batch sp rest place (writes_of rules.block_size sp.parts) (writes_of rules.block_size sp.parts) sp.end)
              (if t then record l { records = l.records ++ next_records (w.core.flushers f).batch } else l)
          go true e = subst (λ r. IsLived A rules b B Nothing (shape w f c batch sp rest place (writes_of rules.block_size sp.parts) (writes_of rules.block_size sp.parts) sp.end) (record l { records = l.records ++ r })) (sym next_is)
              (issued A rules b B Nothing (scene_of w) l f c batch sp rest place (l.records ++ records_in sp.parts) k later (λ p i. in_left p l.records (records_in sp.parts) i)
              (λ at. spread_left A rules real.format.sizes l.records l.writes start sp rest spreads (filled at)) alone clean owned calm undone (λ ne. absurd (ne (eqb-true c b e))))
          go false e = issued A rules b B Nothing (scene_of w) l f c batch sp rest place l.records k later (λ p i. i) (λ at. absurd (eqb-false c b e at)) alone clean owned calm undone (λ ne. refl)
  issue_lived w l f batch reply new is turn ok known k = absurd ok
