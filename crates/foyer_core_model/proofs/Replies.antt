-- What is in turn has a reply.
use Rattle.std.proofs.Common.{◌≡◌, ◌≢◌, ℕ, zero, suc, ◌+◌, ◌<◌, ◌≤◌, ◌==◌, nat_le, Bool, true, false, List, [], ◌∷◌, ◌++◌, length, take, Option, Some, None, ◌⊎◌, inl, inr, refl, sym, ap, subst, ◌∙◌, arith}
use Rattle.std.proofs.lemmas.Bool.{eqb-true, eqb-false}
use Rattle.std.proofs.lemmas.Bool.Decides.{nat_tests}
use Rattle.foyer_core_model.specs.Destroy.{first_fault}
use Rattle.foyer_core_model.specs.Numbers.{put, last_number}
use Rattle.foyer_core_model.specs.Ids.{ids, without_id}
use Rattle.foyer_core_model.specs.Record.{Address, Slot, Indexed, Mark, Outcome, NoRecord, NotSupported, Undecodable, Holds, IndexEntry}
use Rattle.foyer_format_layout.specs.BlockBytes.{Write}
use Rattle.foyer_core_model.specs.Position.{BlockLayout}
use Rattle.foyer_core_model.specs.State.{Submission, Piece, Remove, Await, Reinsert, Writing, Batch, Flusher, no_stats, Stage, AtIndex, AtRecord, AllListed, ToClean, Reclaim, Destroy, NoDestroy, Begun, Cleaning, State}
use Rattle.foyer_core_model.specs.Rules.{Rules, flusher_of, Splitting}
use Rattle.foyer_core_model.specs.Step.{ReadResult, Bytes, Fault, Age, Fresh, Young, Old, Ticket, Step, Enqueue, Delete, Wait, MayContains, LoadBegin, LoadEnd, Receive, FlushBegin, FlushBlock, FlushWrote, LogWrote, FlushEnd, ReclaimBegin, ReclaimRead, ReclaimForget, ReclaimCleaned, ReclaimIdle, DestroyBegin, DestroyClear, DestroyCleaned, Close}
use Rattle.foyer_core_model.specs.Reply.{Kind, Io, Parse, Closed, Unsupported, SequenceEnd, Reply, NotNow, Refused, Ignored, Queued, Dropped, Deleted, Done, Answer, Miss, Throttled, Read, Entry, Empty, Received, Began, Written, NoBlock, Next, Committed, Failed, Ended, Picked, Listed, Cleans, Destroying, Cleared}
use Rattle.foyer_core_model.specs.Index.{is_address, holds, without, forgotten, unmarked}
use Rattle.foyer_core_model.specs.Layout.{writes_in, PlacesAll}
use Rattle.foyer_core_model.specs.Widths.{StateHasWidths}
use Rattle.foyer_core_model.specs.Queue.{size_queued, queued, IsCrowded}
use Rattle.foyer_core_model.specs.Load.{Looks, judged, age_at, Judges}
use Rattle.foyer_core_model.specs.Receive.{bytes_taken, turned, Fits, TakesFront}
use Rattle.foyer_core_model.specs.Flush.{invalidated_unless, commit_in, clean_block, Describes, Wrote, Logs, Finishes}
use Rattle.foyer_core_model.specs.Reclaim.{running, not_among, addresses, stage_after, issued_at, reclaiming, stage_behind, Lists, Scanned, Rereads, Forgets}
use Rattle.foyer_core_model.specs.Destroy.{after_clean, issued_after_clean, CleansOne}
use Rattle.foyer_core_model.specs.InTurn.{WantsBlock, IsWriting, IsUnlogged, IsWritten, IsScan, ReadsFor, IsAt, AwaitsClean, InTurn}
use Rattle.foyer_core_model.specs.Changes.{Changes}
use Rattle.foyer_core_model.specs.Refusal.{MayRefuse}
use Rattle.foyer_core_model.specs.Follows.{Follows}
use Rattle.foyer_core_model.specs.Access.{came}
use Rattle.foyer_core_model.specs.Companions.{IsInTurnReply, InTurnReplies}
use Rattle.foyer_core_model.proofs.Invariant.{writing_in, goes_on_in}
use Rattle.foyer_core_model.proofs.FlushEnds.{failed}
use Rattle.foyer_core_model.proofs.FlushBlocks.{issued}
use Rattle.foyer_core_model.proofs.Served.{IsServed, reached_served}
use Rattle.foyer_core_model.proofs.Widths.{widths_stay_lem}

pub last_of : (xs : List ℕ) → (xs ≡ []) ⊎ ((others : List ℕ) × (x : ℕ) × (xs ≡ others ++ x ∷ []))
last_of [] = inl refl
last_of (x ∷ xs) = elim (last_of xs) [
  | inl none ↦ inr ([], x, λ i. x ∷ none i)
  | inr some ↦ inr (x ∷ some.0, some.1, λ i. x ∷ some.2 i)
]

all_rejected : ℕ → List Bool
all_rejected zero = []
all_rejected (suc n) = false ∷ all_rejected n

rejected_length : (n : ℕ) → length (all_rejected n) ≡ n
unfolding all_rejected
rejected_length zero = refl
rejected_length (suc n) = ap (λ k. suc k) (rejected_length n)

module _ {C : Type 0} (rules : Rules C) (Splits : Splitting C) where
  abbrev HasReply : State C → Step C → Type 0
  HasReply c step = (reply : Reply C) × (new : State C) × Follows rules Splits c step reply new × IsInTurnReply rules Splits reply

  -- a reply that is neither NotNow nor a refusal
  abbrev IsOrdinary : Reply C → Type 0
  IsOrdinary (NotNow step) = ⊥
  IsOrdinary (Refused kind step) = ⊥
  IsOrdinary reply = Unit {0}

  answers : (c done : State C) (step : Step C) (reply : Reply C) → IsOrdinary reply → c.steps < last_number → InTurn rules c step → Changes rules Splits c step reply done → HasReply c step
  answers c done step reply plain few turn does = (reply, record done { steps = c.steps + 1 }, follows reply plain does, ordinary reply plain)
    where
      follows : (reply : Reply C) → IsOrdinary reply → Changes rules Splits c step reply done → Follows rules Splits c step reply (record done { steps = c.steps + 1 })
      follows (NotNow back) plain does = absurd plain
      follows (Refused kind back) plain does = absurd plain
      follows reply plain does = (few, turn, (done, does, refl))

      ordinary : (reply : Reply C) → IsOrdinary reply → IsInTurnReply rules Splits reply
      ordinary (NotNow back) plain = absurd plain
      ordinary (Refused kind back) plain = absurd plain
      ordinary reply plain = tt

  refuses : (c : State C) (step : Step C) (kind : Kind) → MayRefuse rules Splits c kind step → HasReply c step
  refuses c step kind may = (Refused kind step, c, (refl, may, refl), tt)

  -- the two ways of a test
  le_or : (a b : ℕ) → (a ≤ b) ⊎ (a ≤ b → ⊥)
  le_or a b = go (nat_le a b) refl
    where
      go : (t : Bool) → nat_le a b ≡ t → (a ≤ b) ⊎ (a ≤ b → ⊥)
      go true e = inl (grind (arith, nat_tests))
      go false e = inr (λ le. grind (arith, nat_tests))

  fits_or : (c : State C) (φ : Flusher C) (bytes : List ℕ) → Fits rules c φ bytes ⊎ (Fits rules c φ bytes → ⊥)
  fits_or c φ bytes = elim (le_or (bytes_taken rules.page_up φ.buffer + rules.page_up (length bytes)) (rules.room φ.context)) [
    | inl room ↦ elim (le_or (rules.index_size + rules.page_up (length bytes)) rules.block_size) [
      | inl fits ↦ elim (le_or 1 (length bytes)) [ inl some ↦ inl (room, (omega arith, fits)) | inr not ↦ inr (λ f. not (let some : 0 < length bytes = (f.1).0 in omega arith)) ]
      | inr not ↦ inr (λ f. not (f.1).1)
    ]
    | inr not ↦ inr (λ f. not f.0)
  ]

  age_or : (age : Age) → (age ≡ Young) ⊎ (age ≡ Young → ⊥)
  age_or Fresh = inr (λ e. cc)
  age_or Young = inl refl
  age_or Old = inr (λ e. cc)

  crowded_or : (c : State C) → IsCrowded rules c ⊎ (IsCrowded rules c → ⊥)
  crowded_or c = elim (le_or (size_queued rules.flushers c.flushers) rules.threshold) [ inl low ↦ inr (λ high. omega arith) | inr high ↦ inl (omega arith) ]

  -- closed, at the last sequence, or neither
  open_or : (c : State C) → (c.closed ≡ true) ⊎ (c.closed ≡ false)
  open_or c = go c.closed
    where
      go : (t : Bool) → (t ≡ true) ⊎ (t ≡ false)
      go true = inl refl
      go false = inr refl

  enqueue_replies : (c : State C) (h n : ℕ) (age : Age) (k : C) → c.steps < last_number → HasReply c (Enqueue h n age k)
  enqueue_replies c h n age k few = elim (open_or c) [
    | inl closed ↦ refuses c (Enqueue h n age k) Closed (few, (tt, closed))
    | inr still ↦ elim (age_or age) [
      | inl young ↦ answers c c (Enqueue h n age k) (Ignored k) tt few tt (refl, still, young, refl)
      | inr not ↦ elim (le_or last_number c.next) [
        | inl end ↦ refuses c (Enqueue h n age k) SequenceEnd (inr (few, (tt, not, still, end)))
        | inr more ↦ elim (crowded_or c) [
          | inl crowded ↦ answers c _ (Enqueue h n age k) (Dropped k c.next) tt few tt (refl, not, crowded, (refl, still, omega arith, refl))
          | inr room ↦ answers c _ (Enqueue h n age k) (Queued c.next) tt few tt (refl, still, (not, room), omega arith, refl)
        ]
      ]
    ]
  ]

  delete_replies : (c : State C) (h : ℕ) → c.steps < last_number → HasReply c (Delete h)
  delete_replies c h few = elim (open_or c) [
    | inl closed ↦ refuses c (Delete h) Closed (few, (tt, closed))
    | inr still ↦ elim (le_or last_number c.next) [
      | inl end ↦ refuses c (Delete h) SequenceEnd (inr (few, (tt, tt, still, end)))
      | inr more ↦ answers c _ (Delete h) (Deleted c.next) tt few tt (refl, still, omega arith, refl)
    ]
  ]

  destroy_replies : (c : State C) → c.steps < last_number → InTurn rules c DestroyBegin → HasReply c DestroyBegin
  destroy_replies c few turn = elim (open_or c) [
    | inl closed ↦ refuses c DestroyBegin Closed (few, (tt, closed))
    | inr still ↦ elim (le_or last_number c.next) [
      | inl end ↦ refuses c DestroyBegin SequenceEnd (inr (few, (turn, tt, still, end)))
      | inr more ↦ answers c _ DestroyBegin (Destroying c.next) tt few turn (refl, still, omega arith, refl)
    ]
  ]

  look_replies : (c : State C) (h : ℕ) (throttled : Bool) → c.steps < last_number → HasReply c (LoadBegin h throttled)
  look_replies c h throttled few = looked (c.index h) refl
    where
      -- by what the index holds
      at_slot : (reply : Reply C) (done : State C) (slot : Option Slot) → c.index h ≡ slot → IsOrdinary reply → Looks rules c h throttled slot reply done → HasReply c (LoadBegin h throttled)
      at_slot reply done slot is plain looks = answers c done (LoadBegin h throttled) reply plain few tt (subst (λ s. Looks rules c h throttled s reply done) (sym is) looks)

      address : (a : Address) (t : Bool) → throttled ≡ t → c.index h ≡ Some (Indexed a) → (p : Bool) → (a.filling == c.filling a.block) ≡ p → HasReply c (LoadBegin h throttled)
      address a true issued is p e = at_slot Throttled c (Some (Indexed a)) is tt (issued, refl)
      address a false issued is true e = at_slot (Read (record { hash = h; address = a })) _ (Some (Indexed a)) is tt (issued, eqb-true a.filling (c.filling a.block) e, refl, refl)
      address a false issued is false e = at_slot Miss _ (Some (Indexed a)) is tt (issued, eqb-false a.filling (c.filling a.block) e, refl)

      looked : (slot : Option Slot) → c.index h ≡ slot → HasReply c (LoadBegin h throttled)
      looked None is = at_slot Miss c None is tt refl
      looked (Some (Mark s)) is = at_slot Miss c (Some (Mark s)) is tt refl
      looked (Some (Indexed a)) is = address a throttled refl is (a.filling == c.filling a.block) refl

  load_replies : (c : State C) (t : Ticket) (came : ReadResult) → c.steps < last_number → InTurn rules c (LoadEnd t came) → HasReply c (LoadEnd t came)
  load_replies c t Fault few turn = refuses c (LoadEnd t Fault) Io (few, turn)
  load_replies c t (Bytes bs) few turn = judge (judged rules c t bs) refl
    where
      judge : (x : Outcome C) → judged rules c t bs ≡ x → HasReply c (LoadEnd t (Bytes bs))
      judge NoRecord is = answers c _ (LoadEnd t (Bytes bs)) Miss tt few turn
          (subst (λ y. Judges rules c t y Miss (record c { index = put c.index t.hash (without t.address (c.index t.hash)) })) (sym is) refl)
      judge NotSupported is = refuses c (LoadEnd t (Bytes bs)) Unsupported (few, (turn, is))
      judge Undecodable is = refuses c (LoadEnd t (Bytes bs)) Parse (few, (turn, is))
      judge (Holds k) is = answers c c (LoadEnd t (Bytes bs)) (Entry k (age_at rules c t.address.block)) tt few turn
          (subst (λ y. Judges rules c t y (Entry k (age_at rules c t.address.block)) c) (sym is) (refl, refl, refl))

  receive_replies : (c : State C) (f : ℕ) → c.steps < last_number → f < rules.flushers → HasReply c (Receive f)
  receive_replies c f few turn = queue (c.flushers f).queue refl
    where
      at_queue : (reply : Reply C) (done : State C) (queue : List (Submission C)) → (c.flushers f).queue ≡ queue → IsOrdinary reply → TakesFront rules c f queue reply done → HasReply c (Receive f)
      at_queue reply done queue is plain takes = answers c done (Receive f) reply plain few turn (subst (λ q. TakesFront rules c f q reply done) (sym is) takes)

      piece : (h s n : ℕ) (k : C) (rest : List (Submission C)) → (c.flushers f).queue ≡ Piece h s n k ∷ rest → (bytes : Option (List ℕ)) → rules.encode h s k ≡ bytes → HasReply c (Receive f)
      piece h s n k rest is None none = at_queue (Received (Some k)) _ (Piece h s n k ∷ rest) is tt
          (refl, (λ bs some fits. let e : None ≡ Some bs = sym none ∙ some in cc), refl)
      piece h s n k rest is (Some bytes) some = elim (fits_or c (c.flushers f) bytes) [
        | inl fits ↦ at_queue (Received None) _ (Piece h s n k ∷ rest) is tt (bytes, some, fits, refl)
        | inr not ↦ at_queue (Received (Some k)) _ (Piece h s n k ∷ rest) is tt
            (refl, (λ bs other fits. not (subst (Fits rules c (c.flushers f)) (let e : Some bs ≡ Some bytes = sym other ∙ some in let g : bs ≡ bytes = cc in g) fits)), refl)
      ]

      again : (h : ℕ) (bytes : List ℕ) (a : Address) (rest : List (Submission C)) → (c.flushers f).queue ≡ Reinsert h bytes a ∷ rest → (t : Bool) → holds a (c.index h) ≡ t → HasReply c (Receive f)
      again h bytes a rest is false not = at_queue (Received None) _ (Reinsert h bytes a ∷ rest) is tt (inr ((λ held fits. let e : false ≡ true = sym not ∙ held in cc), refl))
      again h bytes a rest is true held = elim (fits_or c (c.flushers f) bytes) [
        | inl fits ↦ at_queue (Received None) _ (Reinsert h bytes a ∷ rest) is tt (inl (held, fits, refl))
        | inr not ↦ at_queue (Received None) _ (Reinsert h bytes a ∷ rest) is tt (inr ((λ _ fits. not fits), refl))
      ]

      queue : (queue : List (Submission C)) → (c.flushers f).queue ≡ queue → HasReply c (Receive f)
      queue [] is = at_queue Empty c [] is tt refl
      queue (Piece h s n k ∷ rest) is = piece h s n k rest is (rules.encode h s k) refl
      queue (Remove h s invalidated ∷ rest) is = at_queue (Received None) _ (Remove h s invalidated ∷ rest) is tt refl
      queue (Await i ∷ rest) is = at_queue (Received None) _ (Await i ∷ rest) is tt refl
      queue (Reinsert h bytes a ∷ rest) is = again h bytes a rest is (holds a (c.index h)) refl

  issue_replies : (c : State C) (f : ℕ) → c.steps < last_number → InTurn rules c (FlushBlock f) → IsServed rules Splits (c.flushers f) → HasReply c (FlushBlock f)
  issue_replies c f few turn served = batches (c.flushers f).batch refl turn.1
    where
      at_batch : (batch : Batch C) → (c.flushers f).batch ≡ Some batch → (reply : Reply C) (done : State C) → IsOrdinary reply → Describes rules c f (Some batch) reply done → HasReply c (FlushBlock f)
      at_batch batch is reply done plain issues = answers c done (FlushBlock f) reply plain few turn (subst (λ k. Describes rules c f k reply done) (sym is) issues)

      free : (batch : Batch C) → (c.flushers f).batch ≡ Some batch → (s : BlockLayout C) (rest : List (BlockLayout C)) → batch.blocks ≡ s ∷ rest → batch.continues_own_block ≡ false → (c.flushers f).ready ≡ None → (b : Option ℕ) → clean_block rules c ≡ b → HasReply c (FlushBlock f)
      free batch is s rest blocks fresh none None clean = at_batch batch is NoBlock _ tt (fresh, none, clean, refl)
      free batch is s rest blocks fresh none (Some b) clean = at_batch batch is (Written b (writes_in rules s.parts)) _ tt (s, rest, blocks, refl, inr (inr (fresh, none, clean, refl)))

      ready : (batch : Batch C) → (c.flushers f).batch ≡ Some batch → (s : BlockLayout C) (rest : List (BlockLayout C)) → batch.blocks ≡ s ∷ rest → batch.continues_own_block ≡ false → (r : Option ℕ) → (c.flushers f).ready ≡ r → HasReply c (FlushBlock f)
      ready batch is s rest blocks fresh None none = free batch is s rest blocks fresh none (clean_block rules c) refl
      ready batch is s rest blocks fresh (Some b) has = at_batch batch is (Written b (writes_in rules s.parts)) _ tt (s, rest, blocks, refl, inr (inl (fresh, has, refl)))

      on : (batch : Batch C) → (c.flushers f).batch ≡ Some batch → (s : BlockLayout C) (rest : List (BlockLayout C)) → batch.blocks ≡ s ∷ rest → (t : Bool) → batch.continues_own_block ≡ t → HasReply c (FlushBlock f)
      on batch is s rest blocks true continues_own_block =
          let own : (b : ℕ) × ((c.flushers f).own ≡ Some b) = served.owner (ap goes_on_in is ∙ continues_own_block) in
          at_batch batch is (Written own.0 (writes_in rules s.parts)) _ tt (s, rest, blocks, refl, inl (continues_own_block, own.1, refl))
      on batch is s rest blocks false fresh = ready batch is s rest blocks fresh (c.flushers f).ready refl

      spreads : (batch : Batch C) → (c.flushers f).batch ≡ Some batch → batch.blocks ≢ [] → (blocks : List (BlockLayout C)) → batch.blocks ≡ blocks → HasReply c (FlushBlock f)
      spreads batch is some [] none = absurd (some none)
      spreads batch is some (s ∷ rest) blocks = on batch is s rest blocks batch.continues_own_block refl

      batches : (batch : Option (Batch C)) → (c.flushers f).batch ≡ batch → WantsBlock batch → HasReply c (FlushBlock f)
      batches None is wants = absurd wants
      batches (Some batch) is wants = spreads batch is wants.0 batch.blocks refl

  wrote_replies : (c : State C) (f : ℕ) (good : Bool) → c.steps < last_number → InTurn rules c (FlushWrote f good) → IsServed rules Splits (c.flushers f) → HasReply c (FlushWrote f good)
  wrote_replies c f good few turn served = batches (c.flushers f).batch refl turn.1
    where
      at_batch : (batch : Batch C) → (c.flushers f).batch ≡ Some batch → (ok : Bool) → good ≡ ok → (reply : Reply C) (done : State C) → IsOrdinary reply → Wrote rules c f ok (Some batch) reply done → HasReply c (FlushWrote f good)
      at_batch batch is ok same reply done plain wrote = answers c done (FlushWrote f good) reply plain few turn
          (subst (λ k. Wrote rules c f good k reply done) (sym is) (subst (λ g. Wrote rules c f g (Some batch) reply done) (sym same) wrote))

      writes : (batch : Batch C) → (c.flushers f).batch ≡ Some batch → (w : Writing C) → batch.writing ≡ Some w → (ok : Bool) → good ≡ ok → (left : List Write) → w.left ≡ left → HasReply c (FlushWrote f good)
      writes batch is w writing ok same [] none = absurd (served.some w (ap writing_in is ∙ writing) none)
      writes batch is w writing true same (v ∷ []) left = at_batch batch is true same (Committed (length (commit_in c w).puts)) _ tt (w, v, writing, left, refl, refl)
      writes batch is w writing true same (v ∷ u ∷ rest) left = at_batch batch is true same Next _ tt (w, v, u, rest, writing, left, refl)
      writes batch is w writing false same (v ∷ rest) left = at_batch batch is false same Failed _ tt (w, v, rest, writing, left, (λ e. absurd (let g : false ≡ true = e in cc)), refl)

      batches : (batch : Option (Batch C)) → (c.flushers f).batch ≡ batch → IsWriting batch → HasReply c (FlushWrote f good)
      batches None is wants = absurd wants
      batches (Some batch) is wants = writes batch is wants.0 wants.1 good refl (wants.0).left refl

  log_replies : (c : State C) (f : ℕ) (well : Bool) → c.steps < last_number → InTurn rules c (LogWrote f well) → HasReply c (LogWrote f well)
  log_replies c f well few turn = batches (c.flushers f).batch refl turn.2
    where
      batches : (batch : Option (Batch C)) → (c.flushers f).batch ≡ batch → IsUnlogged batch → HasReply c (LogWrote f well)
      batches None is none = absurd none
      batches (Some batch) is none = answers c _ (LogWrote f well) Done tt few turn
          (subst (λ k. Logs rules c f well k Done (turned rules c f (record (c.flushers f) { batch = Some (record batch { logged = Some well }) }))) (sym is) refl)

  end_replies : (c : State C) (f : ℕ) → c.steps < last_number → InTurn rules c (FlushEnd f) → HasReply c (FlushEnd f)
  end_replies c f few turn = batches (c.flushers f).batch refl turn.1
    where
      batches : (batch : Option (Batch C)) → (c.flushers f).batch ≡ batch → IsWritten rules.has_log batch → HasReply c (FlushEnd f)
      batches None is none = absurd none
      batches (Some batch) is written = answers c _ (FlushEnd f) (Ended batch.pieces batch.waits) tt few turn
          (subst (λ k. Finishes rules c f k (Ended batch.pieces batch.waits) (record (turned rules c f (record (c.flushers f) { batch = None })) {
            index = unmarked batch.marks c.index;
            stats = invalidated_unless c.place c.filling batch.logged batch.invalidated c.stats;
          })) (sym is) (refl, refl, refl))

  pick_replies : (c : State C) → c.steps < last_number → InTurn rules c ReclaimBegin → HasReply c ReclaimBegin
  pick_replies c few may = answers c _ ReclaimBegin (Picked (may.some_block).0 [] []) tt few may (
    (may.some_block).1,
    (may.some_block).2,
    refl,
    (λ d is. absurd (let e : None ≡ Some d = is in cc)),
    refl,
  )

  issued_plain : (c : State C) (b : ℕ) (stage : Stage) (vs : List Bool) → IsOrdinary (issued_at rules c b stage vs)
  issued_plain c b (AtIndex place) vs = tt
  issued_plain c b (AtRecord h a rest place) vs = tt
  issued_plain c b AllListed vs = tt
  issued_plain c b ToClean vs = tt

  read_replies : (c : State C) (b : ℕ) (came : ReadResult) → c.steps < last_number → InTurn rules c (ReclaimRead b came) → HasReply c (ReclaimRead b came)
  read_replies c b came few turn = reclaims (c.reclaims b) refl turn.1
    where
      at_reclaim : (r : Reclaim) → c.reclaims b ≡ Some r → (stage : Stage) → r.stage ≡ stage → (reply : Reply C) (done : State C) → IsOrdinary reply → Scanned rules c b r stage came reply done → HasReply c (ReclaimRead b came)
      at_reclaim r is stage at reply done plain scanned = answers c done (ReclaimRead b came) reply plain few turn
          (subst (λ k. Rereads rules c b k came reply done) (sym is) (subst (λ k. Scanned rules c b r k came reply done) (sym at) scanned))

      index : (r : Reclaim) → c.reclaims b ≡ Some r → (place : ℕ) → r.stage ≡ AtIndex place → (bs : List ℕ) → came ≡ Bytes bs → (es : Option (List IndexEntry)) → rules.entries_of place bs ≡ es → HasReply c (ReclaimRead b came)
      index r is place at bs same None none = at_reclaim r is (AtIndex place) at (Listed []) _ tt
          (subst (λ k. Scanned rules c b r (AtIndex place) k (Listed []) (reclaiming rules c b (record r { stage = AllListed }))) (sym same)
          (subst (λ k. Lists rules c b r place k (Listed []) (reclaiming rules c b (record r { stage = AllListed }))) (sym none) (refl, refl)))
      index r is place at bs same (Some es) some =
          let vs : List Bool = all_rejected (length es) in
          at_reclaim r is (AtIndex place) at (issued_at rules c b (stage_behind rules c b place es vs) vs) _ (issued_plain c b (stage_behind rules c b place es vs) vs)
          (subst (λ k. Scanned rules c b r (AtIndex place) k (issued_at rules c b (stage_behind rules c b place es vs) vs) (reclaiming rules c b (record r { stage = stage_behind rules c b place es vs; listed = addresses b (c.filling b) place es ++ r.listed }))) (sym same)
          (subst (λ k. Lists rules c b r place k (issued_at rules c b (stage_behind rules c b place es vs) vs) (reclaiming rules c b (record r { stage = stage_behind rules c b place es vs; listed = addresses b (c.filling b) place es ++ r.listed }))) (sym some)
          (vs, rejected_length (length es), refl, refl)))

      scan : (r : Reclaim) → c.reclaims b ≡ Some r → (stage : Stage) → r.stage ≡ stage → IsScan rules stage came → (got : ReadResult) → came ≡ got → HasReply c (ReclaimRead b came)
      scan r is (AtIndex place) at ok Fault same = at_reclaim r is (AtIndex place) at (Listed []) _ tt
          (subst (λ k. Scanned rules c b r (AtIndex place) k (Listed []) (reclaiming rules c b (record r { stage = AllListed }))) (sym same) (refl, refl))
      scan r is (AtIndex place) at ok (Bytes bs) same = index r is place at bs same (rules.entries_of place bs) refl
      scan r is (AtRecord h a rest place) at ok Fault same = at_reclaim r is (AtRecord h a rest place) at (Listed []) _ tt
          (subst (λ k. Scanned rules c b r (AtRecord h a rest place) k (Listed []) (reclaiming rules c b (record r { stage = AllListed }))) (sym same) (refl, refl))
      scan r is (AtRecord h a rest place) at ok (Bytes bs) same = at_reclaim r is (AtRecord h a rest place) at (issued_at rules c b (stage_after rules c rest place) []) _ (issued_plain c b (stage_after rules c rest place) [])
          (subst (λ k. Scanned rules c b r (AtRecord h a rest place) k (issued_at rules c b (stage_after rules c rest place) []) (record (queued rules c (flusher_of rules (length r.requeued)) (Reinsert h (take a.len bs) a)) {
            reclaims = put c.reclaims b (Some (record r { stage = stage_after rules c rest place; requeued = (h, a) ∷ r.requeued }));
          })) (sym same) (refl, refl))
      scan r is AllListed at ok got same = absurd ok
      scan r is ToClean at ok got same = absurd ok

      reclaims : (r : Option Reclaim) → c.reclaims b ≡ r → ReadsFor rules r came → HasReply c (ReclaimRead b came)
      reclaims None is ok = absurd ok
      reclaims (Some r) is ok = scan r is r.stage refl ok came refl

  forget_replies : (c : State C) (b : ℕ) → c.steps < last_number → InTurn rules c (ReclaimForget b) → HasReply c (ReclaimForget b)
  forget_replies c b few turn = reclaims (c.reclaims b) refl turn.1
    where
      reclaims : (r : Option Reclaim) → c.reclaims b ≡ r → IsAt AllListed r → HasReply c (ReclaimForget b)
      reclaims None is ok = absurd ok
      reclaims (Some r) is ok = answers c _ (ReclaimForget b) (Cleans b) tt few turn
          (subst (λ k. Forgets rules c b k (Cleans b) (record c { index = forgotten (not_among r.requeued r.listed) c.index; reclaims = put c.reclaims b (Some (record r { stage = ToClean })) })) (sym is) (refl, refl))

  clean_replies : (c : State C) (b : ℕ) (well : Bool) → c.steps < last_number → InTurn rules c (ReclaimCleaned b well) → HasReply c (ReclaimCleaned b well)
  clean_replies c b well few turn = elim (last_of c.waiting) [
    | inl nobody ↦ answers c _ (ReclaimCleaned b well) Done tt few turn (inr (inl nobody, refl))
    | inr somebody ↦ elim (le_or last_number (c.filling b)) [
      | inl full ↦ answers c _ (ReclaimCleaned b well) Done tt few turn (inr (inr full, refl))
      | inr room ↦ answers c _ (ReclaimCleaned b well) Done tt few turn (inl (somebody.1, somebody.0, somebody.2, omega arith, refl))
    ]
  ]

  clean_plain : (left : List ℕ) (failed : Option Kind) → IsOrdinary (issued_after_clean {C = C} left failed)
  clean_plain [] failed = tt
  clean_plain (b ∷ bs) failed = tt

  destroyed_replies : (c : State C) (b : ℕ) (well : Option Kind) → c.steps < last_number → InTurn rules c (DestroyCleaned b well) → HasReply c (DestroyCleaned b well)
  destroyed_replies c b well few turn = destroys c.destroy refl turn.1
    where
      destroys : (d : Destroy) → c.destroy ≡ d → AwaitsClean b d → HasReply c (DestroyCleaned b well)
      destroys NoDestroy is ok = absurd ok
      destroys Begun is ok = absurd ok
      destroys (Cleaning left failed) is ok =
          answers c _ (DestroyCleaned b well) (issued_after_clean (without_id b left) (first_fault failed well)) (clean_plain (without_id b left) (first_fault failed well)) few turn
          (subst (λ k. CleansOne rules c b well k (issued_after_clean (without_id b left) (first_fault failed well)) (record c {
            destroy = after_clean (without_id b left) (first_fault failed well);
            stats = put c.stats b no_stats;
          })) (sym is) (refl, refl))

  -- each step
  replies : (c : State C) → c.steps < last_number → ((q : ℕ) → IsServed rules Splits (c.flushers q)) → StateHasWidths c → PlacesAll rules Splits → (step : Step C) → InTurn rules c step → HasReply c step
  replies c few served wide places (Enqueue h n age k) turn = enqueue_replies c h n age k few
  replies c few served wide places (Delete h) turn = delete_replies c h few
  replies c few served wide places (Wait f i) turn = answers c _ (Wait f i) Done tt few turn refl
  replies c few served wide places (MayContains h) turn = answers c c (MayContains h) (Answer (is_address (c.index h))) tt few turn (refl, refl)
  replies c few served wide places (LoadBegin h throttled) turn = look_replies c h throttled few
  replies c few served wide places (LoadEnd t came) turn = load_replies c t came few turn
  replies c few served wide places (Receive f) turn = receive_replies c f few turn
  replies c few served wide places (FlushBegin f) turn =
      let split : (blocks : List (BlockLayout C)) × Splits (c.flushers f).context (c.flushers f).buffer blocks = places (c.flushers f).context (c.flushers f).buffer (served f).begins (wide.flushers f).buffer (served f).fit in
      answers c _ (FlushBegin f) (Began split.0 (c.flushers f).marks) tt few turn (refl, split.1, refl)
  replies c few served wide places (FlushBlock f) turn = issue_replies c f few turn (served f)
  replies c few served wide places (FlushWrote f good) turn = wrote_replies c f good few turn (served f)
  replies c few served wide places (LogWrote f well) turn = log_replies c f well few turn
  replies c few served wide places (FlushEnd f) turn = end_replies c f few turn
  replies c few served wide places ReclaimBegin turn = pick_replies c few turn
  replies c few served wide places (ReclaimRead b came) turn = read_replies c b came few turn
  replies c few served wide places (ReclaimForget b) turn = forget_replies c b few turn
  replies c few served wide places (ReclaimCleaned b well) turn = clean_replies c b well few turn
  replies c few served wide places ReclaimIdle turn = answers c c ReclaimIdle (Answer (running rules.blocks c.reclaims == 0)) tt few turn (refl, refl)
  replies c few served wide places DestroyBegin turn = destroy_replies c few turn
  replies c few served wide places DestroyClear turn = answers c _ DestroyClear (Cleared (ids rules.blocks)) tt few turn (refl, refl)
  replies c few served wide places (DestroyCleaned b well) turn = destroyed_replies c b well few turn
  replies c few served wide places Close turn = answers c _ Close Done tt few turn (refl, refl)

  pub in_turn_replies_lem : (is_value : C → Type 0) → InTurnReplies rules Splits is_value
  in_turn_replies_lem is_value w step demands places reached few turn = replies w.core few (reached_served rules Splits is_value w demands.places reached) (widths_stay_lem rules Splits is_value w demands reached) places step turn
