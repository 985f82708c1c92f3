-- What one step with its reply says.
use Rattle.std.proofs.Common.{◌≡◌, ℕ, ◌+◌, Bool, true, false, if◌then◌else◌, List, [], ◌∷◌, length, Option, Some, None, inl, inr, refl, sym, ap, ◌∙◌}
use Rattle.foyer_core_model.specs.Record.{Slot, Source, Given, Reread, Record}
use Rattle.foyer_format_layout.specs.BlockBytes.{Write}
use Rattle.foyer_core_model.specs.Position.{BlockLayout}
use Rattle.foyer_core_model.specs.State.{Submission, Piece, Remove, Await, Reinsert, Writing, Batch, State}
use Rattle.foyer_core_model.specs.Rules.{Rules, Splitting}
use Rattle.foyer_core_model.specs.Step.{FlushWrote}
use Rattle.foyer_core_model.specs.Reply.{Ignored, Dropped, Received, Began, Written, Committed, Failed, Picked}
use Rattle.foyer_core_model.specs.Layout.{writes_in}
use Rattle.foyer_core_model.specs.Commit.{is_put, committed_one, commit_of}
use Rattle.foyer_core_model.specs.Queue.{Enqueues}
use Rattle.foyer_core_model.specs.Receive.{Fits, TakesFront}
use Rattle.foyer_core_model.specs.Flush.{commit_in, Begins, Describes, Wrote}
use Rattle.foyer_core_model.specs.Reclaim.{Picks}
use Rattle.foyer_core_model.specs.Event.{Event, with_puts, puts_of, events_of}
use Rattle.foyer_core_model.specs.Laws.{IsAmong}
use Rattle.foyer_core_model.specs.Companions.{IsWrittenBy, PiecesAmong, QueueKeeps, CommitKeeps, ReclaimKeeps, NotNowKeeps}

-- the pieces of a commit are puts
pieces_put : {C : Type 0} (b n : ℕ) (ps : List (ℕ × Record C)) (m : ℕ → Option Slot) → PiecesAmong ps (commit_of b n ps m).puts
pieces_put b n [] m p c is given = absurd is
pieces_put {C} b n (q ∷ ps) m p c is given =
    elim is [
      | inl same ↦ first (q.1).source (m (q.1).hash) (sym (ap (λ k. (k.1).source) same) ∙ given) (ap (λ k. k.1) same)
      | inr later ↦ rest (is_put (q.1).source (m (q.1).hash)) (pieces_put b n ps (committed_one b n q m) p c later given)
    ]
  where
    puts : List (Record C)
    puts = (commit_of b n ps (committed_one b n q m)).puts

    first : (src : Source C) (slot : Option Slot) → src ≡ Given c → p.1 ≡ q.1 → IsAmong p.1 (if is_put src slot then q.1 ∷ puts else puts)
    first (Given d) slot is same = inl same
    first (Reread a) slot is same = absurd (let e : Reread a ≡ Given c = is in cc)

    rest : (t : Bool) → IsAmong p.1 puts → IsAmong p.1 (if t then q.1 ∷ puts else puts)
    rest true there = inr there
    rest false there = there

module _ {C : Type 0} (rules : Rules C) (Splits : Splitting C) where
  takes_back : (old done : State C) (f : ℕ) (queue : List (Submission C)) (d : C) → TakesFront rules old f queue (Received (Some d)) done
      → (h : ℕ) × (s : ℕ) × (n : ℕ) × (rest : List (Submission C)) × (queue ≡ Piece h s n d ∷ rest)
      × ((bytes : List ℕ) → rules.encode h s d ≡ Some bytes → Fits rules old (old.flushers f) bytes → ⊥)
  takes_back old done f [] d ok = absurd ok
  takes_back old done f (Piece h s n c ∷ rest) d ok =
      (h, s, n, rest, (λ i. Piece h s n (sym ok.0 i) ∷ rest), λ bytes is. ok.1 bytes (ap (λ k. rules.encode h s k) (sym ok.0) ∙ is))
  takes_back old done f (Remove h s invalidated ∷ rest) d ok = absurd ok
  takes_back old done f (Await i ∷ rest) d ok = absurd ok
  takes_back old done f (Reinsert h bytes a ∷ rest) d ok = absurd ok

  pub queue_keeps_lem : QueueKeeps rules Splits
  queue_keeps_lem = record {
    ignored = λ old new h n age c d ok. let does : Enqueues rules old h n age c (Ignored d) (ok.2).0 = (ok.2).1 in (does.0, does.2);
    dropped = λ old new h n s age c d ok. let does : Enqueues rules old h n age c (Dropped d s) (ok.2).0 = (ok.2).1 in (does.0, does.2);
    returned = λ old new f d ok. takes_back old (ok.2).0 f (old.flushers f).queue d (ok.2).1;
  }

  issued_of : (old done : State C) (f b : ℕ) (writes : List Write) (batch : Option (Batch C)) → Describes rules old f batch (Written b writes) done
      → (k : Batch C) × (s : BlockLayout C) × (rest : List (BlockLayout C)) × (batch ≡ Some k) × (k.blocks ≡ s ∷ rest) × (writes ≡ writes_in rules s.parts)
  issued_of old done f b writes None ok = absurd ok
  issued_of old done f b writes (Some k) (s, rest, blocks, all, which) = (k, s, rest, refl, blocks, all)

  committed_of : (old new done : State C) (f n : ℕ) (H : List (Event C)) (batch : Option (Batch C)) → (old.flushers f).batch ≡ batch → Wrote rules old f true batch (Committed n) done → new ≡ record done { steps = old.steps + 1 }
      → (w : Writing C) × IsWrittenBy old f w × ((last : Write) × (w.left ≡ last ∷ []))
      × (new.index ≡ (commit_in old w).index) × (events_of old (Committed n) (FlushWrote f true) H ≡ with_puts (commit_in old w).puts H)
      × (n ≡ length (commit_in old w).puts) × PiecesAmong w.records (commit_in old w).puts
  committed_of old new done f n H None is ok new_is = absurd ok
  committed_of old new done f n H (Some batch) is (w, last, writing, left, count, eq) new_is = (
    w,
    (batch, is, writing),
    (last, left),
    ap (λ k. k.index) new_is ∙ ap (λ k. k.index) eq,
    ap (λ k. with_puts (puts_of old k) H) (is ∙ (λ i. Some (record batch { writing = writing i }))),
    count,
    pieces_put w.block (old.filling w.block) w.records old.index,
  )

  failed_of : (old done : State C) (f : ℕ) (ok : Bool) (batch : Option (Batch C)) → Wrote rules old f ok batch Failed done → done.index ≡ old.index
  failed_of old done f true None given = absurd given
  failed_of old done f false None given = absurd given
  failed_of old done f true (Some batch) (w, first, rest, writing, left, grown, eq) = ap (λ k. k.index) eq
  failed_of old done f false (Some batch) (w, first, rest, writing, left, grown, eq) = ap (λ k. k.index) eq

  pub commit_keeps_lem : CommitKeeps rules Splits
  commit_keeps_lem = record {
    began = λ old new f blocks marks places ok. let does : Begins rules Splits old f (Began blocks marks) (ok.2).0 = (ok.2).1 in
        ((places (old.flushers f).context (old.flushers f).buffer blocks does.1).all, does.0);
    issued = λ old new f b writes ok. issued_of old (ok.2).0 f b writes (old.flushers f).batch (ok.2).1;
    committed = λ old new f n H ok. committed_of old new (ok.2).0 f n H (old.flushers f).batch refl (ok.2).1 (ok.2).2;
    failed = λ old new f well H ok. (ap (λ k. k.index) (ok.2).2 ∙ failed_of old (ok.2).0 f well (old.flushers f).batch (ok.2).1, refl);
  }

  pub reclaim_keeps_lem : ReclaimKeeps rules Splits
  reclaim_keeps_lem old new b answers probation ok = let does : Picks rules old (Picked b answers probation) (ok.2).0 = (ok.2).1 in (ok.1, does.0, does.1)

  pub not_now_keeps_lem : NotNowKeeps rules Splits
  not_now_keeps_lem = record {
    not_now = λ old new step back ok. (ok.0, ok.2, (ok.1).2);
    refused = λ old new step back kind ok. (ok.0, ok.2, ok.1);
  }
