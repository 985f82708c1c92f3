-- Hashes and sequences keep 64 bits.
use Rattle.std.proofs.Common.{◌≡◌, ℕ, ◌<◌, ◌≤◌, ◌==◌, nat_le, Bool, true, false, if◌then◌else◌, List, [], ◌∷◌, ◌++◌, length, map, take, Option, Some, None, inl, inr, refl, sym, ap, subst, arith}
use Rattle.foyer_core_model.specs.Kind.{Kind}
use Rattle.foyer_core_model.specs.Numbers.{put, last_number}
use Rattle.foyer_core_model.specs.Record.{Address, Slot, Indexed, Mark, Outcome, NoRecord, Holds, IndexEntry, Source, Given, Reread, Record}
use Rattle.foyer_format_layout.specs.BlockBytes.{Write}
use Rattle.foyer_core_model.specs.Position.{records_in, records_of}
use Rattle.foyer_core_model.specs.State.{Submission, Piece, Remove, Await, Reinsert, Batch, Flusher, Stage, AtIndex, AtRecord, AllListed, ToClean, Reclaim, Destroy, NoDestroy, Begun, Cleaning, State}
use Rattle.foyer_format_layout.specs.Each.{Each}
use Rattle.foyer_core_model.specs.Widths.{HaveWidths, RecordsHaveWidths, SubmissionHasWidths, WritingHasWidths, BatchHasWidths, FlusherHasWidths, SlotHasWidths, StateHasWidths}
use Rattle.foyer_core_model.specs.Rules.{Rules, flusher_of, Splitting}
use Rattle.foyer_core_model.specs.Step.{ReadResult, Bytes, Fault, Age, Ticket, Step, Enqueue, Delete, Wait, MayContains, LoadBegin, LoadEnd, Receive, FlushBegin, FlushBlock, FlushWrote, LogWrote, FlushEnd, ReclaimBegin, ReclaimRead, ReclaimForget, ReclaimCleaned, ReclaimIdle, DestroyBegin, DestroyClear, DestroyCleaned, Close}
use Rattle.foyer_core_model.specs.Reply.{Reply, NotNow, Refused, Ignored, Queued, Dropped, Deleted, Done, Miss, Throttled, Read, Entry, Empty, Received, Began, Written, NoBlock, Next, Committed, Failed, Ended, Picked, Cleans, Destroying, Cleared}
use Rattle.foyer_core_model.specs.Index.{is_same, holds, sequence_at, inserted, without, forgotten, without_mark, unmarked}
use Rattle.foyer_core_model.specs.Layout.{writes_in, KeepsRecords}
use Rattle.foyer_core_model.specs.Commit.{address_of, taken_in, committed_one, commit_of}
use Rattle.foyer_core_model.specs.Queue.{invalidated_by, Enqueues, Deletes, Waits}
use Rattle.foyer_core_model.specs.Load.{Looks, judged, Judges, Ends}
use Rattle.foyer_core_model.specs.Receive.{TakesFront}
use Rattle.foyer_core_model.specs.Flush.{writing_of, Begins, block_issued, Describes, Wrote, Logs, Finishes}
use Rattle.foyer_core_model.specs.Reclaim.{not_among, Picks, Lists, Scanned, Rereads, Forgets, Cleaned}
use Rattle.foyer_core_model.specs.Destroy.{BeginsDestroy, Clears, CleansOne}
use Rattle.foyer_core_model.specs.Changes.{Changes}
use Rattle.foyer_core_model.specs.Follows.{Follows}
use Rattle.foyer_core_model.specs.World.{World, WorldEvent, Applies, ReadBegins, ReadEnds, ScanBegins, ScanEnds, WriteBegins, WriteEnds, CleanBegins, CleanEnds, after, after_all, IsFed, MayHappen, MayAllHappen}
use Rattle.foyer_core_model.specs.Opened.{slot_among, AllFound, IsOpened}
use Rattle.foyer_core_model.specs.Companions.{WidthsStay}
use Rattle.std.proofs.lemmas.Bool.{eqb-true}
use Rattle.foyer_core_model.proofs.Basics.{put_one}
use Rattle.foyer_format_layout.proofs.EachLaws.{each_join, each_front, each_back}
use Rattle.foyer_core_model.proofs.CommitSteps.{same_address}

-- what the index holds

abbrev IndexHasWidths : (ℕ → Option Slot) → Type 0
IndexHasWidths m = (h : ℕ) → SlotHasWidths h (m h)

index_put : (m : ℕ → Option Slot) (h : ℕ) (slot : Option Slot) → SlotHasWidths h slot → IndexHasWidths m → IndexHasWidths (put m h slot)
index_put m h slot here ok = put_one SlotHasWidths m h slot here (λ q _. ok q)

slot_without : (h : ℕ) (a : Address) (slot : Option Slot) → SlotHasWidths h slot → SlotHasWidths h (without a slot)
slot_without h a None ok = tt
slot_without h a (Some (Mark s)) ok = ok
slot_without h a (Some (Indexed b)) ok = go (is_same a b)
  where
    go : (t : Bool) → SlotHasWidths h (if t then None else Some (Indexed b))
    go true = tt
    go false = ok

slot_unmarked : (h s : ℕ) (slot : Option Slot) → SlotHasWidths h slot → SlotHasWidths h (without_mark s slot)
slot_unmarked h s None ok = tt
slot_unmarked h s (Some (Indexed a)) ok = ok
slot_unmarked h s (Some (Mark t)) ok = go (t == s)
  where
    go : (p : Bool) → SlotHasWidths h (if p then None else Some (Mark t))
    go true = tt
    go false = ok

slot_inserted : (h : ℕ) (slot : Option Slot) (new : Slot) → SlotHasWidths h (Some new) → SlotHasWidths h slot → SlotHasWidths h (inserted slot new)
slot_inserted h None new here ok = here
slot_inserted h (Some old) new here ok = go (nat_le (sequence_at old) (sequence_at new))
  where
    go : (t : Bool) → SlotHasWidths h (if t then Some new else Some old)
    go true = here
    go false = ok

forgotten_widths : (ps : List (ℕ × Address)) (m : ℕ → Option Slot) → IndexHasWidths m → IndexHasWidths (forgotten ps m)
forgotten_widths [] m ok = ok
forgotten_widths (p ∷ ps) m ok = forgotten_widths ps (put m p.0 (without p.1 (m p.0))) (index_put m p.0 (without p.1 (m p.0)) (slot_without p.0 p.1 (m p.0) (ok p.0)) ok)

unmarked_widths : (ps : List (ℕ × ℕ)) (m : ℕ → Option Slot) → IndexHasWidths m → IndexHasWidths (unmarked ps m)
unmarked_widths [] m ok = ok
unmarked_widths (p ∷ ps) m ok = unmarked_widths ps (put m p.0 (without_mark p.1 (m p.0))) (index_put m p.0 (without_mark p.1 (m p.0)) (slot_unmarked p.0 p.1 (m p.0) (ok p.0)) ok)

-- a reinsertion goes on with the hash and the sequence that the index has
held_widths : (h : ℕ) (a : Address) (slot : Option Slot) → holds a slot ≡ true → SlotHasWidths h slot → HaveWidths h a.sequence
held_widths h a None held ok = absurd (let e : false ≡ true = held in cc)
held_widths h a (Some (Mark s)) held ok = absurd (let e : false ≡ true = held in cc)
held_widths h a (Some (Indexed b)) held ok = subst (λ k. HaveWidths h k.sequence) (sym (same_address a b held)) ok

slot_taken : {C : Type 0} (h : ℕ) (source : Source C) (slot : Option Slot) (a : Address) → HaveWidths h a.sequence → SlotHasWidths h slot → SlotHasWidths h (taken_in source slot a)
slot_taken h (Given c) slot a here ok = slot_inserted h slot (Indexed a) here ok
slot_taken h (Reread over) slot a here ok = go (holds over slot)
  where
    go : (t : Bool) → SlotHasWidths h (if t then Some (Indexed a) else slot)
    go true = here
    go false = ok

commit_widths : {C : Type 0} (block filling : ℕ) (ps : List (ℕ × Record C)) (m : ℕ → Option Slot) → RecordsHaveWidths (map (λ p. p.1) ps) → IndexHasWidths m → IndexHasWidths (commit_of block filling ps m).index
commit_widths block filling [] m records ok = ok
commit_widths block filling (p ∷ ps) m records ok = commit_widths block filling ps (committed_one block filling p m) records.1
    (index_put m (p.1).hash (taken_in (p.1).source (m (p.1).hash) (address_of block filling p))
    (slot_taken (p.1).hash (p.1).source (m (p.1).hash) (address_of block filling p) records.0 (ok (p.1).hash)) ok)

found_widths : {C : Type 0} (rules : Rules C) (core : State C) (h : ℕ) (ps : List (ℕ × Address)) → core.next ≤ last_number → AllFound rules core ps → SlotHasWidths h (slot_among h ps)
found_widths rules core h [] le all = tt
found_widths rules core h (p ∷ ps) le all = go (p.0 == h) refl (found_widths rules core h ps le all.2)
  where
    go : (t : Bool) → (p.0 == h) ≡ t → SlotHasWidths h (slot_among h ps) → SlotHasWidths h (if t then Some (Indexed p.1) else slot_among h ps)
    go true e rest = subst (λ k. HaveWidths k (p.1).sequence) (eqb-true p.0 h e) ((all.0).hash, (let lt : (p.1).sequence < core.next = (all.0).sequence in omega arith))
    go false e rest = rest

module _ {C : Type 0} (rules : Rules C) (Splits : Splitting C) where
  abbrev AllFlushers : (ℕ → Flusher C) → Type 0
  AllFlushers flushers = (f : ℕ) → FlusherHasWidths (flushers f)

  -- one flusher changes
  one_wide : (c : State C) (f : ℕ) (ψ : Flusher C) → (FlusherHasWidths (c.flushers f) → FlusherHasWidths ψ) → StateHasWidths c → AllFlushers (put c.flushers f ψ)
  one_wide c f ψ change ok = put_one (λ q φ. FlusherHasWidths φ) c.flushers f ψ (change (ok.flushers f)) (λ q _. ok.flushers q)

  turned_wide : (c new : State C) (f : ℕ) (ψ : Flusher C) → new ≡ record c { flushers = put c.flushers f ψ } → (FlusherHasWidths (c.flushers f) → FlusherHasWidths ψ) → StateHasWidths c → StateHasWidths new
  turned_wide c new f ψ eq change ok = subst StateHasWidths (sym eq) (record { next = ok.next; index = ok.index; flushers = one_wide c f ψ change ok })

  -- its queue grows
  queue_wide : (φ : Flusher C) (sub : Submission C) → SubmissionHasWidths sub → FlusherHasWidths φ → FlusherHasWidths (record φ { queue = φ.queue ++ sub ∷ [] })
  queue_wide φ sub one t = record { queue = each_join SubmissionHasWidths φ.queue (sub ∷ []) t.queue (one, tt); buffer = t.buffer; marks = t.marks; batch = t.batch }

  -- what is in turn with other flushers, index and next sequence
  same_wide : (c new : State C) → new.next ≡ c.next → new.index ≡ c.index → new.flushers ≡ c.flushers → StateHasWidths c → StateHasWidths new
  same_wide c new next index flushers ok = record {
    next = subst (λ n. n ≤ last_number) (sym next) ok.next;
    index = subst IndexHasWidths (sym index) ok.index;
    flushers = subst AllFlushers (sym flushers) ok.flushers;
  }

  deletes_wide : (c new : State C) (h : ℕ) (reply : Reply C) → h ≤ last_number → Deletes rules c h reply new → StateHasWidths c → StateHasWidths new
  deletes_wide c new h (Deleted s) width ok wide = subst StateHasWidths (sym ok.3) (record {
    next = (let e : s ≡ c.next = ok.0 in let lt : c.next < last_number = ok.2 in omega arith);
    index = index_put c.index h (inserted (c.index h) (Mark s)) (slot_inserted h (c.index h) (Mark s) both (wide.index h)) wide.index;
    flushers = one_wide c (flusher_of rules h) _ (queue_wide (c.flushers (flusher_of rules h)) (Remove h s (invalidated_by rules s (c.index h))) both) wide;
  })
    where
      both : HaveWidths h s
      both = (width, (let e : s ≡ c.next = ok.0 in let lt : c.next < last_number = ok.2 in omega arith))
  deletes_wide c new h reply width ok wide = absurd ok

  enqueues_wide : (c new : State C) (h n : ℕ) (age : Age) (k : C) (reply : Reply C) → h ≤ last_number → Enqueues rules c h n age k reply new → StateHasWidths c → StateHasWidths new
  enqueues_wide c new h n age k (Dropped d s) width ok wide = deletes_wide c new h (Deleted s) width ok.3 wide
  enqueues_wide c new h n age k (Ignored d) width ok wide = subst StateHasWidths (sym ok.3) wide
  enqueues_wide c new h n age k (Queued s) width ok wide = subst StateHasWidths (sym ok.4) (record {
    next = (let e : s ≡ c.next = ok.0 in let lt : c.next < last_number = ok.3 in omega arith);
    index = wide.index;
    flushers = one_wide c (flusher_of rules h) _ (queue_wide (c.flushers (flusher_of rules h)) (Piece h s n k) (width, (let e : s ≡ c.next = ok.0 in let lt : c.next < last_number = ok.3 in omega arith))) wide;
  })
  enqueues_wide c new h n age k reply width ok wide = absurd ok

  waits_wide : (c new : State C) (f i : ℕ) (reply : Reply C) → Waits rules c f i reply new → StateHasWidths c → StateHasWidths new
  waits_wide c new f i Done ok wide = turned_wide c new f _ ok (queue_wide (c.flushers f) (Await i) tt) wide
  waits_wide c new f i reply ok wide = absurd ok

  destroys_wide : (c new : State C) (reply : Reply C) → BeginsDestroy rules c reply new → StateHasWidths c → StateHasWidths new
  destroys_wide c new (Destroying s) ok wide = subst StateHasWidths (sym ok.3) (record {
    next = (let e : s ≡ c.next = ok.0 in let lt : c.next < last_number = ok.2 in omega arith);
    index = wide.index;
    flushers = one_wide c (flusher_of rules 0) _ (queue_wide (c.flushers (flusher_of rules 0)) (Remove 0 s []) (omega arith, (let e : s ≡ c.next = ok.0 in let lt : c.next < last_number = ok.2 in omega arith))) wide;
  })
  destroys_wide c new reply ok wide = absurd ok

  looks_wide : (c new : State C) (h : ℕ) (throttled : Bool) (slot : Option Slot) (reply : Reply C) → Looks rules c h throttled slot reply new → StateHasWidths c → StateHasWidths new
  looks_wide c new h throttled None Miss ok wide = subst StateHasWidths (sym ok) wide
  looks_wide c new h throttled (Some (Mark s)) Miss ok wide = subst StateHasWidths (sym ok) wide
  looks_wide c new h throttled (Some (Indexed a)) Throttled ok wide = subst StateHasWidths (sym ok.1) wide
  looks_wide c new h throttled (Some (Indexed a)) Miss ok wide =
      subst StateHasWidths (sym ok.2) (record { next = wide.next; index = index_put c.index h None tt wide.index; flushers = wide.flushers })
  looks_wide c new h throttled (Some (Indexed a)) (Read t) ok wide = same_wide c new (ap (λ k. k.next) ok.3) (ap (λ k. k.index) ok.3) (ap (λ k. k.flushers) ok.3) wide
  looks_wide c new h throttled slot reply ok wide = absurd ok

  ends_wide : (c new : State C) (t : Ticket) (came : ReadResult) (reply : Reply C) → Ends rules c t came reply new → StateHasWidths c → StateHasWidths new
  ends_wide c new t Fault reply ok wide = absurd ok
  ends_wide c new t (Bytes bs) reply ok wide = judges (judged rules c t bs) reply ok
    where
      judges : (x : Outcome C) (reply : Reply C) → Judges rules c t x reply new → StateHasWidths new
      judges NoRecord Miss given = subst StateHasWidths (sym given)
          (record { next = wide.next; index = index_put c.index t.hash (without t.address (c.index t.hash)) (slot_without t.hash t.address (c.index t.hash) (wide.index t.hash)) wide.index; flushers = wide.flushers })
      judges (Holds k) (Entry d age) given = subst StateHasWidths (sym given.2) wide
      judges x reply given = absurd given

  -- a record is put behind the others
  pushed_wide : (φ : Flusher C) (sub : Submission C) (rest : List (Submission C)) (r : Record C) → φ.queue ≡ sub ∷ rest → HaveWidths r.hash r.sequence → FlusherHasWidths φ → FlusherHasWidths (record φ { queue = rest; buffer = φ.buffer ++ r ∷ [] })
  pushed_wide φ sub rest r is one t = record {
    queue = (subst (Each SubmissionHasWidths) is t.queue).1;
    buffer = each_join (λ q. HaveWidths q.hash q.sequence) φ.buffer (r ∷ []) t.buffer (one, tt);
    marks = t.marks;
    batch = t.batch;
  }

  left_wide : (φ : Flusher C) (sub : Submission C) (rest : List (Submission C)) → φ.queue ≡ sub ∷ rest → FlusherHasWidths φ → FlusherHasWidths (record φ { queue = rest })
  left_wide φ sub rest is t = record { queue = (subst (Each SubmissionHasWidths) is t.queue).1; buffer = t.buffer; marks = t.marks; batch = t.batch }

  takes_wide : (c new : State C) (f : ℕ) (queue : List (Submission C)) (reply : Reply C) → (c.flushers f).queue ≡ queue → TakesFront rules c f queue reply new → StateHasWidths c → StateHasWidths new
  takes_wide c new f [] Empty is ok wide = subst StateHasWidths (sym ok) wide
  takes_wide c new f (Piece h s n k ∷ rest) (Received None) is (bytes, encoded, fits, eq) wide =
      turned_wide c new f _ eq (pushed_wide (c.flushers f) (Piece h s n k) rest _ is (subst (Each SubmissionHasWidths) is (wide.flushers f).queue).0) wide
  takes_wide c new f (Piece h s n k ∷ rest) (Received (Some d)) is ok wide = subst StateHasWidths (sym ok.2) (record {
    next = wide.next;
    index = index_put c.index h (inserted (c.index h) (Mark s)) (slot_inserted h (c.index h) (Mark s) (subst (Each SubmissionHasWidths) is (wide.flushers f).queue).0 (wide.index h)) wide.index;
    flushers = one_wide c f _ (λ t. record {
      queue = (subst (Each SubmissionHasWidths) is t.queue).1;
      buffer = t.buffer;
      marks = each_join (λ m. HaveWidths m.0 m.1) (c.flushers f).marks ((h, s) ∷ []) t.marks ((subst (Each SubmissionHasWidths) is t.queue).0, tt);
      batch = t.batch;
    }) wide;
  })
  takes_wide c new f (Remove h s invalidated ∷ rest) (Received None) is ok wide = turned_wide c new f _ ok (λ t. record {
    queue = (subst (Each SubmissionHasWidths) is t.queue).1;
    buffer = t.buffer;
    marks = each_join (λ m. HaveWidths m.0 m.1) (c.flushers f).marks ((h, s) ∷ []) t.marks ((subst (Each SubmissionHasWidths) is t.queue).0, tt);
    batch = t.batch;
  }) wide
  takes_wide c new f (Await i ∷ rest) (Received None) is ok wide = turned_wide c new f _ ok (λ t. record {
    queue = (subst (Each SubmissionHasWidths) is t.queue).1;
    buffer = t.buffer;
    marks = t.marks;
    batch = t.batch;
  }) wide
  takes_wide c new f (Reinsert h bytes a ∷ rest) (Received None) is ok wide =
      elim ok [
        | inl (held, fits, eq) ↦ turned_wide c new f _ eq (pushed_wide (c.flushers f) (Reinsert h bytes a) rest _ is (held_widths h a (c.index h) held (wide.index h))) wide
        | inr (dropped, eq) ↦ turned_wide c new f _ eq (left_wide (c.flushers f) (Reinsert h bytes a) rest is) wide
      ]
  takes_wide c new f queue reply is ok wide = absurd ok

  begins_wide : KeepsRecords rules Splits → (c new : State C) (f : ℕ) (reply : Reply C) → Begins rules Splits c f reply new → StateHasWidths c → StateHasWidths new
  begins_wide keeps c new f (Began blocks marks) ok wide = turned_wide c new f _ ok.2 (λ t. record {
    queue = t.queue;
    buffer = tt;
    marks = tt;
    batch = (subst RecordsHaveWidths (sym (keeps (c.flushers f).context (c.flushers f).buffer blocks ok.1).all) t.buffer, tt, t.marks);
  }) wide
  begins_wide keeps c new f reply ok wide = absurd ok

  writing_wide : (b : ℕ) (ws : List Write) (ps : List (ℕ × Record C)) → RecordsHaveWidths (map (λ p. p.1) ps) → WritingHasWidths (writing_of b ws ps)
  writing_wide b [] ps ok = tt
  writing_wide b (w ∷ ws) ps ok = ok

  issues_wide : (c new : State C) (f : ℕ) (batch : Option (Batch C)) (reply : Reply C) → (c.flushers f).batch ≡ batch → Describes rules c f batch reply new → StateHasWidths c → StateHasWidths new
  issues_wide c new f (Some batch) NoBlock is ok wide = subst StateHasWidths (sym ok.3) (record {
    next = wide.next;
    index = wide.index;
    flushers = one_wide c f _ (λ t. record { queue = t.queue; buffer = t.buffer; marks = t.marks; batch = t.batch }) wide;
  })
  issues_wide c new f (Some batch) (Written b writes) is (s, rest, blocks, all, which) wide =
      elim which [
        | inl (continues_own_block, own, eq) ↦ as_issued (ap (λ k. k.next) eq) (ap (λ k. k.index) eq) (ap (λ k. k.flushers) eq)
        | inr (inl (fresh, ready, eq)) ↦ as_issued (ap (λ k. k.next) eq) (ap (λ k. k.index) eq) (ap (λ k. k.flushers) eq)
        | inr (inr (fresh, ready, free, eq)) ↦ as_issued (ap (λ k. k.next) eq) (ap (λ k. k.index) eq) (ap (λ k. k.flushers) eq)
      ]
    where
      now : BatchHasWidths (Some batch)
      now = subst BatchHasWidths is (wide.flushers f).batch

      records : RecordsHaveWidths (map (λ p. p.1) (records_in s.parts) ++ records_of rest)
      records = subst (λ bs. RecordsHaveWidths (records_of bs)) blocks now.0

      issued : AllFlushers (block_issued rules c f b batch s rest).flushers
      issued = one_wide c f _ (λ t. record {
        queue = t.queue;
        buffer = t.buffer;
        marks = t.marks;
        batch = (
          each_back (λ r. HaveWidths r.hash r.sequence) (map (λ p. p.1) (records_in s.parts)) (records_of rest) records,
          writing_wide b (writes_in rules s.parts) (records_in s.parts) (each_front (λ r. HaveWidths r.hash r.sequence) (map (λ p. p.1) (records_in s.parts)) (records_of rest) records),
          now.2,
        );
      }) wide

      as_issued : new.next ≡ c.next → new.index ≡ c.index → new.flushers ≡ (block_issued rules c f b batch s rest).flushers → StateHasWidths new
      as_issued next index flushers = record {
        next = subst (λ n. n ≤ last_number) (sym next) wide.next;
        index = subst IndexHasWidths (sym index) wide.index;
        flushers = subst AllFlushers (sym flushers) issued;
      }
  issues_wide c new f batch reply is ok wide = absurd ok

  wrote_wide : (c new : State C) (f : ℕ) (good : Bool) (batch : Option (Batch C)) (reply : Reply C) → (c.flushers f).batch ≡ batch → Wrote rules c f good batch reply new → StateHasWidths c → StateHasWidths new
  wrote_wide c new f true (Some batch) Next is (r, first, second, rest, writing, left, eq) wide =
      let now : BatchHasWidths (Some batch) = subst BatchHasWidths is (wide.flushers f).batch in
      turned_wide c new f _ eq (λ t. record { queue = t.queue; buffer = t.buffer; marks = t.marks; batch = (now.0, subst WritingHasWidths writing now.1, now.2) }) wide
  wrote_wide c new f true (Some batch) (Committed n) is (r, last, writing, left, count, eq) wide =
      let now : BatchHasWidths (Some batch) = subst BatchHasWidths is (wide.flushers f).batch in
      subst StateHasWidths (sym eq) (record {
        next = wide.next;
        index = commit_widths r.block (c.filling r.block) r.records c.index (subst WritingHasWidths writing now.1) wide.index;
        flushers = one_wide c f _ (λ t. record { queue = t.queue; buffer = t.buffer; marks = t.marks; batch = (now.0, tt, now.2) }) wide;
      })
  wrote_wide c new f good (Some batch) Failed is (r, first, rest, writing, left, grown, eq) wide =
      let now : BatchHasWidths (Some batch) = subst BatchHasWidths is (wide.flushers f).batch in
      subst StateHasWidths (sym eq) (record {
        next = wide.next;
        index = wide.index;
        flushers = one_wide c f _ (λ t. record { queue = t.queue; buffer = t.buffer; marks = t.marks; batch = (tt, tt, now.2) }) wide;
      })
  wrote_wide c new f good batch reply is ok wide = absurd ok

  logs_wide : (c new : State C) (f : ℕ) (well : Bool) (batch : Option (Batch C)) (reply : Reply C) → (c.flushers f).batch ≡ batch → Logs rules c f well batch reply new → StateHasWidths c → StateHasWidths new
  logs_wide c new f well (Some batch) Done is ok wide =
      let now : BatchHasWidths (Some batch) = subst BatchHasWidths is (wide.flushers f).batch in
      turned_wide c new f _ ok (λ t. record { queue = t.queue; buffer = t.buffer; marks = t.marks; batch = now }) wide
  logs_wide c new f well batch reply is ok wide = absurd ok

  finishes_wide : (c new : State C) (f : ℕ) (batch : Option (Batch C)) (reply : Reply C) → Finishes rules c f batch reply new → StateHasWidths c → StateHasWidths new
  finishes_wide c new f (Some batch) (Ended pieces waits) ok wide = subst StateHasWidths (sym ok.2) (record {
    next = wide.next;
    index = unmarked_widths batch.marks c.index wide.index;
    flushers = one_wide c f _ (λ t. record { queue = t.queue; buffer = t.buffer; marks = t.marks; batch = tt }) wide;
  })
  finishes_wide c new f batch reply ok wide = absurd ok

  picks_wide : (c new : State C) (reply : Reply C) → Picks rules c reply new → StateHasWidths c → StateHasWidths new
  picks_wide c new (Picked b answers probation) ok wide = same_wide c new (ap (λ k. k.next) ok.4) (ap (λ k. k.index) ok.4) (ap (λ k. k.flushers) ok.4) wide
  picks_wide c new reply ok wide = absurd ok

  reads_wide : (c new : State C) (b : ℕ) (r : Option Reclaim) (came : ReadResult) (reply : Reply C) → Rereads rules c b r came reply new → StateHasWidths c → StateHasWidths new
  reads_wide c new b None came reply ok wide = absurd ok
  reads_wide c new b (Some r) came reply ok wide = scanned r.stage came ok
    where
      lists : (place : ℕ) (es : Option (List IndexEntry)) → Lists rules c b r place es reply new → StateHasWidths new
      lists place None given = same_wide c new (ap (λ k. k.next) given.1) (ap (λ k. k.index) given.1) (ap (λ k. k.flushers) given.1) wide
      lists place (Some es) given = same_wide c new (ap (λ k. k.next) given.3) (ap (λ k. k.index) given.3) (ap (λ k. k.flushers) given.3) wide

      scanned : (stage : Stage) (came : ReadResult) → Scanned rules c b r stage came reply new → StateHasWidths new
      scanned (AtIndex place) Fault given = same_wide c new (ap (λ k. k.next) given.1) (ap (λ k. k.index) given.1) (ap (λ k. k.flushers) given.1) wide
      scanned (AtRecord h a rest place) Fault given = same_wide c new (ap (λ k. k.next) given.1) (ap (λ k. k.index) given.1) (ap (λ k. k.flushers) given.1) wide
      scanned (AtIndex place) (Bytes bs) given = lists place (rules.entries_of place bs) given
      scanned (AtRecord h a rest place) (Bytes bs) given = subst StateHasWidths (sym given.1) (record {
        next = wide.next;
        index = wide.index;
        flushers = one_wide c (flusher_of rules (length r.requeued)) _ (queue_wide (c.flushers (flusher_of rules (length r.requeued))) (Reinsert h (take a.len bs) a) tt) wide;
      })
      scanned AllListed came given = absurd given
      scanned ToClean came given = absurd given

  forgets_wide : (c new : State C) (b : ℕ) (r : Option Reclaim) (reply : Reply C) → Forgets rules c b r reply new → StateHasWidths c → StateHasWidths new
  forgets_wide c new b (Some r) (Cleans d) ok wide = subst StateHasWidths (sym ok.1) (record {
    next = wide.next;
    index = forgotten_widths (not_among r.requeued r.listed) c.index wide.index;
    flushers = wide.flushers;
  })
  forgets_wide c new b r reply ok wide = absurd ok

  cleaned_wide : (c new : State C) (b : ℕ) (reply : Reply C) → Cleaned rules c b reply new → StateHasWidths c → StateHasWidths new
  cleaned_wide c new b Done ok wide =
      elim ok [
        | inl (f, others, waits, room, eq) ↦ subst StateHasWidths (sym eq) (record {
          next = wide.next;
          index = wide.index;
          flushers = one_wide c f _ (λ t. record { queue = t.queue; buffer = t.buffer; marks = t.marks; batch = t.batch }) wide;
        })
        | inr (nobody, eq) ↦ same_wide c new (ap (λ k. k.next) eq) (ap (λ k. k.index) eq) (ap (λ k. k.flushers) eq) wide
      ]
  cleaned_wide c new b reply ok wide = absurd ok

  clears_wide : (c new : State C) (reply : Reply C) → Clears rules c reply new → StateHasWidths c → StateHasWidths new
  clears_wide c new (Cleared bs) ok wide = subst StateHasWidths (sym ok.1) (record {
    next = wide.next;
    index = λ h. tt;
    flushers = λ f. let t = wide.flushers f in record { queue = t.queue; buffer = t.buffer; marks = t.marks; batch = t.batch };
  })
  clears_wide c new reply ok wide = absurd ok

  cleans_wide : (c new : State C) (b : ℕ) (fault : Option Kind) (d : Destroy) (reply : Reply C) → CleansOne rules c b fault d reply new → StateHasWidths c → StateHasWidths new
  cleans_wide c new b fault (Cleaning left failed) reply ok wide = same_wide c new (ap (λ k. k.next) ok.1) (ap (λ k. k.index) ok.1) (ap (λ k. k.flushers) ok.1) wide
  cleans_wide c new b fault NoDestroy reply ok wide = absurd ok
  cleans_wide c new b fault Begun reply ok wide = absurd ok

  module _ (is_value : C → Type 0) (keeps : KeepsRecords rules Splits) where
    does_wide : (w : World C) (new : State C) (step : Step C) (reply : Reply C) → IsFed rules Splits is_value w step → Changes rules Splits w.core step reply new → StateHasWidths w.core → StateHasWidths new
    does_wide w new (Enqueue h n age k) reply fed ok wide = enqueues_wide w.core new h n age k reply fed.0 ok wide
    does_wide w new (Delete h) reply fed ok wide = deletes_wide w.core new h reply fed ok wide
    does_wide w new (Wait f i) reply fed ok wide = waits_wide w.core new f i reply ok wide
    does_wide w new (MayContains h) reply fed ok wide = subst StateHasWidths (sym ok.1) wide
    does_wide w new (LoadBegin h throttled) reply fed ok wide = looks_wide w.core new h throttled (w.core.index h) reply ok wide
    does_wide w new (LoadEnd t came) reply fed ok wide = ends_wide w.core new t came reply ok wide
    does_wide w new (Receive f) reply fed ok wide = takes_wide w.core new f (w.core.flushers f).queue reply refl ok wide
    does_wide w new (FlushBegin f) reply fed ok wide = begins_wide keeps w.core new f reply ok wide
    does_wide w new (FlushBlock f) reply fed ok wide = issues_wide w.core new f (w.core.flushers f).batch reply refl ok wide
    does_wide w new (FlushWrote f good) reply fed ok wide = wrote_wide w.core new f good (w.core.flushers f).batch reply refl ok wide
    does_wide w new (LogWrote f well) reply fed ok wide = logs_wide w.core new f well (w.core.flushers f).batch reply refl ok wide
    does_wide w new (FlushEnd f) reply fed ok wide = finishes_wide w.core new f (w.core.flushers f).batch reply ok wide
    does_wide w new ReclaimBegin reply fed ok wide = picks_wide w.core new reply ok wide
    does_wide w new (ReclaimRead b came) reply fed ok wide = reads_wide w.core new b (w.core.reclaims b) came reply ok wide
    does_wide w new (ReclaimForget b) reply fed ok wide = forgets_wide w.core new b (w.core.reclaims b) reply ok wide
    does_wide w new (ReclaimCleaned b well) reply fed ok wide = cleaned_wide w.core new b reply ok wide
    does_wide w new ReclaimIdle reply fed ok wide = subst StateHasWidths (sym ok.1) wide
    does_wide w new DestroyBegin reply fed ok wide = destroys_wide w.core new reply ok wide
    does_wide w new DestroyClear reply fed ok wide = clears_wide w.core new reply ok wide
    does_wide w new (DestroyCleaned b fault) reply fed ok wide = cleans_wide w.core new b fault w.core.destroy reply ok wide
    does_wide w new Close reply fed ok wide = same_wide w.core new (ap (λ k. k.next) ok.1) (ap (λ k. k.index) ok.1) (ap (λ k. k.flushers) ok.1) wide

    follows_wide : (w : World C) (new : State C) (step : Step C) (reply : Reply C) → IsFed rules Splits is_value w step → Follows rules Splits w.core step reply new → StateHasWidths w.core → StateHasWidths new
    follows_wide w new step (NotNow back) fed ok wide = subst StateHasWidths (sym ok.2) wide
    follows_wide w new step (Refused kind back) fed ok wide = subst StateHasWidths (sym ok.2) wide
    follows_wide w new step reply fed (few, turn, (done, does, eq)) wide =
        same_wide done new (ap (λ k. k.next) eq) (ap (λ k. k.index) eq) (ap (λ k. k.flushers) eq) (does_wide w done step reply fed does wide)

    pub event_wide : (w : World C) (e : WorldEvent C) → MayHappen rules Splits is_value w e → StateHasWidths w.core → StateHasWidths (after rules w e).core
    event_wide w (Applies step reply new) ok wide = follows_wide w new step reply ok.0 ok.1 wide
    event_wide w (ReadBegins n) ok wide = wide
    event_wide w (ReadEnds n result) ok wide = wide
    event_wide w (ScanBegins b) ok wide = wide
    event_wide w (ScanEnds b result) ok wide = wide
    event_wide w (WriteBegins f) ok wide = wide
    event_wide w (WriteEnds f good g) ok wide = wide
    event_wide w (CleanBegins b) ok wide = wide
    event_wide w (CleanEnds b good g) ok wide = wide

    all_wide : (w : World C) (events : List (WorldEvent C)) → MayAllHappen rules Splits is_value w events → StateHasWidths w.core → StateHasWidths (after_all rules w events).core
    all_wide w [] ok wide = wide
    all_wide w (e ∷ es) ok wide = all_wide (after rules w e) es ok.1 (event_wide w e ok.0 wide)

  pub opened_wide : (w : World C) → IsOpened rules w → StateHasWidths w.core
  opened_wide w opened = record {
    next = opened.last;
    index = λ h. subst (SlotHasWidths h) (sym (opened.index h)) (found_widths rules w.core h opened.found opened.last opened.all);
    flushers = λ f. subst FlusherHasWidths (sym (opened.flushers f)) (record { queue = tt; buffer = tt; marks = tt; batch = tt });
  }

  pub widths_stay_lem : (is_value : C → Type 0) → WidthsStay rules Splits is_value
  widths_stay_lem is_value w demands reached = subst (λ v. StateHasWidths v.core) reached.is
      (all_wide is_value demands.places reached.first reached.events reached.happened (opened_wide reached.first reached.opened))
