-- Each put is one that was recovered or queued.
use Rattle.std.proofs.Common.{◌≡◌, ℕ, ◌==◌, nat_le, Bool, true, false, ◌&&◌, if◌then◌else◌, List, [], ◌∷◌, ◌++◌, length, map, take, Option, Some, None, ◌⊎◌, inl, inr, refl, sym, ap, subst, ◌∙◌}
use Rattle.foyer_core_model.specs.Kind.{Kind}
use Rattle.foyer_core_model.specs.Numbers.{put}
use Rattle.foyer_core_model.specs.Record.{Slot, Indexed, Mark, Outcome, NoRecord, Holds, IndexEntry, Source, Given, Reread, Record}
use Rattle.foyer_core_model.specs.Position.{records_in, records_of}
use Rattle.foyer_core_model.specs.State.{Submission, Piece, Remove, Await, Reinsert, Batch, Flusher, Stage, AtIndex, AtRecord, AllListed, ToClean, Reclaim, Destroy, NoDestroy, Begun, Cleaning, State}
use Rattle.foyer_core_model.specs.Rules.{Rules, flusher_of, Splitting}
use Rattle.foyer_core_model.specs.Step.{ReadResult, Bytes, Fault, Ticket, Delete, LoadBegin, LoadEnd, Receive, FlushWrote, DestroyClear}
use Rattle.foyer_core_model.specs.Reply.{Reply, Deleted, Done, Miss, Throttled, Read, Entry, Empty, Received, Began, Written, NoBlock, Next, Committed, Failed, Ended, Picked, Cleans, Destroying, Cleared}
use Rattle.foyer_core_model.specs.Index.{holds}
use Rattle.foyer_core_model.specs.Layout.{writes_in, KeepsRecords}
use Rattle.foyer_core_model.specs.Commit.{committed_one}
use Rattle.foyer_core_model.specs.Queue.{invalidated_by, queued, Deletes, Waits}
use Rattle.foyer_core_model.specs.Load.{Looks, judged, Judges, Ends}
use Rattle.foyer_core_model.specs.Receive.{TakesFront}
use Rattle.foyer_core_model.specs.Flush.{Begins, block_issued, Describes, Wrote, Logs, Finishes}
use Rattle.foyer_core_model.specs.Reclaim.{Picks, Lists, Scanned, Rereads, Forgets, Cleaned}
use Rattle.foyer_core_model.specs.Destroy.{BeginsDestroy, Clears, CleansOne}
use Rattle.foyer_core_model.specs.InTurn.{WantsBlock}
use Rattle.foyer_core_model.specs.Event.{Event, Put, Deletion, Destruction, sequence_in, newest, outcome_in, with_puts, puts_of, with_returned}
use Rattle.foyer_core_model.specs.Access.{BlockWrites, came}
use Rattle.foyer_core_model.specs.World.{World, Applies, after}
use Rattle.foyer_core_model.proofs.Basics.{put_one}
use Rattle.foyer_format_layout.specs.Each.{Each}
use Rattle.foyer_core_model.proofs.Invariant.{Ground, ground_of, writing_in, batch_records, WritingOk, WorldInvariant, RecordWaits}
use Rattle.foyer_format_layout.proofs.EachLaws.{each_back, each_join, each_front, each_weaker}
use Rattle.foyer_core_model.proofs.CommitSteps.{noted_one, noted, noted_is, holds_is, SourceBrings, Brings, all_bring}
use Rattle.foyer_core_model.proofs.FlushEnds.{failed}
use Rattle.foyer_core_model.proofs.FlushBlocks.{records_issued}
use Rattle.foyer_core_model.proofs.Rereads.{IsAgain}
use Rattle.foyer_core_model.proofs.RereadFlushes.{brings_of}

-- what is known of puts: K of those that were queued, R of those that were there before
abbrev pub IsKnownPut : {C : Type 0} → (ℕ → ℕ → C → Type 0) → (ℕ → ℕ → Outcome C → Type 0) → Event C → Type 0
IsKnownPut {C} K R (Put h s x) = R h s x ⊎ ((c : C) × (x ≡ Holds c) × K h s c)
IsKnownPut K R (Deletion h s) = Unit {0}
IsKnownPut K R Destruction = Unit {0}

abbrev pub SourceKnown : {C : Type 0} → (ℕ → ℕ → C → Type 0) → Record C → Source C → Type 0
SourceKnown K r (Given c) = K r.hash r.sequence c
SourceKnown K r (Reread a) = Unit {0}

abbrev pub RecordKnown : {C : Type 0} → (ℕ → ℕ → C → Type 0) → Record C → Type 0
RecordKnown K r = SourceKnown K r r.source

abbrev pub SubmissionKnown : {C : Type 0} → (ℕ → ℕ → C → Type 0) → Submission C → Type 0
SubmissionKnown K (Piece h s n c) = K h s c
SubmissionKnown K (Remove h s invalidated) = Unit {0}
SubmissionKnown K (Await i) = Unit {0}
SubmissionKnown K (Reinsert h bytes a) = Unit {0}

pub record IsTracedAt {C : Type 0} (K : ℕ → ℕ → C → Type 0) (φ : Flusher C) : Type 0 where
  pub pieces : Each (SubmissionKnown K) φ.queue
  pub received : Each (RecordKnown K) φ.buffer
  pub written : Each (RecordKnown K) (batch_records φ.batch)

pub record IsTracedIn {C : Type 0} (K : ℕ → ℕ → C → Type 0) (R : ℕ → ℕ → Outcome C → Type 0) (flushers : ℕ → Flusher C) (H : List (Event C)) : Type 0 where
  pub at : (f : ℕ) → IsTracedAt K (flushers f)
  pub puts : Each (IsKnownPut K R) H

abbrev pub IsTraced : {C : Type 0} → (ℕ → ℕ → C → Type 0) → (ℕ → ℕ → Outcome C → Type 0) → World C → Type 0
IsTraced K R w = IsTracedIn K R w.core.flushers w.history

-- more is known

module _ {C : Type 0} (K L : ℕ → ℕ → C → Type 0) (R : ℕ → ℕ → Outcome C → Type 0) (more : (h s : ℕ) (c : C) → K h s c → L h s c) where
  source_more : (r : Record C) (src : Source C) → SourceKnown K r src → SourceKnown L r src
  source_more r (Given c) ok = more r.hash r.sequence c ok
  source_more r (Reread a) ok = tt

  submission_more : (sub : Submission C) → SubmissionKnown K sub → SubmissionKnown L sub
  submission_more (Piece h s n c) ok = more h s c ok
  submission_more (Remove h s invalidated) ok = tt
  submission_more (Await i) ok = tt
  submission_more (Reinsert h bytes a) ok = tt

  put_more : (e : Event C) → IsKnownPut K R e → IsKnownPut L R e
  put_more (Put h s x) ok = elim ok [ inl old ↦ inl old | inr new ↦ inr (new.0, new.1, more h s new.0 new.2) ]
  put_more (Deletion h s) ok = tt
  put_more Destruction ok = tt

  at_more : (φ : Flusher C) → IsTracedAt K φ → IsTracedAt L φ
  at_more φ ok = record {
    pieces = each_weaker (SubmissionKnown K) (SubmissionKnown L) φ.queue submission_more ok.pieces;
    received = each_weaker (RecordKnown K) (RecordKnown L) φ.buffer (λ r. source_more r r.source) ok.received;
    written = each_weaker (RecordKnown K) (RecordKnown L) (batch_records φ.batch) (λ r. source_more r r.source) ok.written;
  }

  pub traced_more : (w : World C) → IsTraced K R w → IsTraced L R w
  traced_more w ok = record { at = λ f. at_more (w.core.flushers f) (ok.at f); puts = each_weaker (IsKnownPut K R) (IsKnownPut L R) w.history put_more ok.puts }

-- what is newest is an event of the history
newest_known : {C : Type 0} (P : Event C → Type 0) (h : ℕ) (H : List (Event C)) (e : Event C) → Each P H → newest h H ≡ Some e → P e
newest_known P h [] e all is = absurd (let f : None ≡ Some e = is in cc)
newest_known P h (Put k s x ∷ H) e all given = go (k == h && nat_le (sequence_in (newest h H)) s) given (newest_known P h H e all.1)
  where
    go : (t : Bool) → (if t then Some (Put k s x) else newest h H) ≡ Some e → (newest h H ≡ Some e → P e) → P e
    go true is rec = subst P (let f : Some (Put k s x) ≡ Some e = is in let g : Put k s x ≡ e = cc in g) all.0
    go false is rec = rec is
newest_known P h (Deletion k s ∷ H) e all given = go (k == h && nat_le (sequence_in (newest h H)) s) given (newest_known P h H e all.1)
  where
    go : (t : Bool) → (if t then Some (Deletion k s) else newest h H) ≡ Some e → (newest h H ≡ Some e → P e) → P e
    go true is rec = subst P (let f : Some (Deletion k s) ≡ Some e = is in let g : Deletion k s ≡ e = cc in g) all.0
    go false is rec = rec is
newest_known P h (Destruction ∷ H) e all is = absurd (let f : None ≡ Some e = is in cc)

module _ {C : Type 0} (rules : Rules C) (K : ℕ → ℕ → C → Type 0) (R : ℕ → ℕ → Outcome C → Type 0) where
  -- one flusher changes
  one_traced : (w : World C) (f : ℕ) (ψ : Flusher C) → (IsTracedAt K (w.core.flushers f) → IsTracedAt K ψ) → IsTraced K R w → IsTracedIn K R (put w.core.flushers f ψ) w.history
  one_traced w f ψ change ok = record { at = put_one (λ q φ. IsTracedAt K φ) w.core.flushers f ψ (change (ok.at f)) (λ q _. ok.at q); puts = ok.puts }

  pub pushed_traced : (w : World C) (f : ℕ) (sub : Submission C) → SubmissionKnown K sub → IsTraced K R w → IsTracedIn K R (queued rules w.core f sub).flushers w.history
  pushed_traced w f sub known ok = one_traced w f _ (λ t. record {
    pieces = each_join (SubmissionKnown K) (w.core.flushers f).queue (sub ∷ []) t.pieces (known, tt);
    received = t.received;
    written = t.written;
  }) ok

  -- the commit of a block, record by record
  one_noted : (r : Record C) (src : Source C) (apart : ℕ → ℕ → Type 0) (m : ℕ → Option Slot) (H : List (Event C)) (g : Ground) (block_writes : ℕ → BlockWrites) → SourceKnown K r src → SourceBrings rules g block_writes apart m H r src
      → Each (IsKnownPut K R) H → Each (IsKnownPut K R) (noted_one r src (m r.hash) H)
  one_noted r (Given c) apart m H g block_writes known brings all = (inr (c, refl, known), all)
  one_noted r (Reread over) apart m H g block_writes known brings all = go (holds over (m r.hash)) refl
    where
      go : (t : Bool) → holds over (m r.hash) ≡ t → Each (IsKnownPut K R) (if t then Put r.hash r.sequence (outcome_in (newest r.hash H)) ∷ H else H)
      go true is =
          let newer : newest r.hash H ≡ Some (Put r.hash r.sequence (rules.pair_of r.bytes r.hash r.sequence)) = brings.2 (holds_is over (m r.hash) is) in (
            newest_known (IsKnownPut K R) r.hash H (Put r.hash r.sequence (outcome_in (newest r.hash H))) all
                (newer ∙ ap (λ e. Some (Put r.hash r.sequence (outcome_in e))) (sym newer)),
            all,
          )
      go false is = all

  all_noted : (g : Ground) (block_writes : ℕ → BlockWrites) (b n : ℕ) (ps : List (ℕ × Record C)) (m : ℕ → Option Slot) (H : List (Event C)) → Each (RecordKnown K) (map (λ p. p.1) ps) → Each (Brings rules g block_writes b n m H) (map (λ p. p.1) ps)
      → Each (IsKnownPut K R) H → Each (IsKnownPut K R) (noted b n ps m H)
  all_noted g block_writes b n [] m H known brings all = all
  all_noted g block_writes b n (p ∷ ps) m H known brings all =
      all_noted g block_writes b n ps (committed_one b n p m) (noted_one p.1 (p.1).source (m (p.1).hash) H) known.1 (all_bring rules g block_writes b n p m H (map (λ q. q.1) ps) brings.1)
      (one_noted p.1 (p.1).source (λ d k. d ≡ b → k ≡ n → ⊥) m H g block_writes known.0 brings.0 all)

  pub traced_as : (H : List (Event C)) (new expr : State C) → new ≡ expr → IsTracedIn K R expr.flushers H → IsTracedIn K R new.flushers H
  traced_as H new expr eq ok = subst (λ c. IsTracedIn K R c.flushers H) (sym eq) ok

  pub deletes_traced : (w : World C) (h : ℕ) (reply : Reply C) (new : State C) → Deletes rules w.core h reply new → IsTraced K R w → IsTraced K R (after rules w (Applies (Delete h) reply new))
  deletes_traced w h (Deleted s) new ok traced =
      traced_as (Deletion h s ∷ w.history) new _ ok.3
      (let t : IsTracedIn K R (queued rules w.core (flusher_of rules h) (Remove h s (invalidated_by rules s (w.core.index h)))).flushers w.history = pushed_traced w (flusher_of rules h) (Remove h s (invalidated_by rules s (w.core.index h))) tt traced in
      record { at = t.at; puts = (tt, t.puts) })
  deletes_traced w h reply new ok traced = absurd ok

  pub takes_traced : (w : World C) (f : ℕ) (queue : List (Submission C)) (reply : Reply C) (new : State C) → (w.core.flushers f).queue ≡ queue → TakesFront rules w.core f queue reply new → IsTraced K R w
      → IsTraced K R (after rules w (Applies (Receive f) reply new))
  takes_traced w f [] Empty new is ok traced = traced_as w.history new w.core ok traced
  takes_traced w f (Piece h s n c ∷ rest) (Received None) new is ok traced = traced_as w.history new _ ok.3 (one_traced w f _ (λ t.
      let q : Each (SubmissionKnown K) (Piece h s n c ∷ rest) = subst (Each (SubmissionKnown K)) is t.pieces in
      record { pieces = q.1; received = each_join (RecordKnown K) (w.core.flushers f).buffer _ t.received (q.0, tt); written = t.written }) traced)
  takes_traced w f (Piece h s n c ∷ rest) (Received (Some d)) new is ok traced =
      subst (λ H. IsTracedIn K R new.flushers H) (sym (ap (λ q. with_returned q w.history) is))
      (traced_as (Deletion h s ∷ w.history) new _ ok.2
      (let t : IsTracedIn K R (put w.core.flushers f _) w.history = one_traced w f (record (w.core.flushers f) { queue = rest; marks = (w.core.flushers f).marks ++ (h, s) ∷ []; invalidated = (w.core.flushers f).invalidated ++ invalidated_by rules s (w.core.index h) }) (λ t.
      record { pieces = (subst (Each (SubmissionKnown K)) is t.pieces).1; received = t.received; written = t.written }) traced in
      record { at = t.at; puts = (tt, t.puts) }))
  takes_traced w f (Remove h s invalidated ∷ rest) (Received None) new is ok traced = traced_as w.history new _ ok (one_traced w f _ (λ t.
      record { pieces = (subst (Each (SubmissionKnown K)) is t.pieces).1; received = t.received; written = t.written }) traced)
  takes_traced w f (Await i ∷ rest) (Received None) new is ok traced = traced_as w.history new _ ok (one_traced w f _ (λ t.
      record { pieces = (subst (Each (SubmissionKnown K)) is t.pieces).1; received = t.received; written = t.written }) traced)
  takes_traced w f (Reinsert h bytes a ∷ rest) (Received None) new is ok traced =
      elim ok [
        | inl (held, fits, eq) ↦ traced_as w.history new _ eq (one_traced w f _ (λ t.
            record { pieces = (subst (Each (SubmissionKnown K)) is t.pieces).1; received = each_join (RecordKnown K) (w.core.flushers f).buffer _ t.received (tt, tt); written = t.written }) traced)
        | inr (dropped, eq) ↦ traced_as w.history new _ eq (one_traced w f _ (λ t.
            record { pieces = (subst (Each (SubmissionKnown K)) is t.pieces).1; received = t.received; written = t.written }) traced)
      ]
  takes_traced w f queue reply new is ok traced = absurd ok

  pub begins_traced : (Splits : Splitting C) → KeepsRecords rules Splits → (w : World C) (f : ℕ) (reply : Reply C) (new : State C) → Begins rules Splits w.core f reply new → IsTraced K R w → IsTracedIn K R new.flushers w.history
  begins_traced Splits places w f (Began blocks marks) new ok traced = traced_as w.history new _ ok.2 (one_traced w f _ (λ t. record {
    pieces = t.pieces;
    received = tt;
    written = subst (Each (RecordKnown K)) (sym (places (w.core.flushers f).context (w.core.flushers f).buffer blocks ok.1).all) t.received;
  }) traced)
  begins_traced Splits places w f reply new ok traced = absurd ok

  pub issues_traced : (w : World C) (f : ℕ) (batch : Option (Batch C)) (reply : Reply C) (new : State C) → (w.core.flushers f).batch ≡ batch → WantsBlock batch → Describes rules w.core f batch reply new → IsTraced K R w
      → IsTracedIn K R new.flushers w.history
  issues_traced w f (Some batch) NoBlock new is wants ok traced = traced_as w.history new _ ok.3 (one_traced w f _ (λ t. record { pieces = t.pieces; received = t.received; written = t.written }) traced)
  issues_traced w f (Some batch) (Written b writes) new is wants (s, rest, blocks, all, which) traced =
      elim which [
        | inl (continues_own_block, own, eq) ↦ traced_as w.history new _ eq issued
        | inr (inl (fresh, ready, eq)) ↦ traced_as w.history new _ eq issued
        | inr (inr (fresh, ready, free, eq)) ↦ traced_as w.history new _ eq issued
      ]
    where
      whole : (w.core.flushers f).batch ≡ Some (record batch { blocks = s ∷ rest; writing = None })
      whole = is ∙ (λ j. Some (record batch { blocks = blocks j; writing = wants.1 j }))

      issued : IsTracedIn K R (block_issued rules w.core f b batch s rest).flushers w.history
      issued = one_traced w f _ (λ t. record {
        pieces = t.pieces;
        received = t.received;
        written = records_issued rules (Each (RecordKnown K)) b (writes_in rules s.parts) (records_in s.parts) (records_of rest) (each_back (RecordKnown K))
            (subst (λ k. Each (RecordKnown K) (batch_records k)) whole t.written);
      }) traced
  issues_traced w f batch reply new is wants ok traced = absurd ok

  pub wrote_traced : (w : World C) (f : ℕ) (good : Bool) (batch : Option (Batch C)) (reply : Reply C) (new : State C) → (w.core.flushers f).batch ≡ batch → Wrote rules w.core f good batch reply new
      → WorldInvariant rules w → IsAgain rules w → IsTraced K R w → IsTraced K R (after rules w (Applies (FlushWrote f good) reply new))
  wrote_traced w f true (Some batch) Next new is (r, first, second, rest, writing, left, eq) sound again traced =
      traced_as w.history new _ eq (one_traced w f _ (λ t. record {
        pieces = t.pieces;
        received = t.received;
        written = subst (λ k. Each (RecordKnown K) (batch_records k)) (is ∙ (λ i. Some (record batch { writing = writing i }))) t.written;
      }) traced)
  wrote_traced w f true (Some batch) (Committed n) new is (r, last, writing, left, count, eq) sound again traced =
      subst (λ H. IsTracedIn K R new.flushers H) (sym (ap (λ k. with_puts (puts_of w.core k) w.history) whole ∙ noted_is r.block (w.core.filling r.block) r.records w.core.index w.history))
      (traced_as (noted r.block (w.core.filling r.block) r.records w.core.index w.history) new _ eq
      (let t : IsTracedIn K R (put w.core.flushers f (record (w.core.flushers f) { batch = Some (record batch { writing = None }) })) w.history = one_traced w f _ (λ t. record {
        pieces = t.pieces;
        received = t.received;
        written = each_back (RecordKnown K) (map (λ p. p.1) r.records) (records_of batch.blocks) (parts t);
      }) traced in
      record {
        at = t.at;
        puts = all_noted (ground_of w) w.block_writes r.block (w.core.filling r.block) r.records w.core.index w.history
            (each_front (RecordKnown K) (map (λ p. p.1) r.records) (records_of batch.blocks) (parts (traced.at f)))
            (brings_of rules w f r.block (map (λ p. p.1) r.records) ((sound.flushers f).owned r.block own)
            (each_front (RecordWaits rules w.core.index w.history w.core.place w.core.filling) (map (λ p. p.1) r.records) (records_of batch.blocks)
            (subst (λ k. Each (RecordWaits rules w.core.index w.history w.core.place w.core.filling) (batch_records k)) whole (again.waits f).batch)))
            traced.puts;
      }))
    where
      whole : (w.core.flushers f).batch ≡ Some (record batch { writing = Some r })
      whole = is ∙ (λ i. Some (record batch { writing = writing i }))

      parts : IsTracedAt K (w.core.flushers f) → Each (RecordKnown K) (map (λ p. p.1) r.records ++ records_of batch.blocks)
      parts t = subst (λ k. Each (RecordKnown K) (batch_records k)) whole t.written

      own : (w.core.flushers f).own ≡ Some r.block
      own = (subst (λ k. WritingOk rules (ground_of w) (w.core.flushers f).own (writing_in k) (w.block_writes f)) whole (sound.flushers f).writing).0
  wrote_traced w f good (Some batch) Failed new is (r, first, rest, writing, left, grown, eq) sound again traced =
      traced_as w.history new _ eq (one_traced w f _ (λ t. record { pieces = t.pieces; received = t.received; written = tt }) traced)
  wrote_traced w f good batch reply new is ok sound again traced = absurd ok

  pub logs_traced : (w : World C) (f : ℕ) (well : Bool) (batch : Option (Batch C)) (reply : Reply C) (new : State C) → (w.core.flushers f).batch ≡ batch → Logs rules w.core f well batch reply new → IsTraced K R w → IsTracedIn K R new.flushers w.history
  logs_traced w f well (Some batch) Done new is ok traced = traced_as w.history new _ ok (one_traced w f _ (λ t. record {
    pieces = t.pieces;
    received = t.received;
    written = subst (λ k. Each (RecordKnown K) (batch_records k)) is t.written;
  }) traced)
  logs_traced w f well batch reply new is ok traced = absurd ok

  pub finishes_traced : (w : World C) (f : ℕ) (batch : Option (Batch C)) (reply : Reply C) (new : State C) → Finishes rules w.core f batch reply new → IsTraced K R w → IsTracedIn K R new.flushers w.history
  finishes_traced w f (Some batch) (Ended pieces waits) new ok traced = traced_as w.history new _ ok.2 (one_traced w f _ (λ t. record { pieces = t.pieces; received = t.received; written = tt }) traced)
  finishes_traced w f batch reply new ok traced = absurd ok

  pub reads_traced : (w : World C) (b : ℕ) (r : Option Reclaim) (came : ReadResult) (reply : Reply C) (new : State C) → Rereads rules w.core b r came reply new → IsTraced K R w → IsTracedIn K R new.flushers w.history
  reads_traced w b None came reply new ok traced = absurd ok
  reads_traced w b (Some r) came reply new ok traced = scanned r.stage came ok
    where
      lists : (place : ℕ) (es : Option (List IndexEntry)) → Lists rules w.core b r place es reply new → IsTracedIn K R new.flushers w.history
      lists place None given = traced_as w.history new _ given.1 traced
      lists place (Some es) given = traced_as w.history new _ given.3 traced

      scanned : (stage : Stage) (came : ReadResult) → Scanned rules w.core b r stage came reply new → IsTracedIn K R new.flushers w.history
      scanned (AtIndex place) Fault given = traced_as w.history new _ given.1 traced
      scanned (AtRecord h a rest place) Fault given = traced_as w.history new _ given.1 traced
      scanned (AtIndex place) (Bytes bs) given = lists place (rules.entries_of place bs) given
      scanned (AtRecord h a rest place) (Bytes bs) given = traced_as w.history new _ given.1 (pushed_traced w (flusher_of rules (length r.requeued)) (Reinsert h (take a.len bs) a) tt traced)
      scanned AllListed came given = absurd given
      scanned ToClean came given = absurd given

  pub looks_traced : (w : World C) (h : ℕ) (throttled : Bool) (slot : Option Slot) (reply : Reply C) (new : State C) → Looks rules w.core h throttled slot reply new → IsTraced K R w → IsTraced K R (after rules w (Applies (LoadBegin h throttled) reply new))
  looks_traced w h throttled None Miss new ok traced = traced_as w.history new w.core ok traced
  looks_traced w h throttled (Some (Mark s)) Miss new ok traced = traced_as w.history new w.core ok traced
  looks_traced w h throttled (Some (Indexed a)) Throttled new ok traced = traced_as w.history new w.core ok.1 traced
  looks_traced w h throttled (Some (Indexed a)) Miss new ok traced = traced_as w.history new _ ok.2 traced
  looks_traced w h throttled (Some (Indexed a)) (Read t) new ok traced = traced_as w.history new _ ok.3 traced
  looks_traced w h throttled slot reply new ok traced = absurd ok

  pub ends_traced : (w : World C) (t : Ticket) (came : ReadResult) (reply : Reply C) (new : State C) → Ends rules w.core t came reply new → IsTraced K R w → IsTraced K R (after rules w (Applies (LoadEnd t came) reply new))
  ends_traced w t Fault reply new ok traced = absurd ok
  ends_traced w t (Bytes bs) reply new ok traced = judges (judged rules w.core t bs) reply ok
    where
      judges : (x : Outcome C) (reply : Reply C) → Judges rules w.core t x reply new → IsTraced K R (after rules w (Applies (LoadEnd t (Bytes bs)) reply new))
      judges NoRecord Miss given = traced_as w.history new _ given traced
      judges (Holds k) (Entry d age) given = traced_as w.history new w.core given.2 traced
      judges x reply given = absurd given

  pub waits_traced : (w : World C) (f i : ℕ) (reply : Reply C) (new : State C) → Waits rules w.core f i reply new → IsTraced K R w → IsTracedIn K R new.flushers w.history
  waits_traced w f i Done new ok traced = traced_as w.history new _ ok (pushed_traced w f (Await i) tt traced)
  waits_traced w f i reply new ok traced = absurd ok

  pub picks_traced : (w : World C) (reply : Reply C) (new : State C) → Picks rules w.core reply new → IsTraced K R w → IsTracedIn K R new.flushers w.history
  picks_traced w (Picked b answers probation) new ok traced = traced_as w.history new _ ok.4 traced
  picks_traced w reply new ok traced = absurd ok

  pub forgets_traced : (w : World C) (b : ℕ) (r : Option Reclaim) (reply : Reply C) (new : State C) → Forgets rules w.core b r reply new → IsTraced K R w → IsTracedIn K R new.flushers w.history
  forgets_traced w b (Some r) (Cleans d) new ok traced = traced_as w.history new _ ok.1 traced
  forgets_traced w b r reply new ok traced = absurd ok

  pub cleaned_traced : (w : World C) (b : ℕ) (reply : Reply C) (new : State C) → Cleaned rules w.core b reply new → IsTraced K R w → IsTracedIn K R new.flushers w.history
  cleaned_traced w b Done new ok traced =
      elim ok [
        | inl (f, others, waits, room, eq) ↦ traced_as w.history new _ eq (one_traced w f _ (λ t. record { pieces = t.pieces; received = t.received; written = t.written }) traced)
        | inr (nobody, eq) ↦ traced_as w.history new _ eq traced
      ]
  cleaned_traced w b reply new ok traced = absurd ok

  pub destroys_traced : (w : World C) (reply : Reply C) (new : State C) → BeginsDestroy rules w.core reply new → IsTraced K R w → IsTracedIn K R new.flushers w.history
  destroys_traced w (Destroying s) new ok traced = traced_as w.history new _ ok.3 (pushed_traced w (flusher_of rules 0) (Remove 0 s []) tt traced)
  destroys_traced w reply new ok traced = absurd ok

  pub clears_traced : (w : World C) (reply : Reply C) (new : State C) → Clears rules w.core reply new → IsTraced K R w → IsTraced K R (after rules w (Applies DestroyClear reply new))
  clears_traced w (Cleared bs) new ok traced = traced_as (Destruction ∷ w.history) new _ ok.1 (record {
    at = λ f. record { pieces = (traced.at f).pieces; received = (traced.at f).received; written = (traced.at f).written };
    puts = (tt, traced.puts);
  })
  clears_traced w reply new ok traced = absurd ok

  pub cleans_traced : (w : World C) (b : ℕ) (well : Option Kind) (d : Destroy) (reply : Reply C) (new : State C) → CleansOne rules w.core b well d reply new → IsTraced K R w → IsTracedIn K R new.flushers w.history
  cleans_traced w b well (Cleaning left failed) reply new ok traced = traced_as w.history new _ ok.1 traced
  cleans_traced w b well NoDestroy reply new ok traced = absurd ok
  cleans_traced w b well Begun reply new ok traced = absurd ok
