-- Blocks that are neither clean nor being reclaimed stay in their filling.
use Rattle.std.proofs.Common.{◌≡◌, ℕ, ◌+◌, ◌<◌, ◌==◌, nat_le, Bool, true, false, if◌then◌else◌, List, [], ◌∷◌, ◌++◌, Option, Some, None, inl, inr, refl, sym, ap, subst, ◌∙◌}
use Rattle.std.proofs.lemmas.Bool.{eqb-true}
use Rattle.foyer_core_model.specs.Kind.{Kind}
use Rattle.foyer_core_model.specs.Numbers.{put}
use Rattle.foyer_core_model.specs.Ids.{is_id_in, without_id, AreDistinct}
use Rattle.foyer_core_model.specs.Record.{Address, Slot, Indexed, Mark, Outcome, NoRecord, Holds, IndexEntry, Source, Given, Reread, Record}
use Rattle.foyer_core_model.specs.State.{Submission, Piece, Remove, Await, Reinsert, Writing, Batch, BlockSet, Clean, Writes, Evictable, Reclaims, Stage, AtIndex, AtRecord, AllListed, ToClean, Reclaim, Destroy, NoDestroy, Begun, Cleaning, State}
use Rattle.foyer_core_model.specs.Rules.{Rules, Splitting}
use Rattle.foyer_core_model.specs.Step.{ReadResult, Bytes, Fault, Age, Ticket, Step, Enqueue, Delete, Wait, MayContains, LoadBegin, LoadEnd, Receive, FlushBegin, FlushBlock, FlushWrote, LogWrote, FlushEnd, ReclaimBegin, ReclaimRead, ReclaimForget, ReclaimCleaned, ReclaimIdle, DestroyBegin, DestroyClear, DestroyCleaned, Close}
use Rattle.foyer_core_model.specs.Reply.{Reply, Ignored, Queued, Dropped, Deleted, Done, Miss, Throttled, Read, Entry, Empty, Received, Began, Written, NoBlock, Next, Committed, Failed, Ended, Cleans, Destroying}
use Rattle.foyer_core_model.specs.Index.{holds, sequence_at, inserted, without}
use Rattle.foyer_core_model.specs.Commit.{address_of, taken_in, committed_one}
use Rattle.foyer_core_model.specs.Queue.{Enqueues, Deletes, Waits}
use Rattle.foyer_core_model.specs.Load.{Looks, judged, Judges, Ends}
use Rattle.foyer_core_model.specs.Receive.{turned, TakesFront}
use Rattle.foyer_core_model.specs.Flush.{released, Begins, Describes, Wrote, Logs, Finishes}
use Rattle.foyer_core_model.specs.Reclaim.{not_among, Lists, Scanned, Rereads, Forgets, Cleaned}
use Rattle.foyer_core_model.specs.Destroy.{BeginsDestroy, CleansOne}
use Rattle.foyer_core_model.specs.InTurn.{IsAt, InTurn}
use Rattle.foyer_core_model.specs.Changes.{Changes}
use Rattle.foyer_core_model.specs.Access.{came}
use Rattle.foyer_core_model.proofs.Basics.{put_at, put_other}
use Rattle.foyer_core_model.proofs.Ids.{same_in, later_in, in_cases, in_front, in_last, distinct_without, distinct_append}
use Rattle.foyer_core_model.proofs.Invariant.{writing_in}
use Rattle.foyer_core_model.proofs.CommitSteps.{committed, committed_is}
use Rattle.foyer_core_model.proofs.FlushEnds.{failed}
use Rattle.foyer_core_model.proofs.Rereads.{without_stays, put_stays, unmarked_stays, forgotten_stays}
use Rattle.foyer_core_model.proofs.Sets.{AreSets, clean_is}

-- such a block stays as it is, and indexed addresses name blocks that are there
-- each clean block is listed, once
abbrev pub AreListed : {C : Type 0} → Rules C → (ℕ → BlockSet) → List ℕ → Type 0
AreListed rules place bs = ((b : ℕ) → b < rules.blocks → place b ≡ Clean → is_id_in b bs ≡ true) × AreDistinct bs

pub record Settles {C : Type 0} (rules : Rules C) (c new : State C) : Type 0 where
  pub stays : (b : ℕ) → (c.place b ≡ Clean → ⊥) → (c.place b ≡ Reclaims → ⊥) → (new.filling b ≡ c.filling b) × ((new.place b ≡ Clean → ⊥) × (new.place b ≡ Reclaims → ⊥))
  pub below : ((h : ℕ) (a : Address) → c.index h ≡ Some (Indexed a) → a.block < rules.blocks) → (h : ℕ) (a : Address) → new.index h ≡ Some (Indexed a) → a.block < rules.blocks
  pub listed : AreListed rules c.place c.clean → AreListed rules new.place new.clean

module _ {C : Type 0} (rules : Rules C) where
  settled : (c new expr : State C) → new ≡ expr → Settles rules c expr → Settles rules c new
  settled c new expr eq ok = subst (Settles rules c) (sym eq) ok

  -- nothing of it changes
  alike : (c : State C) → Settles rules c c
  alike c = record { stays = λ b p q. (refl, (p, q)); listed = λ l. l; below = λ ok. ok }

  -- a slot changes to nothing, or to what it was
  unindexed : (c : State C) (h : ℕ) (slot : Option Slot) → ((a : Address) → slot ≡ Some (Indexed a) → c.index h ≡ Some (Indexed a)) → Settles rules c (record c { index = put c.index h slot })
  unindexed c h slot back = record { stays = λ b p q. (refl, (p, q)); listed = λ l. l; below = λ ok k a is. ok k a (put_stays c.index h slot a (back a) k is) }

  left : (own : Option ℕ) (place : ℕ → BlockSet) (b : ℕ) → (place b ≡ Clean → ⊥) → (place b ≡ Reclaims → ⊥) → (released own place b ≡ Clean → ⊥) × (released own place b ≡ Reclaims → ⊥)
  left None place b p q = (p, q)
  left (Some c) place b p q = put_at (λ k. (k ≡ Clean → ⊥) × (k ≡ Reclaims → ⊥)) place c Evictable b (λ _. (λ e. cc, λ e. cc)) (λ _. (p, q))

  committed_below : (b n : ℕ) (ps : List (ℕ × Record C)) (m : ℕ → Option Slot) → b < rules.blocks → ((h : ℕ) (a : Address) → m h ≡ Some (Indexed a) → a.block < rules.blocks)
      → (h : ℕ) (a : Address) → committed b n ps m h ≡ Some (Indexed a) → a.block < rules.blocks
  committed_below b n [] m lt ok = ok
  committed_below b n (p ∷ ps) m lt ok = committed_below b n ps (committed_one b n p m) lt one
    where
      taken : (src : Source C) (slot : Option Slot) (a : Address) → ((d : Address) → slot ≡ Some (Indexed d) → d.block < rules.blocks)
          → taken_in src slot (address_of b n p) ≡ Some (Indexed a) → a.block < rules.blocks
      taken (Given c) None a ok is = subst (λ k. k.block < rules.blocks) (let e : Some (Indexed (address_of b n p)) ≡ Some (Indexed a) = is in let f : address_of b n p ≡ a = cc in f) lt
      taken (Given c) (Some old) a ok given = go (nat_le (sequence_at old) (p.1).sequence) given
        where
          go : (t : Bool) → (if t then Some (Indexed (address_of b n p)) else Some old) ≡ Some (Indexed a) → a.block < rules.blocks
          go true is = subst (λ k. k.block < rules.blocks) (let e : Some (Indexed (address_of b n p)) ≡ Some (Indexed a) = is in let f : address_of b n p ≡ a = cc in f) lt
          go false is = ok a is
      taken (Reread over) slot a ok given = go (holds over slot) given
        where
          go : (t : Bool) → (if t then Some (Indexed (address_of b n p)) else slot) ≡ Some (Indexed a) → a.block < rules.blocks
          go true is = subst (λ k. k.block < rules.blocks) (let e : Some (Indexed (address_of b n p)) ≡ Some (Indexed a) = is in let f : address_of b n p ≡ a = cc in f) lt
          go false is = ok a is

      one : (h : ℕ) (a : Address) → committed_one b n p m h ≡ Some (Indexed a) → a.block < rules.blocks
      one h a = put_at (λ v. v ≡ Some (Indexed a) → a.block < rules.blocks) m (p.1).hash _ h
          (λ _ is. taken (p.1).source (m (p.1).hash) a (λ d. ok (p.1).hash d) is) (λ _ is. ok h a is)

  -- a block that was released is not clean, and was no other before
  released_was : (own : Option ℕ) (place : ℕ → BlockSet) (d : ℕ) → released own place d ≡ Clean → place d ≡ Clean
  released_was None place d is = is
  released_was (Some b) place d is = put_at (λ k. k ≡ Clean → place d ≡ Clean) place b Evictable d (λ _ e. absurd (let z : Evictable ≡ Clean = e in cc)) (λ _ e. e) is

  released_listed : (own : Option ℕ) (place : ℕ → BlockSet) (bs : List ℕ) → AreListed rules place bs → AreListed rules (released own place) bs
  released_listed own place bs l = ((λ d lt is. l.0 d lt (released_was own place d is)), l.1)

  still_in : (d x : ℕ) (ys : List ℕ) → (d ≡ x → ⊥) → is_id_in d ys ≡ true → is_id_in d (without_id x ys) ≡ true
  still_in d x [] ne is = is
  still_in d x (y ∷ ys) ne is = go (x == y) refl (still_in d x ys ne)
    where
      go : (t : Bool) → (x == y) ≡ t → (is_id_in d ys ≡ true → is_id_in d (without_id x ys) ≡ true) → is_id_in d (if t then without_id x ys else y ∷ without_id x ys) ≡ true
      go true e rec = elim (in_cases d y ys is) [ inl at ↦ absurd (ne (at ∙ sym (eqb-true x y e))) | inr there ↦ rec there ]
      go false e rec = elim (in_cases d y ys is) [
        | inl at ↦ subst (λ k. is_id_in d (k ∷ without_id x ys) ≡ true) at (same_in d (without_id x ys))
        | inr there ↦ later_in d y (without_id x ys) (rec there)
      ]

  handed_listed : (own : Option ℕ) (place : ℕ → BlockSet) (bs : List ℕ) (b f : ℕ) → AreListed rules place bs → AreListed rules (put (released own place) b (Writes f)) (without_id b bs)
  handed_listed own place bs b f l = (
    (λ d lt. put_at (λ k. k ≡ Clean → is_id_in d (without_id b bs) ≡ true) (released own place) b (Writes f) d
        (λ _ e. absurd (let z : Writes f ≡ Clean = e in cc)) (λ ne e. still_in d b bs ne (l.0 d lt (released_was own place d e)))),
    distinct_without b bs l.1,
  )

  -- a block that is being reclaimed isn't in the clean list
  not_clean : (c : State C) (b : ℕ) → AreSets rules c → c.place b ≡ Reclaims → is_id_in b c.clean ≡ false
  not_clean c b sets at = go (is_id_in b c.clean) refl
    where
      go : (t : Bool) → is_id_in b c.clean ≡ t → t ≡ false
      go true is = absurd (let e : Clean ≡ Reclaims = sym (sets.clean b is).0 ∙ at in cc)
      go false is = refl

  issues : (c new : State C) (f : ℕ) (batch : Option (Batch C)) (reply : Reply C) → AreSets rules c → Describes rules c f batch reply new → Settles rules c new
  issues c new f (Some batch) NoBlock sets ok =
      settled c new _ ok.3 (record { stays = λ b p q. (refl, left (c.flushers f).own c.place b p q); listed = λ l. released_listed (c.flushers f).own c.place c.clean l; below = λ ok. ok })
  issues c new f (Some batch) (Written b writes) sets (s, rest, blocks, all, which) =
      elim which [
        | inl (continues_own_block, own, eq) ↦ settled c new _ eq (record { stays = λ b p q. (refl, (p, q)); listed = λ l. l; below = λ ok. ok })
        | inr (inl (fresh, ready, eq)) ↦ settled c new _ eq (record { stays = λ b p q. (refl, (p, q)); listed = λ l. l; below = λ ok. ok })
        | inr (inr (fresh, ready, free, eq)) ↦ settled c new _ eq (record {
          stays = λ d p q. let ne : d ≡ b → ⊥ = λ e. p (ap c.place e ∙ clean_is rules c sets b free) in (
            put_other c.filling b (c.filling b + 1) d ne,
            subst (λ k. (k ≡ Clean → ⊥) × (k ≡ Reclaims → ⊥)) (sym (put_other (released (c.flushers f).own c.place) b (Writes f) d ne)) (left (c.flushers f).own c.place d p q),
          );
          listed = λ l. handed_listed (c.flushers f).own c.place c.clean b f l;
          below = λ ok. ok;
        })
      ]
  issues c new f batch reply sets ok = absurd ok

  wrote : (c new : State C) (f : ℕ) (good : Bool) (batch : Option (Batch C)) (reply : Reply C) → ((w : Writing C) → writing_in batch ≡ Some w → w.block < rules.blocks) → Wrote rules c f good batch reply new → Settles rules c new
  wrote c new f true (Some batch) Next lt (r, first, second, rest, writing, at, eq) = settled c new _ eq (record { stays = λ b p q. (refl, (p, q)); listed = λ l. l; below = λ ok. ok })
  wrote c new f true (Some batch) (Committed n) lt (r, last, writing, at, count, eq) =
      settled c new _ (eq ∙ (λ i. record (turned rules c f (record (c.flushers f) { batch = Some (record batch { writing = None }) })) { index = committed_is r.block (c.filling r.block) r.records c.index i }))
      (record { stays = λ b p q. (refl, (p, q)); listed = λ l. l; below = committed_below r.block (c.filling r.block) r.records c.index (lt r writing) })
  wrote c new f good (Some batch) Failed lt (r, first, rest, writing, at, grown, eq) =
      settled c new _ eq (record { stays = λ b p q. (refl, left (c.flushers f).own c.place b p q); listed = λ l. released_listed (c.flushers f).own c.place c.clean l; below = λ ok. ok })
  wrote c new f good batch reply lt ok = absurd ok

  cleaned : (c new : State C) (b : ℕ) (reply : Reply C) → AreSets rules c → c.place b ≡ Reclaims → Cleaned rules c b reply new → Settles rules c new
  cleaned c new b Done sets at ok =
      elim ok [
        | inl (f, others, waits, room, eq) ↦ settled c new _ eq (record {
          stays = λ d p q. let ne : d ≡ b → ⊥ = λ e. q (ap c.place e ∙ at) in
              (put_other c.filling b (c.filling b + 1) d ne, subst (λ k. (k ≡ Clean → ⊥) × (k ≡ Reclaims → ⊥)) (sym (put_other c.place b (Writes f) d ne)) (p, q));
          listed = λ l. ((λ d lt is. l.0 d lt (put_at (λ k. k ≡ Clean → c.place d ≡ Clean) c.place b (Writes f) d (λ _ e. absurd (let z : Writes f ≡ Clean = e in cc)) (λ _ e. e) is)), l.1);
          below = λ ok. ok;
        })
        | inr (nobody, eq) ↦ settled c new _ eq (record {
          stays = λ d p q. let ne : d ≡ b → ⊥ = λ e. q (ap c.place e ∙ at) in
              (refl, subst (λ k. (k ≡ Clean → ⊥) × (k ≡ Reclaims → ⊥)) (sym (put_other c.place b Clean d ne)) (p, q));
          listed = λ l. (
            (λ d lt. put_at (λ k. k ≡ Clean → is_id_in d (c.clean ++ b ∷ []) ≡ true) c.place b Clean d
                (λ e _. subst (λ k. is_id_in k (c.clean ++ b ∷ []) ≡ true) (sym e) (in_last b c.clean)) (λ _ is. in_front d c.clean (b ∷ []) (l.0 d lt is))),
            distinct_append b c.clean (not_clean c b sets at) l.1,
          );
          below = λ ok. ok;
        })
      ]
  cleaned c new b reply sets at ok = absurd ok

  looks : (c new : State C) (h : ℕ) (throttled : Bool) (slot : Option Slot) (reply : Reply C) → Looks rules c h throttled slot reply new → Settles rules c new
  looks c new h throttled None Miss ok = settled c new c ok (alike c)
  looks c new h throttled (Some (Mark s)) Miss ok = settled c new c ok (alike c)
  looks c new h throttled (Some (Indexed a)) Throttled ok = settled c new c ok.1 (alike c)
  looks c new h throttled (Some (Indexed a)) Miss ok = settled c new _ ok.2 (unindexed c h None (λ d is. absurd (let e : None ≡ Some (Indexed d) = is in cc)))
  looks c new h throttled (Some (Indexed a)) (Read t) ok = settled c new _ ok.3 (record { stays = λ b p q. (refl, (p, q)); listed = λ l. l; below = λ ok. ok })
  looks c new h throttled slot reply ok = absurd ok

  ends : (c new : State C) (t : Ticket) (came : ReadResult) (reply : Reply C) → Ends rules c t came reply new → Settles rules c new
  ends c new t Fault reply ok = absurd ok
  ends c new t (Bytes bs) reply ok = judges (judged rules c t bs) reply ok
    where
      judges : (x : Outcome C) (reply : Reply C) → Judges rules c t x reply new → Settles rules c new
      judges NoRecord Miss given = settled c new _ given (unindexed c t.hash (without t.address (c.index t.hash)) (λ a. without_stays t.address a (c.index t.hash)))
      judges (Holds k) (Entry d age) given = settled c new c given.2 (alike c)
      judges x reply given = absurd given

  -- a mark that enters is no address
  marked_back : (slot : Option Slot) (s : ℕ) (a : Address) → inserted slot (Mark s) ≡ Some (Indexed a) → slot ≡ Some (Indexed a)
  marked_back None s a is = absurd (let e : Some (Mark s) ≡ Some (Indexed a) = is in cc)
  marked_back (Some old) s a given = go (nat_le (sequence_at old) s) given
    where
      go : (t : Bool) → (if t then Some (Mark s) else Some old) ≡ Some (Indexed a) → Some old ≡ Some (Indexed a)
      go true is = absurd (let e : Some (Mark s) ≡ Some (Indexed a) = is in cc)
      go false is = is

  takes : (c new : State C) (f : ℕ) (queue : List (Submission C)) (reply : Reply C) → TakesFront rules c f queue reply new → Settles rules c new
  takes c new f [] Empty ok = settled c new c ok (alike c)
  takes c new f (Piece h s n k ∷ rest) (Received None) ok = settled c new _ ok.3 (record { stays = λ b p q. (refl, (p, q)); listed = λ l. l; below = λ ok. ok })
  takes c new f (Piece h s n k ∷ rest) (Received (Some d)) ok = settled c new _ ok.2 (record {
    stays = λ b p q. (refl, (p, q));
    listed = λ l. l;
    below = λ ok k a is. ok k a (put_stays c.index h (inserted (c.index h) (Mark s)) a (marked_back (c.index h) s a) k is);
  })
  takes c new f (Remove h s invalidated ∷ rest) (Received None) ok = settled c new _ ok (record { stays = λ b p q. (refl, (p, q)); listed = λ l. l; below = λ ok. ok })
  takes c new f (Await i ∷ rest) (Received None) ok = settled c new _ ok (record { stays = λ b p q. (refl, (p, q)); listed = λ l. l; below = λ ok. ok })
  takes c new f (Reinsert h bytes a ∷ rest) (Received None) ok =
      elim ok [
        | inl (held, fits, eq) ↦ settled c new _ eq (record { stays = λ b p q. (refl, (p, q)); listed = λ l. l; below = λ ok. ok })
        | inr (dropped, eq) ↦ settled c new _ eq (record { stays = λ b p q. (refl, (p, q)); listed = λ l. l; below = λ ok. ok })
      ]
  takes c new f queue reply ok = absurd ok

  reads : (c new : State C) (b : ℕ) (r : Option Reclaim) (came : ReadResult) (reply : Reply C) → Rereads rules c b r came reply new → Settles rules c new
  reads c new b None came reply ok = absurd ok
  reads c new b (Some r) came reply ok = scanned r.stage came ok
    where
      lists : (place : ℕ) (es : Option (List IndexEntry)) → Lists rules c b r place es reply new → Settles rules c new
      lists place None given = settled c new _ given.1 (record { stays = λ b p q. (refl, (p, q)); listed = λ l. l; below = λ ok. ok })
      lists place (Some es) given = settled c new _ given.3 (record { stays = λ b p q. (refl, (p, q)); listed = λ l. l; below = λ ok. ok })

      scanned : (stage : Stage) (came : ReadResult) → Scanned rules c b r stage came reply new → Settles rules c new
      scanned (AtIndex place) Fault given = settled c new _ given.1 (record { stays = λ b p q. (refl, (p, q)); listed = λ l. l; below = λ ok. ok })
      scanned (AtRecord h a rest place) Fault given = settled c new _ given.1 (record { stays = λ b p q. (refl, (p, q)); listed = λ l. l; below = λ ok. ok })
      scanned (AtIndex place) (Bytes bs) given = lists place (rules.entries_of place bs) given
      scanned (AtRecord h a rest place) (Bytes bs) given = settled c new _ given.1 (record { stays = λ b p q. (refl, (p, q)); listed = λ l. l; below = λ ok. ok })
      scanned AllListed came given = absurd given
      scanned ToClean came given = absurd given

  deletes : (c new : State C) (h : ℕ) (reply : Reply C) → Deletes rules c h reply new → Settles rules c new
  deletes c new h (Deleted s) ok = settled c new _ ok.3 (record {
    stays = λ b p q. (refl, (p, q));
    listed = λ l. l;
    below = λ ok k a is. ok k a (put_stays c.index h (inserted (c.index h) (Mark s)) a (marked_back (c.index h) s a) k is);
  })
  deletes c new h reply ok = absurd ok

  enqueues : (c new : State C) (h n : ℕ) (age : Age) (k : C) (reply : Reply C) → Enqueues rules c h n age k reply new → Settles rules c new
  enqueues c new h n age k (Dropped d s) ok = deletes c new h (Deleted s) ok.3
  enqueues c new h n age k (Ignored d) ok = settled c new c ok.3 (alike c)
  enqueues c new h n age k (Queued s) ok = settled c new _ ok.4 (record { stays = λ b p q. (refl, (p, q)); listed = λ l. l; below = λ ok. ok })
  enqueues c new h n age k reply ok = absurd ok

  waits : (c new : State C) (f i : ℕ) (reply : Reply C) → Waits rules c f i reply new → Settles rules c new
  waits c new f i Done ok = settled c new _ ok (record { stays = λ b p q. (refl, (p, q)); listed = λ l. l; below = λ ok. ok })
  waits c new f i reply ok = absurd ok

  begins : (Splits : Splitting C) (c new : State C) (f : ℕ) (reply : Reply C) → Begins rules Splits c f reply new → Settles rules c new
  begins Splits c new f (Began blocks marks) ok = settled c new _ ok.2 (record { stays = λ b p q. (refl, (p, q)); listed = λ l. l; below = λ ok. ok })
  begins Splits c new f reply ok = absurd ok

  logs : (c new : State C) (f : ℕ) (well : Bool) (batch : Option (Batch C)) (reply : Reply C) → Logs rules c f well batch reply new → Settles rules c new
  logs c new f well (Some batch) Done ok = settled c new _ ok (record { stays = λ b p q. (refl, (p, q)); listed = λ l. l; below = λ ok. ok })
  logs c new f well batch reply ok = absurd ok

  finishes : (c new : State C) (f : ℕ) (batch : Option (Batch C)) (reply : Reply C) → Finishes rules c f batch reply new → Settles rules c new
  finishes c new f (Some batch) (Ended pieces waits) ok = settled c new _ ok.2 (record {
    stays = λ b p q. (refl, (p, q));
    listed = λ l. l;
    below = λ ok h a is. ok h a (unmarked_stays batch.marks c.index h a is);
  })
  finishes c new f batch reply ok = absurd ok

  forgets : (c new : State C) (b : ℕ) (r : Option Reclaim) (reply : Reply C) → Forgets rules c b r reply new → Settles rules c new
  forgets c new b (Some r) (Cleans d) ok = settled c new _ ok.1 (record {
    stays = λ b p q. (refl, (p, q));
    listed = λ l. l;
    below = λ ok h a is. ok h a (forgotten_stays (not_among r.requeued r.listed) c.index h a is);
  })
  forgets c new b r reply ok = absurd ok

  cleans : (c new : State C) (b : ℕ) (well : Option Kind) (d : Destroy) (reply : Reply C) → CleansOne rules c b well d reply new → Settles rules c new
  cleans c new b well (Cleaning rest failed) reply ok = settled c new _ ok.1 (record { stays = λ b p q. (refl, (p, q)); listed = λ l. l; below = λ ok. ok })
  cleans c new b well NoDestroy reply ok = absurd ok
  cleans c new b well Begun reply ok = absurd ok

  destroys : (c new : State C) (reply : Reply C) → BeginsDestroy rules c reply new → Settles rules c new
  destroys c new (Destroying s) ok = settled c new _ ok.3 (record { stays = λ b p q. (refl, (p, q)); listed = λ l. l; below = λ ok. ok })
  destroys c new reply ok = absurd ok

  -- a reclaim and a destroy that begin take blocks
  abbrev pub TakesNone : Step C → Type 0
  TakesNone ReclaimBegin = ⊥
  TakesNone DestroyClear = ⊥
  TakesNone step = Unit {0}

  pub does_settle : (Splits : Splitting C) (c new : State C) (step : Step C) (reply : Reply C) → AreSets rules c
      → ((f : ℕ) (w : Writing C) → writing_in (c.flushers f).batch ≡ Some w → w.block < rules.blocks)
      → ((b : ℕ) → IsAt ToClean (c.reclaims b) → c.place b ≡ Reclaims) → InTurn rules c step → TakesNone step
      → Changes rules Splits c step reply new → Settles rules c new
  does_settle Splits c new (Enqueue h n age k) reply sets lt held turn none ok = enqueues c new h n age k reply ok
  does_settle Splits c new (Delete h) reply sets lt held turn none ok = deletes c new h reply ok
  does_settle Splits c new (Wait f i) reply sets lt held turn none ok = waits c new f i reply ok
  does_settle Splits c new (MayContains h) reply sets lt held turn none ok = settled c new c ok.1 (alike c)
  does_settle Splits c new (LoadBegin h throttled) reply sets lt held turn none ok = looks c new h throttled (c.index h) reply ok
  does_settle Splits c new (LoadEnd t came) reply sets lt held turn none ok = ends c new t came reply ok
  does_settle Splits c new (Receive f) reply sets lt held turn none ok = takes c new f (c.flushers f).queue reply ok
  does_settle Splits c new (FlushBegin f) reply sets lt held turn none ok = begins Splits c new f reply ok
  does_settle Splits c new (FlushBlock f) reply sets lt held turn none ok = issues c new f (c.flushers f).batch reply sets ok
  does_settle Splits c new (FlushWrote f good) reply sets lt held turn none ok = wrote c new f good (c.flushers f).batch reply (lt f) ok
  does_settle Splits c new (LogWrote f well) reply sets lt held turn none ok = logs c new f well (c.flushers f).batch reply ok
  does_settle Splits c new (FlushEnd f) reply sets lt held turn none ok = finishes c new f (c.flushers f).batch reply ok
  does_settle Splits c new ReclaimBegin reply sets lt held turn none ok = absurd none
  does_settle Splits c new (ReclaimRead b came) reply sets lt held turn none ok = reads c new b (c.reclaims b) came reply ok
  does_settle Splits c new (ReclaimForget b) reply sets lt held turn none ok = forgets c new b (c.reclaims b) reply ok
  does_settle Splits c new (ReclaimCleaned b well) reply sets lt held turn none ok = cleaned c new b reply sets (held b turn.1) ok
  does_settle Splits c new ReclaimIdle reply sets lt held turn none ok = settled c new c ok.1 (alike c)
  does_settle Splits c new DestroyBegin reply sets lt held turn none ok = destroys c new reply ok
  does_settle Splits c new DestroyClear reply sets lt held turn none ok = absurd none
  does_settle Splits c new (DestroyCleaned b well) reply sets lt held turn none ok = cleans c new b well c.destroy reply ok
  does_settle Splits c new Close reply sets lt held turn none ok = settled c new _ ok.1 (record { stays = λ b p q. (refl, (p, q)); listed = λ l. l; below = λ ok. ok })
