-- What is true of the sets of blocks and of who waits.
use Rattle.std.proofs.Common.{◌≡◌, ℕ, ◌+◌, ◌<◌, ◌≤◌, nat_lt, Bool, true, false, if◌then◌else◌, List, [], ◌∷◌, length, Option, Some, None, inl, inr, refl, sym, ap, subst, ◌∙◌, arith}
use Rattle.foyer_core_model.specs.Kind.{Kind}
use Rattle.foyer_core_model.specs.Numbers.{put, last_number, plus}
use Rattle.foyer_core_model.specs.Ids.{is_id_in, with_id, AreDistinct}
use Rattle.foyer_core_model.specs.Record.{Slot, Indexed, Mark, Outcome, NoRecord, Holds, IndexEntry}
use Rattle.foyer_core_model.specs.Position.{BlockLayout}
use Rattle.foyer_core_model.specs.State.{Submission, Piece, Remove, Await, Reinsert, Batch, Flusher, BlockSet, Clean, Writes, Evictable, Reclaims, Stage, AtIndex, AtRecord, ToClean, Reclaim, Destroy, NoDestroy, Begun, Cleaning, State}
use Rattle.foyer_core_model.specs.Rules.{Rules, flusher_of, Splitting}
use Rattle.foyer_core_model.specs.Step.{ReadResult, Bytes, Fault, Age, Ticket, Step, Enqueue, Delete, Wait, MayContains, LoadBegin, LoadEnd, Receive, FlushBegin, FlushBlock, FlushWrote, LogWrote, FlushEnd, ReclaimBegin, ReclaimRead, ReclaimForget, ReclaimCleaned, ReclaimIdle, DestroyBegin, DestroyClear, DestroyCleaned, Close}
use Rattle.foyer_core_model.specs.Reply.{Reply, NotNow, Refused, Ignored, Queued, Dropped, Deleted, Done, Miss, Throttled, Read, Entry, Empty, Received, Began, Written, NoBlock, Next, Committed, Failed, Ended, Picked, Cleans, Destroying, Cleared}
use Rattle.foyer_core_model.specs.Index.{unmarked}
use Rattle.foyer_core_model.specs.Queue.{Enqueues, Deletes, Waits}
use Rattle.foyer_core_model.specs.Load.{Looks, judged, Judges, Ends}
use Rattle.foyer_core_model.specs.Receive.{TakesFront}
use Rattle.foyer_core_model.specs.Flush.{invalidated_unless, released, first_usable, is_cleaning, commit_in, Begins, block_issued, clean_block, Describes, Wrote, Logs, Finishes}
use Rattle.foyer_core_model.specs.Reclaim.{Picks, Lists, Scanned, Rereads, Forgets, Cleaned}
use Rattle.foyer_core_model.specs.Destroy.{vacated, BeginsDestroy, Clears, CleansOne}
use Rattle.foyer_core_model.specs.InTurn.{IsAt, InTurn}
use Rattle.foyer_core_model.specs.Changes.{Changes}
use Rattle.foyer_core_model.specs.Follows.{Follows}
use Rattle.foyer_core_model.specs.Access.{came}
use Rattle.foyer_core_model.proofs.Basics.{put_at, put_other, put_one}
use Rattle.foyer_core_model.proofs.Ids.{same_in, later_in, in_append, in_front, in_without, distinct_without, distinct_with, in_with, in_not_in, distinct_front}
use Rattle.foyer_core_model.proofs.FlushEnds.{failed}
use Rattle.foyer_core_model.proofs.ReclaimSteps.{plus_one}

-- a clean block is in its set, a flusher that waits has no block, each flusher's block is there, and no block was filled
-- more often than there were steps
pub record AreSetsIn {C : Type 0} (blocks : ℕ) (bs fs : List ℕ) (place : ℕ → BlockSet) (count : ℕ → ℕ) (flushers : ℕ → Flusher C) (steps : ℕ) : Type 0 where
  pub clean : (b : ℕ) → is_id_in b bs ≡ true → (place b ≡ Clean) × (b < blocks)
  pub waiting : (f : ℕ) → is_id_in f fs ≡ true → ((flushers f).own ≡ None) × ((flushers f).ready ≡ None)
  pub distinct : AreDistinct fs
  pub own : (f b : ℕ) → (flushers f).own ≡ Some b → b < blocks
  pub ready : (f b : ℕ) → (flushers f).ready ≡ Some b → b < blocks
  pub filling : (b : ℕ) → count b ≤ steps

abbrev pub AreSets : {C : Type 0} → Rules C → State C → Type 0
AreSets rules c = AreSetsIn rules.blocks c.clean c.waiting c.place c.filling c.flushers c.steps

module _ {C : Type 0} (rules : Rules C) where
  pub fillings_few : (c : State C) → AreSets rules c → c.steps < last_number → (b : ℕ) → c.filling b < last_number
  fillings_few c sets few b = let le : c.filling b ≤ c.steps = sets.filling b in omega arith

  usable_in : (filling : ℕ → ℕ) (bs : List ℕ) (b : ℕ) → first_usable filling bs ≡ Some b → is_id_in b bs ≡ true
  usable_in filling [] b is = absurd (let e : None ≡ Some b = is in cc)
  usable_in filling (c ∷ bs) b is = go (nat_lt (filling c) last_number) is (usable_in filling bs b)
    where
      go : (t : Bool) → (if t then Some c else first_usable filling bs) ≡ Some b → (first_usable filling bs ≡ Some b → is_id_in b bs ≡ true) → is_id_in b (c ∷ bs) ≡ true
      go true e rec = subst (λ k. is_id_in k (c ∷ bs) ≡ true) (let f : Some c ≡ Some b = e in let g : c ≡ b = cc in g) (same_in c bs)
      go false e rec = later_in b c bs (rec e)

  -- the block that may be handed out is clean
  free_in : (c : State C) (b : ℕ) → clean_block rules c ≡ Some b → is_id_in b c.clean ≡ true
  free_in c b given = go (is_cleaning c.destroy) given
    where
      go : (t : Bool) → (if t then None else first_usable c.filling c.clean) ≡ Some b → is_id_in b c.clean ≡ true
      go true e = absurd (let f : None ≡ Some b = e in cc)
      go false e = usable_in c.filling c.clean b e

  pub clean_is : (c : State C) → AreSets rules c → (b : ℕ) → clean_block rules c ≡ Some b → c.place b ≡ Clean
  clean_is c sets b given = (sets.clean b (free_in c b given)).0

  pub clean_below : (c : State C) → AreSets rules c → (b : ℕ) → clean_block rules c ≡ Some b → b < rules.blocks
  clean_below c sets b given = (sets.clean b (free_in c b given)).1

  -- one step more
  counted : (c : State C) → AreSets rules c → AreSets rules (record c { steps = c.steps + 1 })
  counted c sets = record {
    clean = sets.clean;
    waiting = sets.waiting;
    distinct = sets.distinct;
    own = sets.own;
    ready = sets.ready;
    filling = λ b. let le : c.filling b ≤ c.steps = sets.filling b in omega arith;
  }

  -- a flusher keeps its blocks
  one_turned : (c : State C) (f : ℕ) (ψ : Flusher C) → ψ.own ≡ (c.flushers f).own → ψ.ready ≡ (c.flushers f).ready → AreSets rules c
      → AreSets rules (record c { flushers = put c.flushers f ψ; steps = c.steps + 1 })
  one_turned c f ψ own ready sets = record {
    clean = sets.clean;
    distinct = sets.distinct;
    waiting = put_one (λ q φ. is_id_in q c.waiting ≡ true → (φ.own ≡ None) × (φ.ready ≡ None)) c.flushers f ψ
        (λ is. let none : ((c.flushers f).own ≡ None) × ((c.flushers f).ready ≡ None) = sets.waiting f is in (own ∙ none.0, ready ∙ none.1))
        (λ q _. sets.waiting q);
    own = put_one (λ q φ. (b : ℕ) → φ.own ≡ Some b → b < rules.blocks) c.flushers f ψ (λ b is. sets.own f b (sym own ∙ is)) (λ q _. sets.own q);
    ready = put_one (λ q φ. (b : ℕ) → φ.ready ≡ Some b → b < rules.blocks) c.flushers f ψ (λ b is. sets.ready f b (sym ready ∙ is)) (λ q _. sets.ready q);
    filling = λ b. let le : c.filling b ≤ c.steps = sets.filling b in omega arith;
  }

  -- a clean block stays in its set if a flusher leaves its own block
  released_clean : (c : State C) (f : ℕ) (own : Option ℕ) → ((b : ℕ) → own ≡ Some b → c.place b ≡ Writes f) → (d : ℕ) → c.place d ≡ Clean → released own c.place d ≡ Clean
  released_clean c f None owned d is = is
  released_clean c f (Some b) owned d is =
      put_at (λ p. p ≡ Clean) c.place b Evictable d (λ at. absurd (let e : Clean ≡ Writes f = sym is ∙ ap c.place at ∙ owned b refl in cc)) (λ _. is)

  -- a flusher is issued its block
  issued_sets : (c : State C) (f b : ℕ) (batch : Batch C) (s : BlockLayout C) (rest : List (BlockLayout C)) → b < rules.blocks → AreSets rules c
      → AreSets rules (record (block_issued rules c f b batch s rest) { steps = c.steps + 1 })
  issued_sets c f b batch s rest lt sets = record {
    clean = sets.clean;
    distinct = distinct_without f c.waiting sets.distinct;
    waiting = λ q is. let r : (is_id_in q c.waiting ≡ true) × (q ≡ f → ⊥) = in_without q f c.waiting is in
        put_at (λ φ. (φ.own ≡ None) × (φ.ready ≡ None)) c.flushers f _ q (λ at. absurd (r.1 at)) (λ _. sets.waiting q r.0);
    own = put_one (λ q φ. (d : ℕ) → φ.own ≡ Some d → d < rules.blocks) c.flushers f _ (λ d is. subst (λ k. k < rules.blocks) (let e : Some b ≡ Some d = is in cc) lt) (λ q _. sets.own q);
    ready = put_one (λ q φ. (d : ℕ) → φ.ready ≡ Some d → d < rules.blocks) c.flushers f _ (λ d is. absurd (let e : None ≡ Some d = is in cc)) (λ q _. sets.ready q);
    filling = λ d. let le : c.filling d ≤ c.steps = sets.filling d in omega arith;
  }

  issues_sets : (c new : State C) (f : ℕ) (batch : Option (Batch C)) (reply : Reply C) → ((b : ℕ) → (c.flushers f).own ≡ Some b → c.place b ≡ Writes f)
      → Describes rules c f batch reply new → AreSets rules c → AreSets rules (record new { steps = c.steps + 1 })
  issues_sets c new f (Some batch) NoBlock owned ok sets =
      subst (λ k. AreSets rules (record k { steps = c.steps + 1 })) (sym ok.3)
      (record {
        clean = λ b is. let r : (c.place b ≡ Clean) × (b < rules.blocks) = sets.clean b is in (released_clean c f (c.flushers f).own owned b r.0, r.1);
        distinct = distinct_with f c.waiting sets.distinct;
        waiting = λ q is. put_one (λ q φ. is_id_in q (with_id f c.waiting) ≡ true → (φ.own ≡ None) × (φ.ready ≡ None)) c.flushers f (record (c.flushers f) { own = None })
            (λ _. (refl, ok.1))
            (λ q ne is. elim (in_with q f c.waiting is) [ inl there ↦ sets.waiting q there | inr at ↦ absurd (ne at) ]) q is;
        own = put_one (λ q φ. (d : ℕ) → φ.own ≡ Some d → d < rules.blocks) c.flushers f _ (λ d is. absurd (let e : None ≡ Some d = is in cc)) (λ q _. sets.own q);
        ready = put_one (λ q φ. (d : ℕ) → φ.ready ≡ Some d → d < rules.blocks) c.flushers f _ (sets.ready f) (λ q _. sets.ready q);
        filling = λ d. let le : c.filling d ≤ c.steps = sets.filling d in omega arith;
      })
  issues_sets c new f (Some batch) (Written b writes) owned (s, rest, blocks, all, which) sets =
      elim which [
        | inl (continues_own_block, own, eq) ↦ subst (λ k. AreSets rules (record k { steps = c.steps + 1 })) (sym eq) (issued_sets c f b batch s rest (sets.own f b own) sets)
        | inr (inl (fresh, ready, eq)) ↦ subst (λ k. AreSets rules (record k { steps = c.steps + 1 })) (sym eq) (issued_sets c f b batch s rest (sets.ready f b ready) sets)
        | inr (inr (fresh, ready, clean, eq)) ↦ subst (λ k. AreSets rules (record k { steps = c.steps + 1 })) (sym eq)
            (let issued : AreSets rules (record (block_issued rules c f b batch s rest) { steps = c.steps + 1 }) = issued_sets c f b batch s rest (clean_below c sets b clean) sets in
            record {
              clean = λ d is. let r : (is_id_in d c.clean ≡ true) × (d ≡ b → ⊥) = in_without d b c.clean is in
                  let was : (c.place d ≡ Clean) × (d < rules.blocks) = sets.clean d r.0 in
                  (put_other (released (c.flushers f).own c.place) b (Writes f) d r.1 ∙ released_clean c f (c.flushers f).own owned d was.0, was.1);
              distinct = issued.distinct;
              waiting = issued.waiting;
              own = issued.own;
              ready = issued.ready;
              filling = λ d. put_at (λ n. n ≤ c.steps + 1) c.filling b (c.filling b + 1) d
                  (λ _. let le : c.filling b ≤ c.steps = sets.filling b in omega arith) (λ _. let le : c.filling d ≤ c.steps = sets.filling d in omega arith);
            })
      ]
  issues_sets c new f batch reply owned ok sets = absurd ok

  wrote_sets : (c new : State C) (f : ℕ) (good : Bool) (batch : Option (Batch C)) (reply : Reply C) → ((b : ℕ) → (c.flushers f).own ≡ Some b → c.place b ≡ Writes f)
      → Wrote rules c f good batch reply new → AreSets rules c → AreSets rules (record new { steps = c.steps + 1 })
  wrote_sets c new f true (Some batch) Next owned (r, first, second, rest, writing, left, eq) sets =
      subst (λ k. AreSets rules (record k { steps = c.steps + 1 })) (sym eq) (one_turned c f _ refl refl sets)
  wrote_sets c new f true (Some batch) (Committed n) owned (r, last, writing, left, count, eq) sets =
      subst (λ k. AreSets rules (record k { steps = c.steps + 1 })) (sym eq) (one_turned (record c { index = (commit_in c r).index }) f _ refl refl sets)
  wrote_sets c new f good (Some batch) Failed owned (r, first, rest, writing, left, grown, eq) sets =
      subst (λ k. AreSets rules (record k { steps = c.steps + 1 })) (sym eq)
      (record {
        clean = λ b is. let q : (c.place b ≡ Clean) × (b < rules.blocks) = sets.clean b is in (released_clean c f (c.flushers f).own owned b q.0, q.1);
        distinct = sets.distinct;
        waiting = put_one (λ q φ. is_id_in q c.waiting ≡ true → (φ.own ≡ None) × (φ.ready ≡ None)) c.flushers f _ (λ is. (refl, (sets.waiting f is).1)) (λ q _. sets.waiting q);
        own = put_one (λ q φ. (d : ℕ) → φ.own ≡ Some d → d < rules.blocks) c.flushers f _ (λ d is. absurd (let e : None ≡ Some d = is in cc)) (λ q _. sets.own q);
        ready = put_one (λ q φ. (d : ℕ) → φ.ready ≡ Some d → d < rules.blocks) c.flushers f _ (sets.ready f) (λ q _. sets.ready q);
        filling = λ d. let le : c.filling d ≤ c.steps = sets.filling d in omega arith;
      })
  wrote_sets c new f good batch reply owned ok sets = absurd ok

  cleaned_sets : (c new : State C) (b : ℕ) (reply : Reply C) → b < rules.blocks → c.place b ≡ Reclaims → Cleaned rules c b reply new → AreSets rules c → AreSets rules (record new { steps = c.steps + 1 })
  cleaned_sets c new b Done lt at ok sets =
      elim ok [
        | inl (f, others, waits, room, eq) ↦ subst (λ k. AreSets rules (record k { steps = c.steps + 1 })) (sym eq)
            (let parts : AreDistinct others × (is_id_in f others ≡ false) = distinct_front f others (subst AreDistinct waits sets.distinct) in
            record {
              clean = λ d is. let was : (c.place d ≡ Clean) × (d < rules.blocks) = sets.clean d is in
                  (put_other c.place b (Writes f) d (λ e. let z : Clean ≡ Reclaims = sym was.0 ∙ ap c.place e ∙ at in cc) ∙ was.0, was.1);
              distinct = parts.0;
              waiting = put_one (λ q φ. is_id_in q others ≡ true → (φ.own ≡ None) × (φ.ready ≡ None)) c.flushers f _
                  (λ is. absurd (in_not_in f others is parts.1))
                  (λ q _ is. sets.waiting q (subst (λ l. is_id_in q l ≡ true) (sym waits) (in_front q others (f ∷ []) is)));
              own = put_one (λ q φ. (d : ℕ) → φ.own ≡ Some d → d < rules.blocks) c.flushers f _ (sets.own f) (λ q _. sets.own q);
              ready = put_one (λ q φ. (d : ℕ) → φ.ready ≡ Some d → d < rules.blocks) c.flushers f _ (λ d is. subst (λ k. k < rules.blocks) (let e : Some b ≡ Some d = is in cc) lt) (λ q _. sets.ready q);
              filling = λ d. put_at (λ n. n ≤ c.steps + 1) c.filling b (c.filling b + 1) d
                  (λ _. let le : c.filling b ≤ c.steps = sets.filling b in omega arith) (λ _. let le : c.filling d ≤ c.steps = sets.filling d in omega arith);
            })
        | inr (nobody, eq) ↦ subst (λ k. AreSets rules (record k { steps = c.steps + 1 })) (sym eq)
            (record {
              clean = λ d is. elim (in_append d b c.clean is) [
                | inl there ↦ (let was : (c.place d ≡ Clean) × (d < rules.blocks) = sets.clean d there in (put_at (λ p. p ≡ Clean) c.place b Clean d (λ _. refl) (λ _. was.0), was.1))
                | inr e ↦ (put_at (λ p. p ≡ Clean) c.place b Clean d (λ _. refl) (λ ne. absurd (ne e)), subst (λ k. k < rules.blocks) (sym e) lt)
              ];
              distinct = sets.distinct;
              waiting = sets.waiting;
              own = sets.own;
              ready = sets.ready;
              filling = λ d. let le : c.filling d ≤ c.steps = sets.filling d in omega arith;
            })
      ]
  cleaned_sets c new b reply lt at ok sets = absurd ok

  vacated_clean : (p : BlockSet) → p ≡ Clean → vacated p ≡ Clean
  vacated_clean p e = ap vacated e

  clears_sets : (c new : State C) (reply : Reply C) → c.steps < last_number → Clears rules c reply new → AreSets rules c → AreSets rules (record new { steps = c.steps + 1 })
  clears_sets c new (Cleared bs) few ok sets =
      subst (λ k. AreSets rules (record k { steps = c.steps + 1 })) (sym ok.1)
      (record {
        clean = λ b is. let was : (c.place b ≡ Clean) × (b < rules.blocks) = sets.clean b is in (vacated_clean (c.place b) was.0, was.1);
        distinct = sets.distinct;
        waiting = λ f is. (refl, refl);
        own = λ f d is. absurd (let e : None ≡ Some d = is in cc);
        ready = λ f d is. absurd (let e : None ≡ Some d = is in cc);
        filling = λ b. go b (nat_lt b rules.blocks);
      })
    where
      go : (b : ℕ) (t : Bool) → (if t then plus (c.filling b) 1 else c.filling b) ≤ c.steps + 1
      go b true = let p : plus (c.filling b) 1 ≡ c.filling b + 1 = plus_one (c.filling b) (fillings_few c sets few b) in let le : c.filling b ≤ c.steps = sets.filling b in omega arith
      go b false = let le : c.filling b ≤ c.steps = sets.filling b in omega arith
  clears_sets c new reply few ok sets = absurd ok

  picks_sets : (c new : State C) (reply : Reply C) → Picks rules c reply new → AreSets rules c → AreSets rules (record new { steps = c.steps + 1 })
  picks_sets c new (Picked b answers probation) ok sets =
      subst (λ k. AreSets rules (record k { steps = c.steps + 1 })) (sym ok.4)
      (record {
        clean = λ d is. let was : (c.place d ≡ Clean) × (d < rules.blocks) = sets.clean d is in
            (put_other c.place b Reclaims d (λ e. let z : Clean ≡ Evictable = sym was.0 ∙ ap c.place e ∙ ok.1 in cc) ∙ was.0, was.1);
        distinct = sets.distinct;
        waiting = sets.waiting;
        own = sets.own;
        ready = sets.ready;
        filling = λ d. let le : c.filling d ≤ c.steps = sets.filling d in omega arith;
      })
  picks_sets c new reply ok sets = absurd ok

  -- if the sets stay as they are

  alike : (c new expr : State C) → new ≡ expr → AreSets rules (record expr { steps = c.steps + 1 }) → AreSets rules (record new { steps = c.steps + 1 })
  alike c new expr eq ok = subst (λ k. AreSets rules (record k { steps = c.steps + 1 })) (sym eq) ok

  looks_sets : (c new : State C) (h : ℕ) (throttled : Bool) (slot : Option Slot) (reply : Reply C) → Looks rules c h throttled slot reply new → AreSets rules c → AreSets rules (record new { steps = c.steps + 1 })
  looks_sets c new h throttled None Miss ok sets = alike c new c ok (counted c sets)
  looks_sets c new h throttled (Some (Mark s)) Miss ok sets = alike c new c ok (counted c sets)
  looks_sets c new h throttled (Some (Indexed a)) Throttled ok sets = alike c new c ok.1 (counted c sets)
  looks_sets c new h throttled (Some (Indexed a)) Miss ok sets = alike c new _ ok.2 (counted c sets)
  looks_sets c new h throttled (Some (Indexed a)) (Read t) ok sets = alike c new _ ok.3 (counted c sets)
  looks_sets c new h throttled slot reply ok sets = absurd ok

  judges_sets : (c new : State C) (t : Ticket) (x : Outcome C) (reply : Reply C) → Judges rules c t x reply new → AreSets rules c → AreSets rules (record new { steps = c.steps + 1 })
  judges_sets c new t NoRecord Miss ok sets = alike c new _ ok (counted c sets)
  judges_sets c new t (Holds k) (Entry d age) ok sets = alike c new c ok.2 (counted c sets)
  judges_sets c new t x reply ok sets = absurd ok

  ends_sets : (c new : State C) (t : Ticket) (came : ReadResult) (reply : Reply C) → Ends rules c t came reply new → AreSets rules c → AreSets rules (record new { steps = c.steps + 1 })
  ends_sets c new t Fault reply ok sets = absurd ok
  ends_sets c new t (Bytes bs) reply ok sets = judges_sets c new t (judged rules c t bs) reply ok sets

  takes_sets : (c new : State C) (f : ℕ) (queue : List (Submission C)) (reply : Reply C) → TakesFront rules c f queue reply new → AreSets rules c → AreSets rules (record new { steps = c.steps + 1 })
  takes_sets c new f [] Empty ok sets = alike c new c ok (counted c sets)
  takes_sets c new f (Piece h s n k ∷ rest) (Received None) ok sets = alike c new _ ok.3 (one_turned c f _ refl refl sets)
  takes_sets c new f (Piece h s n k ∷ rest) (Received (Some d)) ok sets = alike c new _ ok.2 (one_turned c f _ refl refl sets)
  takes_sets c new f (Remove h s invalidated ∷ rest) (Received None) ok sets = alike c new _ ok (one_turned c f _ refl refl sets)
  takes_sets c new f (Await i ∷ rest) (Received None) ok sets = alike c new _ ok (one_turned c f _ refl refl sets)
  takes_sets c new f (Reinsert h bytes a ∷ rest) (Received None) ok sets =
      elim ok [
        | inl (held, fits, eq) ↦ alike c new _ eq (one_turned c f _ refl refl sets)
        | inr (dropped, eq) ↦ alike c new _ eq (one_turned c f _ refl refl sets)
      ]
  takes_sets c new f queue reply ok sets = absurd ok

  finishes_sets : (c new : State C) (f : ℕ) (batch : Option (Batch C)) (reply : Reply C) → Finishes rules c f batch reply new → AreSets rules c → AreSets rules (record new { steps = c.steps + 1 })
  finishes_sets c new f (Some batch) (Ended pieces waits) ok sets =
      alike c new _ ok.2 (one_turned (record c { index = unmarked batch.marks c.index; stats = invalidated_unless c.place c.filling batch.logged batch.invalidated c.stats }) f _ refl refl sets)
  finishes_sets c new f batch reply ok sets = absurd ok

  logs_sets : (c new : State C) (f : ℕ) (well : Bool) (batch : Option (Batch C)) (reply : Reply C) → Logs rules c f well batch reply new → AreSets rules c → AreSets rules (record new { steps = c.steps + 1 })
  logs_sets c new f well (Some batch) Done ok sets = alike c new _ ok (one_turned c f _ refl refl sets)
  logs_sets c new f well batch reply ok sets = absurd ok

  scanned_sets : (c new : State C) (b : ℕ) (r : Reclaim) (stage : Stage) (came : ReadResult) (reply : Reply C) → Scanned rules c b r stage came reply new → AreSets rules c → AreSets rules (record new { steps = c.steps + 1 })
  scanned_sets c new b r (AtIndex place) Fault reply ok sets = alike c new _ ok.1 (counted c sets)
  scanned_sets c new b r (AtRecord h a rest place) Fault reply ok sets = alike c new _ ok.1 (counted c sets)
  scanned_sets c new b r (AtIndex place) (Bytes bs) reply ok sets = lists (rules.entries_of place bs) ok
    where
      lists : (es : Option (List IndexEntry)) → Lists rules c b r place es reply new → AreSets rules (record new { steps = c.steps + 1 })
      lists None listed = alike c new _ listed.1 (counted c sets)
      lists (Some es) listed = alike c new _ listed.3 (counted c sets)
  scanned_sets c new b r (AtRecord h a rest place) (Bytes bs) reply ok sets = alike c new _ ok.1 (one_turned c (flusher_of rules (length r.requeued)) _ refl refl sets)
  scanned_sets c new b r stage came reply ok sets = absurd ok

  reads_sets : (c new : State C) (b : ℕ) (r : Option Reclaim) (came : ReadResult) (reply : Reply C) → Rereads rules c b r came reply new → AreSets rules c → AreSets rules (record new { steps = c.steps + 1 })
  reads_sets c new b None came reply ok sets = absurd ok
  reads_sets c new b (Some r) came reply ok sets = scanned_sets c new b r r.stage came reply ok sets

  forgets_sets : (c new : State C) (b : ℕ) (r : Option Reclaim) (reply : Reply C) → Forgets rules c b r reply new → AreSets rules c → AreSets rules (record new { steps = c.steps + 1 })
  forgets_sets c new b (Some r) (Cleans d) ok sets = alike c new _ ok.1 (counted c sets)
  forgets_sets c new b r reply ok sets = absurd ok

  cleans_sets : (c new : State C) (b : ℕ) (well : Option Kind) (d : Destroy) (reply : Reply C) → CleansOne rules c b well d reply new → AreSets rules c → AreSets rules (record new { steps = c.steps + 1 })
  cleans_sets c new b well (Cleaning left failed) reply ok sets = alike c new _ ok.1 (counted c sets)
  cleans_sets c new b well NoDestroy reply ok sets = absurd ok
  cleans_sets c new b well Begun reply ok sets = absurd ok

  deletes_sets : (c new : State C) (h : ℕ) (reply : Reply C) → Deletes rules c h reply new → AreSets rules c → AreSets rules (record new { steps = c.steps + 1 })
  deletes_sets c new h (Deleted s) ok sets = alike c new _ ok.3 (one_turned c (flusher_of rules h) _ refl refl sets)
  deletes_sets c new h reply ok sets = absurd ok

  enqueues_sets : (c new : State C) (h n : ℕ) (age : Age) (k : C) (reply : Reply C) → Enqueues rules c h n age k reply new → AreSets rules c → AreSets rules (record new { steps = c.steps + 1 })
  enqueues_sets c new h n age k (Dropped d s) ok sets = deletes_sets c new h (Deleted s) ok.3 sets
  enqueues_sets c new h n age k (Ignored d) ok sets = alike c new c ok.3 (counted c sets)
  enqueues_sets c new h n age k (Queued s) ok sets = alike c new _ ok.4 (one_turned c (flusher_of rules h) _ refl refl sets)
  enqueues_sets c new h n age k reply ok sets = absurd ok

  waits_sets : (c new : State C) (f i : ℕ) (reply : Reply C) → Waits rules c f i reply new → AreSets rules c → AreSets rules (record new { steps = c.steps + 1 })
  waits_sets c new f i Done ok sets = alike c new _ ok (one_turned c f _ refl refl sets)
  waits_sets c new f i reply ok sets = absurd ok

  destroys_sets : (c new : State C) (reply : Reply C) → BeginsDestroy rules c reply new → AreSets rules c → AreSets rules (record new { steps = c.steps + 1 })
  destroys_sets c new (Destroying s) ok sets = alike c new _ ok.3 (one_turned c (flusher_of rules 0) _ refl refl sets)
  destroys_sets c new reply ok sets = absurd ok

  begins_sets : (Splits : Splitting C) (c new : State C) (f : ℕ) (reply : Reply C) → Begins rules Splits c f reply new → AreSets rules c → AreSets rules (record new { steps = c.steps + 1 })
  begins_sets Splits c new f (Began blocks marks) ok sets = alike c new _ ok.2 (one_turned c f _ refl refl sets)
  begins_sets Splits c new f reply ok sets = absurd ok

  -- each step
  pub does_sets : (Splits : Splitting C) (c new : State C) (step : Step C) (reply : Reply C) → ((f b : ℕ) → (c.flushers f).own ≡ Some b → c.place b ≡ Writes f)
      → ((b : ℕ) (r : Reclaim) → c.reclaims b ≡ Some r → c.place b ≡ Reclaims) → c.steps < last_number → InTurn rules c step
      → Changes rules Splits c step reply new → AreSets rules c → AreSets rules (record new { steps = c.steps + 1 })
  does_sets Splits c new (Enqueue h n age k) reply owned held few turn ok sets = enqueues_sets c new h n age k reply ok sets
  does_sets Splits c new (Delete h) reply owned held few turn ok sets = deletes_sets c new h reply ok sets
  does_sets Splits c new (Wait f i) reply owned held few turn ok sets = waits_sets c new f i reply ok sets
  does_sets Splits c new (MayContains h) reply owned held few turn ok sets = alike c new c ok.1 (counted c sets)
  does_sets Splits c new (LoadBegin h throttled) reply owned held few turn ok sets = looks_sets c new h throttled (c.index h) reply ok sets
  does_sets Splits c new (LoadEnd t came) reply owned held few turn ok sets = ends_sets c new t came reply ok sets
  does_sets Splits c new (Receive f) reply owned held few turn ok sets = takes_sets c new f (c.flushers f).queue reply ok sets
  does_sets Splits c new (FlushBegin f) reply owned held few turn ok sets = begins_sets Splits c new f reply ok sets
  does_sets Splits c new (FlushBlock f) reply owned held few turn ok sets = issues_sets c new f (c.flushers f).batch reply (owned f) ok sets
  does_sets Splits c new (FlushWrote f well) reply owned held few turn ok sets = wrote_sets c new f well (c.flushers f).batch reply (owned f) ok sets
  does_sets Splits c new (LogWrote f well) reply owned held few turn ok sets = logs_sets c new f well (c.flushers f).batch reply ok sets
  does_sets Splits c new (FlushEnd f) reply owned held few turn ok sets = finishes_sets c new f (c.flushers f).batch reply ok sets
  does_sets Splits c new ReclaimBegin reply owned held few turn ok sets = picks_sets c new reply ok sets
  does_sets Splits c new (ReclaimRead b came) reply owned held few turn ok sets = reads_sets c new b (c.reclaims b) came reply ok sets
  does_sets Splits c new (ReclaimForget b) reply owned held few turn ok sets = forgets_sets c new b (c.reclaims b) reply ok sets
  does_sets Splits c new (ReclaimCleaned b well) reply owned held few turn ok sets = cleaned_sets c new b reply turn.0 (at_place (c.reclaims b) refl turn.1) ok sets
    where
      at_place : (r : Option Reclaim) → c.reclaims b ≡ r → IsAt ToClean r → c.place b ≡ Reclaims
      at_place None is at = absurd at
      at_place (Some r) is at = held b r is
  does_sets Splits c new ReclaimIdle reply owned held few turn ok sets = alike c new c ok.1 (counted c sets)
  does_sets Splits c new DestroyBegin reply owned held few turn ok sets = destroys_sets c new reply ok sets
  does_sets Splits c new DestroyClear reply owned held few turn ok sets = clears_sets c new reply few ok sets
  does_sets Splits c new (DestroyCleaned b well) reply owned held few turn ok sets = cleans_sets c new b well c.destroy reply ok sets
  does_sets Splits c new Close reply owned held few turn ok sets = alike c new _ ok.1 (counted c sets)

  pub follows_sets : (Splits : Splitting C) (c new : State C) (step : Step C) (reply : Reply C) → ((f b : ℕ) → (c.flushers f).own ≡ Some b → c.place b ≡ Writes f)
      → ((b : ℕ) (r : Reclaim) → c.reclaims b ≡ Some r → c.place b ≡ Reclaims)
      → Follows rules Splits c step reply new → AreSets rules c → AreSets rules new
  follows_sets Splits c new step (NotNow back) owned held ok sets = subst (AreSets rules) (sym ok.2) sets
  follows_sets Splits c new step (Refused kind back) owned held ok sets = subst (AreSets rules) (sym ok.2) sets
  follows_sets Splits c new step reply owned held (few, turn, (done, does, eq)) sets =
      subst (AreSets rules) (sym eq) (does_sets Splits c done step reply owned held few turn does sets)
