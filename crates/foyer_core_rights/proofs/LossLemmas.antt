-- What is kept of the newest put is lost by the reclaim of its block alone.
use Rattle.std.proofs.Common.{◌≡◌, ◌⊎◌, inl, inr, ℕ, ◌==◌, nat_le, Bool, true, false, ◌&&◌, if◌then◌else◌, List, [], ◌∷◌, Option, Some, None, refl, sym, ap, ◌∙◌}
use Rattle.std.proofs.lemmas.Bool.{eqb-true, eqb-false}
use Rattle.foyer_core_model.specs.Numbers.{put}
use Rattle.foyer_core_model.specs.Record.{Address, Outcome, Source, Given, Reread, Record}
use Rattle.foyer_core_model.specs.Rules.{Rules}
use Rattle.foyer_core_model.specs.State.{Submission, Piece, Remove, Await, Reinsert, Writing, Batch, State}
use Rattle.foyer_core_model.specs.Event.{Event, Put, Deletion, newest, sequence_in, put_event, with_puts, puts_in, puts_of, with_returned, events_of}
use Rattle.foyer_core_model.specs.Kept.{with_kept, kept_in, kept_of, unless, kept_after}
use Rattle.foyer_core_model.specs.Flush.{commit_in}
use Rattle.foyer_core_model.specs.Opened.{IsOpened, block_among, recovered}
use Rattle.foyer_core_model.specs.Step.{Step, Enqueue, Delete, Receive, FlushWrote, ReclaimBegin, DestroyClear}
use Rattle.foyer_core_model.specs.Reply.{Reply, Dropped, Deleted, Received, Committed, Picked, Cleared}
use Rattle.foyer_core_model.specs.World.{World}
use Rattle.foyer_format_layout.specs.BlockBytes.{read}
use Rattle.foyer_core_model.proofs.Basics.{put_same, put_other, is_none_some}
use Rattle.foyer_core_model.proofs.CommitSteps.{newest_other}
use Rattle.foyer_core_rights.specs.Deeds.{Steps, ReadsAt, ScansAt, WritesAt, CleansAt, BeginsReclaim}
use Rattle.foyer_core_rights.specs.Serving.{LosesByReclaim}

-- what is kept, without a block that is picked
unless_picked : (b : ℕ) (o : Option ℕ) → ((c : ℕ) × (unless b o ≡ Some c)) ⊎ ((unless b o ≡ o) ⊎ (o ≡ Some b))
unless_picked b None = inr (inl refl)
unless_picked b (Some c) = go (c == b) refl
  where
    go : (t : Bool) → (c == b) ≡ t → ((d : ℕ) × ((if t then None else Some c) ≡ Some d)) ⊎ (((if t then None else Some c) ≡ Some c) ⊎ (Some c ≡ Some b))
    go true e = inr (inr (ap (λ (k : ℕ). Some k) (eqb-true c b e)))
    go false e = inl (c, refl)

module _ {C : Type 0} where
  -- a deletion in front leaves a put newest only if the put was newest before
  behind_deletion : (q u : ℕ) (H : List (Event C)) (h s : ℕ) (x : Outcome C) → newest h (Deletion q u ∷ H) ≡ Some (Put h s x) → newest h H ≡ Some (Put h s x)
  behind_deletion q u H h s x is = go (q == h && nat_le (sequence_in (newest h H)) u) is
    where
      go : (t : Bool) → (if t then Some (Deletion q u) else newest h H) ≡ Some (Put h s x) → newest h H ≡ Some (Put h s x)
      go true e = absurd (let f : Some (Deletion q u) ≡ Some (Put h s x) = e in cc)
      go false e = e

  behind_returned : (queue : List (Submission C)) (H : List (Event C)) (h s : ℕ) (x : Outcome C) → newest h (with_returned queue H) ≡ Some (Put h s x) → newest h H ≡ Some (Put h s x)
  behind_returned [] H h s x is = is
  behind_returned (Piece q u n c ∷ rest) H h s x is = behind_deletion q u H h s x is
  behind_returned (Remove q u invalidated ∷ rest) H h s x is = is
  behind_returned (Await i ∷ rest) H h s x is = is
  behind_returned (Reinsert q bytes a ∷ rest) H h s x is = is

  put_elsewhere : (source : Source C) (r : Record C) (H : List (Event C)) (h : ℕ) → (r.hash ≡ h → ⊥) → newest h (put_event r source H ∷ H) ≡ newest h H
  put_elsewhere (Given c) r H h ne = newest_other r.hash r.sequence _ H h ne
  put_elsewhere (Reread over) r H h ne = newest_other r.hash r.sequence _ H h ne

  -- after a commit of a block
  kept_by_puts : (b : ℕ) (rs : List (Record C)) (H : List (Event C)) (kept : ℕ → Option ℕ) (h s : ℕ) (x : Outcome C) → newest h (with_puts rs H) ≡ Some (Put h s x)
      → ((c : ℕ) × (with_kept b rs kept h ≡ Some c)) ⊎ ((newest h H ≡ Some (Put h s x)) × (with_kept b rs kept h ≡ kept h))
  kept_by_puts b [] H kept h s x is = inr (is, refl)
  kept_by_puts b (r ∷ rs) H kept h s x is =
      elim (kept_by_puts b rs (put_event r r.source H ∷ H) (put kept r.hash (Some b)) h s x is) [
        | inl some ↦ inl some
        | inr same ↦ go (h == r.hash) refl same.0 same.1
      ]
    where
      go : (t : Bool) → (h == r.hash) ≡ t → newest h (put_event r r.source H ∷ H) ≡ Some (Put h s x) → with_kept b rs (put kept r.hash (Some b)) h ≡ put kept r.hash (Some b) h
          → ((c : ℕ) × (with_kept b rs (put kept r.hash (Some b)) h ≡ Some c)) ⊎ ((newest h H ≡ Some (Put h s x)) × (with_kept b rs (put kept r.hash (Some b)) h ≡ kept h))
      go true e newer same = inl (b, same ∙ ap (λ q. put kept r.hash (Some b) q) (eqb-true h r.hash e) ∙ put_same kept r.hash (Some b))
      go false e newer same =
          inr (sym (put_elsewhere r.source r H h (λ at. eqb-false h r.hash e (sym at))) ∙ newer, same ∙ put_other kept r.hash (Some b) h (eqb-false h r.hash e))

  kept_by_batch : (old : State C) (batch : Option (Batch C)) (H : List (Event C)) (kept : ℕ → Option ℕ) (h s : ℕ) (x : Outcome C) → newest h (with_puts (puts_of old batch) H) ≡ Some (Put h s x)
      → ((c : ℕ) × (kept_of old batch kept h ≡ Some c)) ⊎ ((newest h H ≡ Some (Put h s x)) × (kept_of old batch kept h ≡ kept h))
  kept_by_batch old None H kept h s x is = inr (is, refl)
  kept_by_batch old (Some batch) H kept h s x is = go batch.writing is
    where
      go : (writing : Option (Writing C)) → newest h (with_puts (puts_in old writing) H) ≡ Some (Put h s x)
          → ((c : ℕ) × (kept_in old writing kept h ≡ Some c)) ⊎ ((newest h H ≡ Some (Put h s x)) × (kept_in old writing kept h ≡ kept h))
      go None e = inr (e, refl)
      go (Some w) e = kept_by_puts w.block (commit_in old w).puts H kept h s x e

  abbrev Loses : State C → Reply C → Step C → List (Event C) → (ℕ → Option ℕ) → ℕ → ℕ → Outcome C → State C → Type 0
  Loses old reply step H kept h s x new =
      ((b : ℕ) × (kept_after old reply step kept h ≡ Some b))
      ⊎ ((newest h H ≡ Some (Put h s x)) × ((kept_after old reply step kept h ≡ kept h) ⊎ ((b : ℕ) × BeginsReclaim (Steps step reply new) b × (kept h ≡ Some b))))

  loses_step : (old : State C) (reply : Reply C) (step : Step C) (H : List (Event C)) (kept : ℕ → Option ℕ) (h s : ℕ) (x : Outcome C) (new : State C)
      → newest h (events_of old reply step H) ≡ Some (Put h s x) → Loses old reply step H kept h s x new
  loses_step old (Deleted u) (Delete q) H kept h s x new is = inr (behind_deletion q u H h s x is, inl refl)
  loses_step old (Dropped d u) (Enqueue q n age c) H kept h s x new is = inr (behind_deletion q u H h s x is, inl refl)
  loses_step old (Received (Some d)) (Receive f) H kept h s x new is = inr (behind_returned (old.flushers f).queue H h s x is, inl refl)
  loses_step old (Committed n) (FlushWrote f ok) H kept h s x new is =
      elim (kept_by_batch old (old.flushers f).batch H kept h s x is) [ inl some ↦ inl some | inr same ↦ inr (same.0, inl same.1) ]
  loses_step old (Picked b answers probation) ReclaimBegin H kept h s x new is =
      elim (unless_picked b (kept h)) [ inl some ↦ inl some | inr other ↦ inr (is, elim other [ inl same ↦ inl same | inr at ↦ inr (b, refl, at) ]) ]
  loses_step old (Cleared bs) DestroyClear H kept h s x new is = absurd (is_none_some is)
  loses_step old reply step H kept h s x new is = inr (is, inl refl)

  pub loses : LosesByReclaim C
  loses rules w (Steps step reply new) h s x is = loses_step w.core reply step w.history w.kept h s x new is
  loses rules w (ReadsAt n result) h s x is = inr (is, inl refl)
  loses rules w (ScansAt b result) h s x is = inr (is, inl refl)
  loses rules w (WritesAt f ok torn) h s x is = inr (is, inl refl)
  loses rules w (CleansAt b ok torn) h s x is = inr (is, inl refl)

  -- whatever an opening found is kept
  found_kept : (rules : Rules C) (bytes : ℕ → ℕ → ℕ) (h : ℕ) (e : Event C) (found : List (ℕ × Address)) → newest h (recovered rules bytes found) ≡ Some e
      → (b : ℕ) × (block_among h found ≡ Some b)
  found_kept rules bytes h e [] is = absurd (is_none_some is)
  found_kept rules bytes h e (p ∷ ps) is = go (found_kept rules bytes h e ps) (p.0 == h) is
    where
      go : (newest h (recovered rules bytes ps) ≡ Some e → (b : ℕ) × (block_among h ps ≡ Some b)) → (t : Bool)
          → (if t && nat_le (sequence_in (newest h (recovered rules bytes ps))) (p.1).sequence then Some (Put p.0 (p.1).sequence (rules.pair_of (read (bytes (p.1).block) (p.1).offset (p.1).len) p.0 (p.1).sequence)) else newest h (recovered rules bytes ps)) ≡ Some e
          → (b : ℕ) × ((if t then Some (p.1).block else block_among h ps) ≡ Some b)
      go behind true here = ((p.1).block, refl)
      go behind false here = behind here

  pub opened_kept : (rules : Rules C) (w : World C) (h : ℕ) (e : Event C) → IsOpened rules w → newest h w.history ≡ Some e → (b : ℕ) × (w.kept h ≡ Some b)
  opened_kept rules w h e opened is =
      let some = found_kept rules w.bytes h e opened.found (ap (newest h) (sym opened.history) ∙ is) in (some.0, opened.kept h ∙ some.1)
