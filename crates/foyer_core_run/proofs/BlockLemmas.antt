-- A step of a run that asks for a block.
use Rattle.std.proofs.Common.{◌≡◌, ℕ, ◌+◌, ◌<◌, Bool, false, List, [], ◌∷◌, ◌++◌, ◌⊎◌, inl, inr, map, length, Option, Some, None, slice_get, slice_set, refl, sym, ap, subst, ◌∙◌, arith}
use Rattle.std.specs.declared.vec.Vec.{Vec}
use Rattle.foyer_core_model.specs.Access.{BlockWrites, block_writes_after, writes_of, loads_after, issued_after}
use Rattle.foyer_core_model.specs.Reply as model_reply
use Rattle.foyer_core_model.specs.Step as model_step
use Rattle.foyer_core_model.specs.Follows.{Follows}
use Rattle.foyer_core_model.specs.World.{World, Applies}
use Rattle.foyer_core_model.proofs.Basics.{put_at}
use Rattle.foyer_core_laws.specs.Content.{Content, Meaning}
use Rattle.foyer_core_laws.specs.CoreRules.{layout}
use Rattle.foyer_core_steps.specs.Refines.{IsRefined}
use Rattle.foyer_core_laws.specs.CoreRules.{machine}
use Rattle.foyer_core_steps.specs.Replied.{IsReply}
use Rattle.foyer_core_steps.specs.Issuing.{write_of}
use Rattle.foyer_core_laws.specs.Sizes.{AreValid}
use Rattle.foyer_core_steps.specs.declared.reply.Reply.{Reply}
use Rattle.foyer_core_steps.specs.declared.reply.Reply.TheVariants as reply
use Rattle.foyer_core_steps.specs.Write.{Write}
use Rattle.foyer_core_laws.specs.Settings.{Settings}
use Rattle.foyer_core_steps.specs.declared.state.Core.{Core}
use Rattle.foyer_core_steps.specs.declared.step.Step.TheVariants as step
use Rattle.foyer_core_steps.specs.declared.step.Ticket.{Ticket}
use Rattle.foyer_core_steps.proofs.ListLemmas.{set_here, set_there, set_count}
use Rattle.foyer_core_run.specs.Running.{IsDue, IsMoved, IsRunning, at, block_in, ticket_in, with_ticket}
use Rattle.foyer_core_run.specs.declared.moves.Asked.TheVariants as asks
use Rattle.foyer_core_run.specs.declared.moves.kept.Issued.{Issued}
use Rattle.foyer_core_access.specs.declared.reclaims.Part.{Part}
use Rattle.foyer_core_run.proofs.DueBlocks.{cleans_beside, scans_beside}
use Rattle.foyer_core_run.proofs.DueLemmas.{block_writes_untold, due_of}
use Rattle.foyer_core_run.proofs.ListLemmas.{get_here}
use Rattle.foyer_core_run.proofs.ReplyLemmas.{no_write, writes_are}
use Rattle.foyer_core_run.proofs.StepLemmas.{AreUnread, due_more, unread_goes}

-- the first write of a block is next
abbrev pub first_issued : (block reply : ℕ) → Issued
first_issued block at = record { block = block; reply = at; next = 0 }

module _ {K V P A : Type 0} (m : Meaning K V P) (s : Settings) (sound : AreValid s) where
  -- what is due after writes were issued to a flusher that is there
  issued_due : (f b : ℕ) (before block_writes : ℕ → BlockWrites) (issued : List (Option Issued)) (said : List (Reply K V P A)) (writes : Vec (Write A) A) → f < length issued
      → ((g : ℕ) → IsDue (before g) said (at (slice_get issued g)) (block_writes g)) → (g : ℕ)
      → IsDue (before g) (said ++ reply.Write b writes ∷ []) (at (slice_get (slice_set issued f (Some (first_issued b (length said)))) g))
      (block_writes_after {C = Content} (model_reply.Written b (map write_of writes.items)) (model_step.FlushBlock f) block_writes g)
  issued_due f b before block_writes issued said writes lt are g =
      put_at (λ pending. IsDue (before g) (said ++ reply.Write b writes ∷ []) (at (slice_get (slice_set issued f (Some (first_issued b (length said)))) g)) pending)
      block_writes f (writes_of b (map write_of writes.items)) g here elsewhere
    where
      here : g ≡ f → IsDue (before g) (said ++ reply.Write b writes ∷ []) (at (slice_get (slice_set issued f (Some (first_issued b (length said)))) g)) (writes_of b (map write_of writes.items))
      here same =
          subst (λ x. IsDue (before g) (said ++ reply.Write b writes ∷ []) (at x) (writes_of b (map write_of writes.items)))
          (sym (ap (slice_get (slice_set issued f (Some (first_issued b (length said))))) same ∙ set_here issued f (Some (first_issued b (length said))) lt))
          (record {
            block = b;
            writes = writes;
            reply = get_here said (reply.Write b writes);
            due = due_of b (map write_of writes.items);
          })

      elsewhere : (g ≡ f → ⊥) → IsDue (before g) (said ++ reply.Write b writes ∷ []) (at (slice_get (slice_set issued f (Some (first_issued b (length said)))) g)) (block_writes g)
      elsewhere ne =
          subst (λ x. IsDue (before g) (said ++ reply.Write b writes ∷ []) (at x) (block_writes g)) (sym (set_there issued f g (Some (first_issued b (length said))) ne))
          (due_more (before g) said (reply.Write b writes ∷ []) (at (slice_get issued g)) (block_writes g) (are g))

  -- what the flusher's writes are noted as
  abbrev pub IsNoted : ℕ → Reply K V P A → ℕ → (old new : List (Option Issued)) → Type 0
  IsNoted f answer n old new =
      ((block_in answer ≡ None) × (new ≡ old))
      ⊎ ((b : ℕ) × (block_in answer ≡ Some b) × (new ≡ slice_set old f (Some (first_issued b n))))

  pub block_moves : (came : ℕ → ℕ → ℕ → Type 0) (from : World Content) (f : ℕ) (answer : Reply K V P A) (tickets tickets' : List (Option Ticket)) (issued issued' : List (Option Issued)) (scans : List (Option Part)) (cleans : List Bool) (said said' : List (Reply K V P A))
      (old new : Core K V P A) (bytes : ℕ → ℕ → ℕ) (w : World Content) → IsRunning m s from tickets issued scans cleans said old bytes w
      → IsRefined m s sound (step.FlushBlock f) answer new w.core → tickets' ≡ with_ticket (ticket_in answer) tickets → said' ≡ said ++ answer ∷ []
      → IsNoted f answer (length said) issued issued'
      → IsMoved m s sound came false from (asks.FlushBlock f) said tickets' issued' scans cleans said' new bytes w
  block_moves came from f answer tickets tickets' issued issued' scans cleans said said' old new bytes w running met ts ss noted = record {
    events = Applies (model_step.FlushBlock f) met.it met.after ∷ [];
    answers = answer ∷ [];
    happened = ((tt, met.follows), tt);
    made = record { it = met.it; after = met.after; answer = answer; is = refl; said_is = refl; reply = met.reply };
    replies = ss;
    causes = (tt, tt);
    faults = refl;
    running = record {
      stands = met.stands;
      same = running.same;
      count = gone.0 ∙ ap (λ xs. from.issued + length xs) (sym ts);
      loads = subst (λ xs. AreUnread from.issued xs (loads_after met.it w.history w.kept w.issued w.loads)) (sym ts) gone.1;
      flushers = (flushes noted).0;
      writes = (flushes noted).1;
      blocks = running.blocks;
      due_scans = scans_beside from.scans scans met.it (model_step.FlushBlock f) tt (machine m s sound).index_size w.scans running.due_scans;
      due_cleans = cleans_beside from.clean_states cleans met.it (model_step.FlushBlock f) tt w.clean_states running.due_cleans;
    };
  }
    where
      gone : (issued_after met.it w.issued ≡ from.issued + length (with_ticket (ticket_in answer) tickets)) × AreUnread from.issued (with_ticket (ticket_in answer) tickets) (loads_after met.it w.history w.kept w.issued w.loads)
      gone = unread_goes m from.issued w.issued tickets w.loads w.history w.kept answer met.it met.reply running.count running.loads

      flushes : IsNoted f answer (length said) issued issued'
          → (length issued' ≡ s.flushers) × ((g : ℕ) → IsDue (from.block_writes g) said' (at (slice_get issued' g)) (block_writes_after met.it (model_step.FlushBlock f) w.block_writes g))
      flushes (inl none) =
          let same : block_writes_after met.it (model_step.FlushBlock f) w.block_writes ≡ w.block_writes = block_writes_untold met.it f w.block_writes (no_write m answer met.it none.0 met.reply) in (
            ap length none.1 ∙ running.flushers,
            λ g. subst (λ xs. IsDue (from.block_writes g) xs (at (slice_get issued' g)) (block_writes_after met.it (model_step.FlushBlock f) w.block_writes g)) (sym ss)
                (subst (λ ys. IsDue (from.block_writes g) (said ++ answer ∷ []) (at (slice_get ys g)) (block_writes_after met.it (model_step.FlushBlock f) w.block_writes g)) (sym none.1)
                (due_more (from.block_writes g) said (answer ∷ []) (at (slice_get issued g)) _
                (subst (λ all. IsDue (from.block_writes g) said (at (slice_get issued g)) (all g)) (sym same) (running.writes g)))),
          )
      flushes (inr (b, is, noted_as)) =
          let written = writes_are answer b is in
          let it_is : met.it ≡ model_reply.Written b (map write_of (written.0).items) = subst (λ r. IsReply m r met.it) written.1 met.reply in
          let follows : Follows (machine m s sound) (layout s) w.core (model_step.FlushBlock f) (model_reply.Written b (map write_of (written.0).items)) met.after =
          subst (λ r. Follows (machine m s sound) (layout s) w.core (model_step.FlushBlock f) r met.after) it_is met.follows in
          let there : f < s.flushers = (follows.1).0 in
          let within : f < length issued = (let e : length issued ≡ s.flushers = running.flushers in omega arith) in (
            ap length noted_as ∙ set_count issued f (Some (first_issued b (length said))) ∙ running.flushers,
            λ g. subst (λ xs. IsDue (from.block_writes g) xs (at (slice_get issued' g)) (block_writes_after met.it (model_step.FlushBlock f) w.block_writes g)) (sym (ss ∙ ap (λ r. said ++ r ∷ []) written.1))
                (subst (λ ys. IsDue (from.block_writes g) (said ++ reply.Write b written.0 ∷ []) (at (slice_get ys g)) (block_writes_after met.it (model_step.FlushBlock f) w.block_writes g)) (sym noted_as)
                (subst (λ r. IsDue (from.block_writes g) (said ++ reply.Write b written.0 ∷ []) (at (slice_get (slice_set issued f (Some (first_issued b (length said)))) g)) (block_writes_after r (model_step.FlushBlock f) w.block_writes g)) (sym it_is)
                (issued_due f b from.block_writes w.block_writes issued said written.0 within running.writes g))),
          )

  -- a flusher that is issued writes is there
  pub flusher_there : (f b : ℕ) (answer : Reply K V P A) (new : Core K V P A) (w : World Content) → IsRefined m s sound (step.FlushBlock f) answer new w.core → block_in answer ≡ Some b → f < s.flushers
  flusher_there f b answer new w met is =
      let written = writes_are answer b is in
      let it_is : met.it ≡ model_reply.Written b (map write_of (written.0).items) = subst (λ r. IsReply m r met.it) written.1 met.reply in
      let follows : Follows (machine m s sound) (layout s) w.core (model_step.FlushBlock f) (model_reply.Written b (map write_of (written.0).items)) met.after =
      subst (λ r. Follows (machine m s sound) (layout s) w.core (model_step.FlushBlock f) r met.after) it_is met.follows in
      (follows.1).0
