-- A load of a run: its read, and the step that brings what came.
use Rattle.std.proofs.Common.{◌≡◌, ℕ, ◌+◌, ◌<◌, ◌≤◌, ◌==◌, Bool, true, false, List, [], ◌∷◌, ◌++◌, ◌⊎◌, inl, inr, length, Option, Some, None, Result, Ok, Err, slice_get, slice_set, refl, sym, ap, subst, ◌∙◌, arith}
use Rattle.std.proofs.lemmas.Bool.Decides.{nat_tests}
use Rattle.std.proofs.lemmas.Option.{slice_get_within}
use Rattle.std.specs.Prelude.{IfOk, OnErr, vec_len}
use Rattle.std.specs.declared.vec.Vec.{Vec}
use Rattle.foyer_device_page.specs.declared.error.Error.{Error}
use Rattle.foyer_core_model.specs.Access.{Load, ReadState, ReadIssued, Reading, ReadDone, at_load, begun, came, loads_after, issued_after, block_writes_after, IsRead as IsReadFrom}
use Rattle.foyer_core_model.specs.Event as model_event
use Rattle.foyer_core_model.specs.Rules.{Rules}
use Rattle.foyer_core_model.specs.Step as model_step
use Rattle.foyer_core_model.specs.World.{World, Applies, ReadBegins, ReadEnds, covers, after, IsReadAt}
use Rattle.foyer_core_model.proofs.Basics.{put_same, put_other}
use Rattle.foyer_core_steps.specs.Asked.{ticket_of, came_of}
use Rattle.foyer_core_laws.specs.Content.{Content, Meaning}
use Rattle.foyer_core_steps.specs.Refines.{IsRefined}
use Rattle.foyer_core_laws.specs.CoreRules.{machine}
use Rattle.foyer_core_laws.specs.Sizes.{AreValid}
use Rattle.foyer_core_steps.specs.declared.reply.Reply.{Reply}
use Rattle.foyer_core_laws.specs.Settings.{Settings}
use Rattle.foyer_core_steps.specs.declared.state.Core.{Core}
use Rattle.foyer_core_steps.specs.declared.step.Step.TheVariants as step
use Rattle.foyer_core_steps.specs.declared.step.Ticket.{Ticket}
use Rattle.foyer_core_steps.proofs.ListLemmas.{set_here, set_there, set_count, some_is}
use Rattle.foyer_io_disk.specs.Disk.{IsRead}
use Rattle.foyer_core_run.specs.Causes.{HasReadCome, is_fault}
use Rattle.foyer_core_run.specs.Due.{unread}
use Rattle.foyer_core_run.specs.Running.{IsDue, IsMoved, IsRunning, at, issued_of, ticket_in, with_ticket}
use Rattle.foyer_core_run.specs.declared.moves.Asked.TheVariants as asks
use Rattle.foyer_core_run.specs.declared.moves.kept.Issued.{Issued}
use Rattle.foyer_core_access.specs.declared.reclaims.Part.{Part}
use Rattle.foyer_core_run.proofs.DueBlocks.{cleans_beside, scans_beside}
use Rattle.foyer_core_run.proofs.DueLemmas.{unread_is, block_writes_stay}
use Rattle.foyer_core_run.proofs.FaultLists.{or_none, unsure_read}
use Rattle.foyer_core_run.proofs.ListLemmas.{append_none, past_end, at_is}
use Rattle.foyer_core_run.proofs.StepLemmas.{AreUnread, due_more, unread_goes}

-- what a read of a ticket brought
abbrev pub IsCome : {A : Type 0} → (ℕ → ℕ → ℕ) → Ticket → Result (Vec ℕ A) Error → Type 0
IsCome bytes ticket (Ok got) =
    IsRead bytes ticket.address.block ticket.address.offset got.items × (length got.items ≡ ticket.address.len)
IsCome bytes ticket (Err e) = Unit {0}

pub come_is : {A : Type 0} (bytes : ℕ → ℕ → ℕ) (ticket : Ticket) (outcome : Result (Vec ℕ A) Error)
    → IfOk outcome (λ got. IsRead bytes ticket.address.block ticket.address.offset got.items) → IfOk outcome (λ got. vec_len got ≡ ticket.address.len)
    → IsCome bytes ticket outcome
come_is bytes ticket (Ok got) read len = (read, omega (arith, got.ok, len))
come_is bytes ticket (Err e) read len = tt

module _ {K V P : Type 0} (m : Meaning K V P) (s : Settings) (sound : AreValid s) where
  abbrev rules : Rules Content
  rules = machine m s sound

  -- a move whose read isn't due is passed over
  pub load_passes : {A : Type 0} (sure : ℕ → ℕ → ℕ → Type 0) (from : World Content) (n : ℕ) (tickets : List (Option Ticket)) (issued : List (Option Issued)) (scans : List (Option Part)) (cleans : List Bool) (said : List (Reply K V P A))
      (core : Core K V P A) (bytes : ℕ → ℕ → ℕ) (w : World Content) → IsRunning m s from tickets issued scans cleans said core bytes w → at (slice_get tickets n) ≡ None
      → IsMoved m s sound sure false from (asks.LoadEnd n) said tickets issued scans cleans said core bytes w
  load_passes sure from n tickets issued scans cleans said core bytes w running none = record {
    events = [];
    answers = [];
    happened = tt;
    made = inl ((refl, refl), go (slice_get tickets n) refl none);
    replies = sym (append_none said);
    causes = tt;
    faults = refl;
    running = running;
  }
    where
      go : (x : Option (Option Ticket)) → slice_get tickets n ≡ x → at x ≡ None → (unread (w.loads (from.issued + n)) ≡ None) ⊎ (w.issued ≤ from.issued + n)
      go (Some None) is e = inl (running.loads n None is)
      go (Some (Some t)) is e = absurd (let f : Some t ≡ None = e in cc)
      go None is e = inr (let past : length tickets ≤ n = past_end tickets n is in let count : w.issued ≡ from.issued + length tickets = running.count in omega arith)

  -- the world when the read has begun, and when it has ended
  abbrev pub begins : World Content → ℕ → World Content
  begins w k = after rules w (ReadBegins k)

  abbrev pub ends : World Content → ℕ → model_step.ReadResult → World Content
  ends w k result = after rules (begins w k) (ReadEnds k result)

  abbrev pub load_at : model_step.Ticket → Option (model_event.Event Content) → Option ℕ → ReadState → Load Content
  load_at t p k read_state = record { ticket = t; promise = p; read_state = read_state; kept = k }

  pub began : (w : World Content) (k : ℕ) (t : model_step.Ticket) (p : Option (model_event.Event Content)) (kept : Option ℕ) → w.loads k ≡ Some (load_at t p kept ReadIssued)
      → (begins w k).loads k ≡ Some (load_at t p kept (Reading (covers rules w t.address.block)))
  began w k t p kept is = put_same w.loads k (at_load (begun (covers rules w)) (w.loads k)) ∙ ap (at_load (begun (covers rules w))) is

  pub ended : (w : World Content) (k : ℕ) (result : model_step.ReadResult) (t : model_step.Ticket) (p : Option (model_event.Event Content)) (kept : Option ℕ) → w.loads k ≡ Some (load_at t p kept ReadIssued)
      → (ends w k result).loads k ≡ Some (load_at t p kept (ReadDone result))
  ended w k result t p kept is =
      put_same (begins w k).loads k (at_load (λ _. came result) ((begins w k).loads k)) ∙ ap (at_load (λ _. came result)) (began w k t p kept is)

  elsewhere : (w : World Content) (k j : ℕ) (result : model_step.ReadResult) → (j ≡ k → ⊥) → (ends w k result).loads j ≡ w.loads j
  elsewhere w k j result ne =
      put_other (begins w k).loads k (at_load (λ _. came result) ((begins w k).loads k)) j ne
      ∙ put_other w.loads k (at_load (begun (covers rules w)) (w.loads k)) j ne

  -- the disk's bytes are what the world's read gives
  pub gives : {A : Type 0} (w : World Content) (bytes : ℕ → ℕ → ℕ) (ticket : Ticket) (outcome : Result (Vec ℕ A) Error) (seen : ℕ → Bool) → ((b o : ℕ) → w.bytes b o ≡ bytes b o) → IsCome bytes ticket outcome
      → IsReadFrom (w.bytes ticket.address.block) ticket.address.offset ticket.address.len (Reading seen) (came_of outcome)
  gives w bytes ticket (Ok got) seen same is =
      (is.1, λ i lt free. is.0 i lt ∙ sym (same ticket.address.block (ticket.address.offset + i)))
  gives w bytes ticket (Err e) seen same is = tt

  pub load_moves : {A : Type 0} (sure : ℕ → ℕ → ℕ → Type 0) (from : World Content) (n : ℕ) (ticket : Ticket) (outcome : Result (Vec ℕ A) Error) (answer : Reply K V P A) (tickets tickets' : List (Option Ticket)) (issued : List (Option Issued)) (scans : List (Option Part)) (cleans : List Bool) (said said' : List (Reply K V P A))
      (old new : Core K V P A) (bytes : ℕ → ℕ → ℕ) (w : World Content) → IsRunning m s from tickets issued scans cleans said old bytes w
      → at (slice_get tickets n) ≡ Some ticket → IsCome bytes ticket outcome
      → OnErr outcome (sure ticket.address.block ticket.address.offset ticket.address.len → ⊥) → IsRefined m s sound (step.LoadEnd ticket outcome) answer new w.core
      → tickets' ≡ with_ticket (ticket_in answer) (slice_set tickets n None) → said' ≡ said ++ answer ∷ []
      → IsMoved m s sound sure (is_fault (came_of outcome)) from (asks.LoadEnd n) said tickets' issued scans cleans said' new bytes w
  load_moves sure from n ticket outcome answer tickets tickets' issued scans cleans said said' old new bytes w running is_due come unsure met ts ss = record {
    events = ReadBegins k ∷ ReadEnds k result ∷ Applies (model_step.LoadEnd t result) met.it met.after ∷ [];
    answers = answer ∷ [];
    happened = (
      tt,
      (
        subst (λ o. IsReadAt rules w.bytes o result) (sym (began w k t p kept is)) (gives w bytes ticket outcome (covers rules w t.address.block) running.same come),
        (((k, load_at t p kept (ReadDone result), ended w k result t p kept is, refl, refl), met.follows), tt),
      ),
    );
    made = inr (t, result, unread_at, record { it = met.it; after = met.after; answer = answer; is = refl; said_is = refl; reply = met.reply });
    replies = ss;
    causes = (tt, ((λ failed comes. unsure_read outcome unsure failed (subst (HasReadCome sure) (began w k t p kept is) comes)), (tt, tt)));
    faults = or_none (is_fault result);
    running = record {
      stands = met.stands;
      same = running.same;
      count = gone.0 ∙ ap (λ xs. from.issued + length xs) (sym ts);
      loads = subst (λ xs. AreUnread from.issued xs (loads_after met.it w.history w.kept w.issued w2.loads)) (sym ts) gone.1;
      flushers = running.flushers;
      writes = λ f. subst (λ xs. IsDue (from.block_writes f) xs (at (slice_get issued f)) (block_writes_after met.it (model_step.LoadEnd t result) w.block_writes f)) (sym ss)
          (due_more (from.block_writes f) said (answer ∷ []) (at (slice_get issued f)) _
          (subst (λ all. IsDue (from.block_writes f) said (at (slice_get issued f)) (all f)) (sym (block_writes_stay met.it (model_step.LoadEnd t result) w.block_writes tt)) (running.writes f)));
      blocks = running.blocks;
      due_scans = scans_beside from.scans scans met.it (model_step.LoadEnd t result) tt rules.index_size w.scans running.due_scans;
      due_cleans = cleans_beside from.clean_states cleans met.it (model_step.LoadEnd t result) tt w.clean_states running.due_cleans;
    };
  }
    where
      k : ℕ
      k = from.issued + n

      t : model_step.Ticket
      t = ticket_of ticket

      result : model_step.ReadResult
      result = came_of outcome

      listed : slice_get tickets n ≡ Some (Some ticket)
      listed = at_is (slice_get tickets n) ticket is_due

      unread_at : unread (w.loads k) ≡ Some t
      unread_at = running.loads n (Some ticket) listed

      found : (q : Option (model_event.Event Content)) × (j : Option ℕ) × (w.loads k ≡ Some (load_at t q j ReadIssued))
      found = unread_is (w.loads k) t unread_at

      p : Option (model_event.Event Content)
      p = found.0

      kept : Option ℕ
      kept = found.1

      is : w.loads k ≡ Some (load_at t p kept ReadIssued)
      is = found.2

      w2 : World Content
      w2 = ends w k result

      within : n < length tickets
      within = slice_get_within tickets n (Some ticket) listed

      left : AreUnread from.issued (slice_set tickets n None) w2.loads
      left j x here = go (j == n) refl
        where
          go : (e : Bool) → (j == n) ≡ e → unread (w2.loads (from.issued + j)) ≡ issued_of x
          go true e =
              let same : j ≡ n = grind (arith, nat_tests) in
              let none : None ≡ x = some_is (sym (set_here tickets n None within) ∙ ap (slice_get (slice_set tickets n None)) (sym same) ∙ here) in
              ap (λ i. unread (w2.loads (from.issued + i))) same ∙ ap unread (ended w k result t p kept is) ∙ ap issued_of none
          go false e =
              let ne : j ≡ n → ⊥ = λ same. grind (arith, nat_tests) in
              ap unread (elsewhere w k (from.issued + j) result (λ same. ne (omega arith)))
              ∙ running.loads j x (sym (set_there tickets n j None ne) ∙ here)

      gone : (issued_after met.it w.issued ≡ from.issued + length (with_ticket (ticket_in answer) (slice_set tickets n None))) × AreUnread from.issued (with_ticket (ticket_in answer) (slice_set tickets n None)) (loads_after met.it w.history w.kept w.issued w2.loads)
      gone = unread_goes m from.issued w.issued (slice_set tickets n None) w2.loads w.history w.kept answer met.it met.reply
          (running.count ∙ ap (λ c. from.issued + c) (sym (set_count tickets n None))) left
