-- A step of a run, without an access before it.
use Rattle.std.proofs.Common.{◌≡◌, ℕ, ◌+◌, ◌<◌, Bool, true, false, ◌&&◌, List, [], ◌∷◌, ◌++◌, ◌⊎◌, inl, inr, length, Option, Some, None, slice_get, refl, sym, ap, subst, ◌∙◌, arith}
use Rattle.foyer_format_record.specs.declared.serde.ages.Age.{Age}
use Rattle.foyer_core_model.specs.Access.{Load, BlockWrites, loads_after, issued_after, block_writes_after, scans_after, cleans_after}
use Rattle.foyer_core_model.specs.Event as model_event
use Rattle.foyer_core_model.specs.Reply as model_reply
use Rattle.foyer_core_model.specs.World.{World, Applies, IsFed}
use Rattle.foyer_core_model.proofs.Basics.{put_same, put_other}
use Rattle.foyer_core_steps.specs.Answered.{HandsBack}
use Rattle.foyer_core_steps.specs.Asked.{step_of, ticket_of}
use Rattle.foyer_core_laws.specs.Content.{Content, Meaning, content, meaning}
use Rattle.foyer_core_laws.specs.CoreRules.{layout}
use Rattle.foyer_core_steps.specs.Refines.{IsRefined}
use Rattle.foyer_core_laws.specs.CoreRules.{machine}
use Rattle.foyer_core_laws.specs.CoreRules.{IsEncoded}
use Rattle.foyer_core_steps.specs.Replied.{IsReply}
use Rattle.foyer_core_laws.specs.Sizes.{AreValid}
use Rattle.foyer_core_steps.specs.declared.reply.Reply.{Reply}
use Rattle.foyer_core_steps.specs.declared.reply.Reply.TheVariants as reply
use Rattle.foyer_core_laws.specs.Settings.{Settings}
use Rattle.foyer_core_steps.specs.declared.state.Core.{Core}
use Rattle.foyer_core_steps.specs.declared.step.Step.{Step}
use Rattle.foyer_core_steps.specs.declared.step.Step.TheVariants as step
use Rattle.foyer_core_steps.specs.declared.step.Ticket.{Ticket}
use Rattle.foyer_core_run.specs.Due.{unread}
use Rattle.foyer_core_run.specs.Running.{IsDue, IsFree, IsMoved, IsRunning, at, cleans_noted, issued_of, issuing_in, scans_noted, ticket_in, with_ticket}
use Rattle.foyer_core_run.specs.declared.moves.Asked.TheVariants as asks
use Rattle.foyer_core_run.specs.declared.moves.kept.Issued.{Issued}
use Rattle.foyer_core_access.specs.declared.reclaims.Part.{Part}
use Rattle.foyer_core_run.proofs.DueBlocks.{AreCleansDue, AreScansDue, cleans_go, scans_go}
use Rattle.foyer_core_run.proofs.DueLemmas.{loads_stay, issued_stays, block_writes_stay, IsBeside}
use Rattle.foyer_core_run.proofs.ListLemmas.{get_left, get_pushed, pushed_count}
use Rattle.foyer_core_run.proofs.ReplyLemmas.{no_read, reads}

-- the reads that are due
abbrev pub AreUnread : {C : Type 0} → ℕ → List (Option Ticket) → (ℕ → Option (Load C)) → Type 0
AreUnread first tickets loads = (n : ℕ) (x : Option Ticket) → slice_get tickets n ≡ Some x → unread (loads (first + n)) ≡ issued_of x

-- what can be encoded is encoded, whatever the key and the value
abbrev pub Encodes : {K V P : Type 0} → Meaning K V P → Type 0
Encodes {K} {V} m = (k : K) (v : V) → IsEncoded m.is_key m.is_value (content m k v)

pub and_both : (a b : Bool) → (a && b) ≡ true → (a ≡ true) × (b ≡ true)
and_both true true e = (refl, refl)
and_both true false e = absurd (let f : false ≡ true = e in cc)
and_both false b e = absurd (let f : false ≡ true = e in cc)

-- what codes say of what they encode
pub encodings_of : {K V P : Type 0} (key_of : K → List ℕ) (value_of : V → List ℕ) (encodes_key : K → Bool) (encodes_value : V → Bool) (is_key is_value : List ℕ → Bool) (age_of : P → Option Age)
    → ((k : K) → encodes_key k ≡ true → is_key (key_of k) ≡ true) → ((v : V) → encodes_value v ≡ true → is_value (value_of v) ≡ true)
    → Encodes (meaning key_of value_of encodes_key encodes_value is_key is_value age_of)
encodings_of key_of value_of encodes_key encodes_value is_key is_value age_of key value k v e =
    let both = and_both (encodes_key k) (encodes_value v) e in (key k both.0, value v both.1)

-- more replies keep what is due
pub due_more : {K V P A : Type 0} (before : BlockWrites) (said more : List (Reply K V P A)) (x : Option Issued) (pending : BlockWrites) → IsDue before said x pending → IsDue before (said ++ more) x pending
due_more before said more None pending is = is
due_more before said more (Some x) pending is = record {
  block = is.block;
  writes = is.writes;
  reply = get_left said more x.reply (reply.Write is.block is.writes) is.reply;
  due = is.due;
}

module _ {K V P A : Type 0} (m : Meaning K V P) where
  -- the reads that are due after a step
  pub unread_goes : (first issued : ℕ) (tickets : List (Option Ticket)) (loads : ℕ → Option (Load Content)) (H : List (model_event.Event Content)) (kept : ℕ → Option ℕ)
      (answer : Reply K V P A) (it : model_reply.Reply Content) → IsReply m answer it → issued ≡ first + length tickets → AreUnread first tickets loads
      → (issued_after it issued ≡ first + length (with_ticket (ticket_in answer) tickets)) × AreUnread first (with_ticket (ticket_in answer) tickets) (loads_after it H kept issued loads)
  unread_goes first issued tickets loads H kept answer it is count are = go (ticket_in answer) refl
    where
      pushed : (t : Ticket) (n : ℕ) (x : Option Ticket) → ((slice_get tickets n ≡ Some x) × (n < length tickets)) ⊎ ((n ≡ length tickets) × (Some t ≡ x))
          → unread (loads_after (model_reply.Read (ticket_of t)) H kept issued loads (first + n)) ≡ issued_of x
      pushed t n x (inl old) =
          ap unread (put_other loads issued _ (first + n) (λ same. let lt : n < length tickets = old.1 in omega arith)) ∙ are n x old.0
      pushed t n x (inr new) =
          let same : first + n ≡ issued = (let e : n ≡ length tickets = new.0 in omega arith) in
          ap (λ k. unread (loads_after (model_reply.Read (ticket_of t)) H kept issued loads k)) same
          ∙ ap unread (put_same loads issued _) ∙ ap issued_of new.1

      go : (o : Option Ticket) → ticket_in answer ≡ o
          → (issued_after it issued ≡ first + length (with_ticket o tickets)) × AreUnread first (with_ticket o tickets) (loads_after it H kept issued loads)
      go None e =
          let none = no_read m answer it e is in
          (issued_stays it issued none ∙ count, λ n x here. loads_stay it H kept issued loads (first + n) none ∙ are n x here)
      go (Some t) e =
          subst (λ r. (issued_after r issued ≡ first + length (tickets ++ Some t ∷ [])) × AreUnread first (tickets ++ Some t ∷ []) (loads_after r H kept issued loads))
          (sym (reads m answer it t e is)) (
            (let more : length (tickets ++ Some t ∷ []) ≡ length tickets + 1 = pushed_count tickets (Some t) in omega arith),
            λ n x here. pushed t n x (get_pushed tickets (Some t) n x here),
          )

  -- what is free of accesses issues and reports no write
  free_beside : (given : Step K V P A) → IsFree given → IsBeside (step_of m given)
  free_beside (step.LoadEnd ticket outcome) free = absurd free
  free_beside (step.FlushBlock f) free = absurd free
  free_beside (step.FlushWrote f outcome) free = absurd free
  free_beside given free = tt

  module _ (s : Settings) (sound : AreValid s) (encodes : Encodes m) where
    fed : (w : World Content) (given : Step K V P A) → IsFree given → IsFed (machine m s sound) (layout s) (IsEncoded m.is_key m.is_value) w (step_of m given)
    fed w (step.Enqueue piece size) free = (free, encodes piece.piece.key piece.piece.value)
    fed w (step.Delete hash) free = free
    fed w (step.LoadEnd ticket outcome) free = absurd free
    fed w (step.FlushWrote f outcome) free = absurd free
    fed w (step.ReclaimRead block outcome) free = absurd free
    fed w (step.ReclaimCleaned block outcome) free = absurd free
    fed w (step.DestroyCleaned block outcome) free = absurd free
    fed w given free = tt

    -- a step that brings no result and issues no write
    pub step_moves : (came : ℕ → ℕ → ℕ → Type 0) (from : World Content) (given : Step K V P A) (answer : Reply K V P A) (tickets tickets' : List (Option Ticket)) (issued : List (Option Issued)) (scans scans' : List (Option Part)) (cleans cleans' : List Bool) (said said' : List (Reply K V P A))
        (old new : Core K V P A) (bytes : ℕ → ℕ → ℕ) (w : World Content) → IsRunning m s from tickets issued scans cleans said old bytes w → IsFree given
        → HandsBack given answer old new → IsRefined m s sound given answer new w.core
        → tickets' ≡ with_ticket (ticket_in answer) tickets
        → scans' ≡ scans_noted (issuing_in given) s.blob_index_size answer scans → cleans' ≡ cleans_noted (issuing_in given) answer cleans → said' ≡ said ++ answer ∷ []
        → IsMoved m s sound came false from (asks.Step given) said tickets' issued scans' cleans' said' new bytes w
    step_moves came from given answer tickets tickets' issued scans scans' cleans cleans' said said' old new bytes w running free back met ts sc cl ss =
        let reads = unread_goes from.issued w.issued tickets w.loads w.history w.kept answer met.it met.reply running.count running.loads in
        let scanned = scans_go m s sound from given answer scans new w free met running.blocks.0 running.due_scans in
        let cleaned = cleans_go m s sound from given answer cleans new w free met running.blocks.1 running.due_cleans in
        record {
          events = Applies (step_of m given) met.it met.after ∷ [];
          answers = answer ∷ [];
          happened = ((fed w given free, met.follows), tt);
          made = record { it = met.it; after = met.after; answer = answer; is = refl; said_is = refl; reply = met.reply };
          replies = ss;
          causes = (tt, tt);
          faults = refl;
          running = record {
            stands = met.stands;
            same = running.same;
            count = reads.0 ∙ ap (λ xs. from.issued + length xs) (sym ts);
            loads = subst (λ xs. AreUnread from.issued xs (loads_after met.it w.history w.kept w.issued w.loads)) (sym ts) reads.1;
            flushers = running.flushers;
            writes = λ f. subst (λ xs. IsDue (from.block_writes f) xs (at (slice_get issued f)) (block_writes_after met.it (step_of m given) w.block_writes f)) (sym ss)
                (due_more (from.block_writes f) said (answer ∷ []) (at (slice_get issued f)) _
                (subst (λ all. IsDue (from.block_writes f) said (at (slice_get issued f)) (all f)) (sym (block_writes_stay met.it (step_of m given) w.block_writes (free_beside given free))) (running.writes f)));
            blocks = (ap length sc ∙ scanned.0, ap length cl ∙ cleaned.0);
            due_scans = subst (λ xs. AreScansDue from.scans xs (scans_after (machine m s sound).index_size met.it (step_of m given) w.scans)) (sym sc) scanned.1;
            due_cleans = subst (λ xs. AreCleansDue from.clean_states xs (cleans_after met.it (step_of m given) w.clean_states)) (sym cl) cleaned.1;
          };
        }
