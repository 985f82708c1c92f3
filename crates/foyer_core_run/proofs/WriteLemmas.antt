-- A write of a run, and the step that reports it.
use Rattle.std.proofs.Common.{◌≡◌, ℕ, ◌+◌, ◌-◌, ◌<◌, ◌≤◌, ◌==◌, nat_le, nat_lt, Bool, true, false, not, ◌&&◌, if◌then◌else◌, List, [], ◌∷◌, ◌++◌, ◌⊎◌, inl, inr, drop, map, length, Option, Some, None, Result, Ok, Err, slice_get, slice_set, slice_index, refl, sym, ap, subst, ◌∙◌, arith}
use Rattle.std.proofs.lemmas.Bool.Decides.{nat_tests}
use Rattle.std.proofs.lemmas.Option.{slice_get_within}
use Rattle.std.specs.Prelude.{OnOk, OnErr}
use Rattle.std.specs.declared.vec.Vec.{Vec}
use Rattle.foyer_device_page.specs.declared.error.Error.{Error}
use Rattle.foyer_core_model.specs.Access.{BlockWrites, Issued as IssuesWrites, InFlight, will_cover, writes_begun, writes_ended, bytes_ended, result_of, loads_after, issued_after, block_writes_after, IsTorn as IsTornIn}
use Rattle.foyer_format_layout.specs.BlockBytes as layout
use Rattle.foyer_format_layout.specs.BlockBytes.{laid}
use Rattle.foyer_core_model.specs.Rules.{Rules}
use Rattle.foyer_core_model.specs.Step as model_step
use Rattle.foyer_core_model.specs.World.{World, Applies, WriteBegins, WriteEnds, after}
use Rattle.foyer_core_model.proofs.Basics.{put_at, put_same, put_other}
use Rattle.foyer_core_steps.specs.Asked.{went_well}
use Rattle.foyer_core_laws.specs.Content.{Content, Meaning}
use Rattle.foyer_core_steps.specs.Refines.{IsRefined}
use Rattle.foyer_core_laws.specs.CoreRules.{machine}
use Rattle.foyer_core_steps.specs.Replied.{IsReply}
use Rattle.foyer_core_steps.specs.Issuing.{write_of, written_bytes}
use Rattle.foyer_core_laws.specs.Sizes.{AreValid}
use Rattle.foyer_core_steps.specs.declared.reply.Reply.{Reply}
use Rattle.foyer_core_steps.specs.declared.reply.Reply.TheVariants as reply
use Rattle.foyer_core_steps.specs.Write.{Write}
use Rattle.foyer_core_laws.specs.Settings.{Settings}
use Rattle.foyer_core_steps.specs.declared.state.Core.{Core}
use Rattle.foyer_core_steps.specs.declared.step.Step.TheVariants as step
use Rattle.foyer_core_steps.specs.declared.step.Ticket.{Ticket}
use Rattle.foyer_core_steps.proofs.ListLemmas.{set_here, set_there, set_count}
use Rattle.foyer_io_disk.specs.Disk.{IsTorn, IsWritten}
use Rattle.foyer_core_run.specs.Causes.{HasWriteCome}
use Rattle.foyer_core_run.specs.Due.{due}
use Rattle.foyer_core_run.specs.Running.{IsDue, IsMoved, IsRunning, IsIssued, at, next_of, ticket_in, with_ticket, write_at}
use Rattle.foyer_core_run.specs.declared.moves.Asked.TheVariants as asks
use Rattle.foyer_core_run.specs.declared.moves.kept.Issued.{Issued}
use Rattle.foyer_core_access.specs.declared.reclaims.Part.{Part}
use Rattle.foyer_core_run.proofs.DueBlocks.{cleans_beside, scans_beside, scans_torn}
use Rattle.foyer_core_run.proofs.DueLemmas.{due_is, due_next, due_ended, due_failed, block_writes_elsewhere, unread_torn}
use Rattle.foyer_core_run.proofs.FaultLists.{or_none, unsure_failed}
use Rattle.foyer_core_run.proofs.ListLemmas.{append_none, at_is, drop_at, drop_past, get_left}
use Rattle.foyer_core_run.proofs.ReplyLemmas.{no_next}
use Rattle.foyer_core_run.proofs.StepLemmas.{AreUnread, due_more, unread_goes}

-- a reply that issues no writes has none
pub none_at_all : {K V P A : Type 0} (answer : Reply K V P A) (n : ℕ) → ((b : ℕ) (ws : Vec (Write A) A) → answer ≡ reply.Write b ws → ⊥) → write_at (Some answer) n ≡ None
none_at_all (reply.Write b ws) n not = absurd (not b ws refl)
none_at_all answer n not = refl

-- what a write of a block did
abbrev pub IsDone : {A : Type 0} → (old new : ℕ → ℕ → ℕ) → (block : ℕ) → Write A → Bool → Type 0
IsDone old new block w true = IsWritten old block w.offset (written_bytes w.bytes) new
IsDone old new block w false = IsTorn old block w.offset (length (written_bytes w.bytes)) new

pub done_is : {A X : Type 0} (old new : ℕ → ℕ → ℕ) (block : ℕ) (w : Write A) (outcome : Result X Error)
    → OnOk outcome (IsWritten old block w.offset (written_bytes w.bytes) new) → OnErr outcome (IsTorn old block w.offset (length (written_bytes w.bytes)) new)
    → IsDone old new block w (went_well outcome)
done_is old new block w (Ok x) wrote torn = wrote
done_is old new block w (Err e) wrote torn = torn

-- and the one after it is next
abbrev pub next_issued : Issued → Issued
next_issued x = record { block = x.block; reply = x.reply; next = x.next + 1 }

beside : (at offset n : ℕ) → (nat_le offset at && nat_lt at (offset + n)) ≡ false → (at < offset) ⊎ (offset + n ≤ at)
beside at offset n e = go (nat_le offset at) refl
  where
    go : (t : Bool) → nat_le offset at ≡ t → (at < offset) ⊎ (offset + n ≤ at)
    go true le = inr (go2 (nat_lt at (offset + n)) refl)
      where
        go2 : (u : Bool) → nat_lt at (offset + n) ≡ u → offset + n ≤ at
        go2 true lt = absurd (let f : true ≡ false = sym (ap (λ v. v && nat_lt at (offset + n)) le ∙ lt) ∙ e in cc)
        go2 false ge = grind (arith, nat_tests)
    go false gt = inl (grind (arith, nat_tests))

inside : (at offset n : ℕ) → (nat_le offset at && nat_lt at (offset + n)) ≡ true → (offset ≤ at) × (at < offset + n)
inside at offset n e = go (nat_le offset at) refl
  where
    go : (t : Bool) → nat_le offset at ≡ t → (offset ≤ at) × (at < offset + n)
    go true le =
        let lt : nat_lt at (offset + n) ≡ true = sym (ap (λ v. v && nat_lt at (offset + n)) le) ∙ e in
        (grind (arith, nat_tests), grind (arith, nat_tests))
    go false gt = absurd (let f : false ≡ true = sym (ap (λ v. v && nat_lt at (offset + n)) gt) ∙ e in cc)

-- the bytes of a write are stored where the write was
laid_is : {A : Type 0} (old new : ℕ → ℕ → ℕ) (block : ℕ) (w : Write A) (g : ℕ → ℕ) → ((o : ℕ) → g o ≡ old block o)
    → IsWritten old block w.offset (written_bytes w.bytes) new → (o : ℕ) → laid (write_of w) g o ≡ new block o
laid_is old new block w g same is o = go (nat_le w.offset o && nat_lt o (w.offset + length (written_bytes w.bytes))) refl
  where
    go : (t : Bool) → (nat_le w.offset o && nat_lt o (w.offset + length (written_bytes w.bytes))) ≡ t
        → (if t then slice_index (written_bytes w.bytes) (o - w.offset) else g o) ≡ new block o
    go true e =
        let within = inside o w.offset (length (written_bytes w.bytes)) e in
        let back : w.offset + (o - w.offset) ≡ o = (let le : w.offset ≤ o = within.0 in omega arith) in
        is.0 (o - w.offset) (let le : w.offset ≤ o = within.0 in let lt : o < w.offset + length (written_bytes w.bytes) = within.1 in omega arith)
        ∙ ap (new block) back
    go false e = same o ∙ sym (is.1 block o (inr (beside o w.offset (length (written_bytes w.bytes)) e)))

-- what a write of this outcome leaves in its block
abbrev pub torn_of : Bool → (old new : ℕ → ℕ) → ℕ → ℕ
torn_of true old new = old
torn_of false old new = new

pub bytes_are : {A : Type 0} (ok : Bool) (bytes old new : ℕ → ℕ → ℕ) (block : ℕ) (w : Write A) (ws : List layout.Write) → ((b o : ℕ) → bytes b o ≡ old b o)
    → IsDone old new block w ok → (b o : ℕ) → bytes_ended ok (torn_of ok (bytes block) (new block)) (InFlight block [] (write_of w) ws) bytes b o ≡ new b o
bytes_are true bytes old new block w ws same is b o =
    put_at (λ h. h o ≡ new b o) bytes block (laid (write_of w) (bytes block)) b
    (λ here. laid_is old new block w (bytes block) (same block) is o ∙ ap (λ c. new c o) (sym here))
    (λ ne. same b o ∙ sym (is.1 b o (inl ne)))
bytes_are false bytes old new block w ws same is b o =
    put_at (λ h. h o ≡ new b o) bytes block (new block) b
    (λ here. ap (λ c. new c o) (sym here))
    (λ ne. same b o ∙ sym (is b o (inl ne)))

pub torn_is : {A : Type 0} (ok : Bool) (bytes old new : ℕ → ℕ → ℕ) (block : ℕ) (w : Write A) (ws : List layout.Write) → ((b o : ℕ) → bytes b o ≡ old b o)
    → IsDone old new block w ok → IsTornIn bytes (InFlight block [] (write_of w) ws) (torn_of ok (bytes block) (new block))
torn_is true bytes old new block w ws same is o out = refl
torn_is false bytes old new block w ws same is o out = is block o (inr out) ∙ sym (same block o)

module _ {K V P : Type 0} (m : Meaning K V P) (s : Settings) (sound : AreValid s) where
  abbrev rules : Rules Content
  rules = machine m s sound

  -- a move whose write isn't due is passed over
  pub write_passes : {A : Type 0} (sure : ℕ → ℕ → ℕ → Type 0) (from : World Content) (f : ℕ) (tickets : List (Option Ticket)) (issued : List (Option Issued)) (scans : List (Option Part)) (cleans : List Bool) (said : List (Reply K V P A))
      (core : Core K V P A) (bytes : ℕ → ℕ → ℕ) (w : World Content) → IsRunning m s from tickets issued scans cleans said core bytes w
      → (due (w.block_writes f) ≡ None) ⊎ (w.block_writes f ≡ from.block_writes f)
      → IsMoved m s sound sure false from (asks.FlushWrote f) said tickets issued scans cleans said core bytes w
  write_passes sure from f tickets issued scans cleans said core bytes w running none = record {
    events = [];
    answers = [];
    happened = tt;
    made = inl ((refl, refl), none);
    replies = sym (append_none said);
    causes = tt;
    faults = refl;
    running = running;
  }

  -- if no note of a write is kept, none is due, or none was issued in this run
  pub none_noted : {A : Type 0} (before : BlockWrites) (said : List (Reply K V P A)) (x : Option Issued) (pending : BlockWrites) → IsDue before said x pending → x ≡ None
      → (due pending ≡ None) ⊎ (pending ≡ before)
  none_noted before said None pending is e = elim is [ inl same ↦ inr same | inr none ↦ inl none ]
  none_noted before said (Some x) pending is e = absurd (let f : Some x ≡ None = e in cc)

  -- the note of a write that is kept
  pub noted : {A : Type 0} (before : BlockWrites) (said : List (Reply K V P A)) (x : Option Issued) (y : Issued) (pending : BlockWrites) → IsDue before said x pending → x ≡ Some y → IsIssued said y pending
  noted before said x y pending is e = subst (λ z. IsDue before said z pending) e is

  -- the writes that are left
  left_writes : {A : Type 0} (said : List (Reply K V P A)) (x : Issued) (pending : BlockWrites) → (is : IsIssued said x pending) → write_at (slice_get said x.reply) x.next ≡ slice_get is.writes.items x.next
  left_writes said x pending is = ap (λ o. write_at o x.next) is.reply

  -- if no write is left, none is due
  pub none_left : {A : Type 0} (said : List (Reply K V P A)) (x : Issued) (pending : BlockWrites) → IsIssued said x pending → write_at (slice_get said x.reply) x.next ≡ None → due pending ≡ None
  none_left said x pending is none =
      is.due ∙ ap (λ ws. next_of x.block (map write_of ws)) (drop_past is.writes.items x.next (sym (left_writes said x pending is) ∙ none))

  -- how the write is noted afterwards: as the block's next write if it has another
  abbrev pub IsNotedOn : {A : Type 0} → ℕ → Issued → Bool → Reply K V P A → (old new : List (Option Issued)) → Type 0
  IsNotedOn f x ok answer old new =
      ((ok ≡ true) × (answer ≡ reply.Next) × (new ≡ slice_set (slice_set old f None) f (Some (next_issued x))))
      ⊎ (((ok ≡ false) ⊎ (answer ≡ reply.Next → ⊥)) × (new ≡ slice_set old f None))

  pub write_moves : {A : Type 0} (sure : ℕ → ℕ → ℕ → Type 0) (from : World Content) (f : ℕ) (x : Issued) (write : Write A) (outcome : Result Unit Error) (answer : Reply K V P A)
      (tickets tickets' : List (Option Ticket)) (issued issued' : List (Option Issued)) (scans : List (Option Part)) (cleans : List Bool) (said said' : List (Reply K V P A)) (old new : Core K V P A) (bytes bytes' : ℕ → ℕ → ℕ) (w : World Content)
      → IsRunning m s from tickets issued scans cleans said old bytes w
      → at (slice_get issued f) ≡ Some x → write_at (slice_get said x.reply) x.next ≡ Some write
      → IsDone bytes bytes' x.block write (went_well outcome) → OnErr outcome (sure x.block write.offset (length (written_bytes write.bytes)) → ⊥)
      → IsRefined m s sound (step.FlushWrote f outcome) answer new w.core
      → tickets' ≡ with_ticket (ticket_in answer) tickets → said' ≡ said ++ answer ∷ [] → IsNotedOn f x (went_well outcome) answer issued issued'
      → IsMoved m s sound sure (not (went_well outcome)) from (asks.FlushWrote f) said tickets' issued' scans cleans said' new bytes' w
  write_moves sure from f x write outcome answer tickets tickets' issued issued' scans cleans said said' old new bytes bytes' w running is_due is_next done unsure met ts ss noted_on = record {
    events = WriteBegins f ∷ WriteEnds f ok torn ∷ Applies (model_step.FlushWrote f ok) met.it met.after ∷ [];
    answers = answer ∷ [];
    happened = (
      tt,
      (subst (λ pending. IsTornIn w.bytes pending torn) (sym under) (torn_is ok w.bytes bytes bytes' x.block write rest running.same done), ((reported, met.follows), tt)),
    );
    made = inr (
      ok,
      torn,
      (λ none. let e : Some (x.block, write_of write ∷ rest) ≡ None = sym due_at ∙ none in cc),
      record { it = met.it; after = met.after; answer = answer; is = refl; said_is = refl; reply = met.reply },
    );
    replies = ss;
    causes = (tt, ((λ failed comes. unsure_failed outcome unsure failed (subst (HasWriteCome sure) under comes)), (tt, tt)));
    faults = or_none (not ok);
    running = record {
      stands = met.stands;
      same = λ b o. subst (λ pending. bytes_ended ok torn pending w.bytes b o ≡ bytes' b o) (sym under) (bytes_are ok w.bytes bytes bytes' x.block write rest running.same done b o);
      count = gone.0 ∙ ap (λ xs. from.issued + length xs) (sym ts);
      loads = subst (λ xs. AreUnread from.issued xs (loads_after met.it w.history w.kept w.issued w1.loads)) (sym ts) gone.1;
      flushers = counted noted_on ∙ running.flushers;
      writes = λ g. flushes g (g == f) refl;
      blocks = running.blocks;
      due_scans = scans_beside from.scans scans met.it (model_step.FlushWrote f ok) tt rules.index_size w1.scans (scans_torn from.scans scans (will_cover (w.block_writes f)) w.scans running.due_scans);
      due_cleans = cleans_beside from.clean_states cleans met.it (model_step.FlushWrote f ok) tt w.clean_states running.due_cleans;
    };
  }
    where
      ok : Bool
      ok = went_well outcome

      torn : ℕ → ℕ
      torn = torn_of ok (w.bytes x.block) (bytes' x.block)

      noted_at : IsIssued said x (w.block_writes f)
      noted_at = noted (from.block_writes f) said (at (slice_get issued f)) x (w.block_writes f) (running.writes f) is_due

      rest : List layout.Write
      rest = map write_of (drop (x.next + 1) noted_at.writes.items)

      due_at : due (w.block_writes f) ≡ Some (x.block, write_of write ∷ rest)
      due_at = noted_at.due
          ∙ ap (λ ws. next_of x.block (map write_of ws)) (drop_at noted_at.writes.items x.next write (sym (left_writes said x (w.block_writes f) noted_at) ∙ is_next))

      writes_at : w.block_writes f ≡ IssuesWrites x.block [] (write_of write ∷ rest)
      writes_at = due_is (w.block_writes f) x.block (write_of write) rest due_at

      w1 : World Content
      w1 = after rules w (WriteBegins f)

      w2 : World Content
      w2 = after rules w1 (WriteEnds f ok torn)

      under : w1.block_writes f ≡ InFlight x.block [] (write_of write) rest
      under = put_same w.block_writes f (writes_begun (w.block_writes f)) ∙ ap writes_begun writes_at

      ended : w2.block_writes f ≡ IssuesWrites x.block (ok ∷ []) (if ok then rest else [])
      ended = put_same w1.block_writes f (writes_ended ok (w1.block_writes f)) ∙ ap (writes_ended ok) under

      reported : result_of (w2.block_writes f) ≡ Some ok
      reported = ap result_of ended

      elsewhere : (g : ℕ) → (g ≡ f → ⊥) → w2.block_writes g ≡ w.block_writes g
      elsewhere g ne = put_other w1.block_writes f (writes_ended ok (w1.block_writes f)) g ne ∙ put_other w.block_writes f (writes_begun (w.block_writes f)) g ne

      left : AreUnread from.issued tickets w1.loads
      left n t here = unread_torn (will_cover (w.block_writes f)) (w.loads (from.issued + n)) ∙ running.loads n t here

      gone : (issued_after met.it w.issued ≡ from.issued + length (with_ticket (ticket_in answer) tickets)) × AreUnread from.issued (with_ticket (ticket_in answer) tickets) (loads_after met.it w.history w.kept w.issued w1.loads)
      gone = unread_goes m from.issued w.issued tickets w1.loads w.history w.kept answer met.it met.reply running.count left

      within : f < length issued
      within = slice_get_within issued f (Some x) (at_is (slice_get issued f) x is_due)

      counted : IsNotedOn f x ok answer issued issued' → length issued' ≡ length issued
      counted (inl on) = ap length on.2 ∙ set_count (slice_set issued f None) f (Some (next_issued x)) ∙ set_count issued f None
      counted (inr over) = ap length over.1 ∙ set_count issued f None

      away : (g : ℕ) → (g ≡ f → ⊥) → IsNotedOn f x ok answer issued issued' → slice_get issued' g ≡ slice_get issued g
      away g ne (inl on) = ap (λ xs. slice_get xs g) on.2 ∙ set_there (slice_set issued f None) f g (Some (next_issued x)) ne ∙ set_there issued f g None ne
      away g ne (inr over) = ap (λ xs. slice_get xs g) over.1 ∙ set_there issued f g None ne

      block_writes' : ℕ → BlockWrites
      block_writes' = block_writes_after met.it (model_step.FlushWrote f ok) w2.block_writes

      -- nothing is due of the flusher
      over_at : ((ok ≡ false) ⊎ (answer ≡ reply.Next → ⊥)) → due (block_writes' f) ≡ None
      over_at (inr last) = due_ended met.it f ok w2.block_writes x.block (if ok then rest else []) (no_next m answer met.it last met.reply) ended
      over_at (inl failed) =
          subst (λ (b : Bool). due (block_writes_after met.it (model_step.FlushWrote f b) w2.block_writes f) ≡ None) (sym failed)
          (due_failed met.it f w2.block_writes x.block (ended ∙ ap (λ (b : Bool). IssuesWrites x.block (b ∷ []) (if b then rest else [])) failed))

      here : IsNotedOn f x ok answer issued issued' → IsDue (from.block_writes f) said' (at (slice_get issued' f)) (block_writes' f)
      here (inl (well, next, is)) =
          let length_is : length (slice_set issued f None) ≡ length issued = set_count issued f None in
          subst (λ o. IsDue (from.block_writes f) said' (at o) (block_writes' f))
          (sym (ap (λ xs. slice_get xs f) is ∙ set_here (slice_set issued f None) f (Some (next_issued x)) (let lt : f < length issued = within in omega arith)))
          (record {
            block = noted_at.block;
            writes = noted_at.writes;
            reply = ap (λ xs. slice_get xs x.reply) ss ∙ get_left said (answer ∷ []) x.reply (reply.Write noted_at.block noted_at.writes) noted_at.reply;
            due = subst (λ r. due (block_writes_after r (model_step.FlushWrote f ok) w2.block_writes f) ≡ next_of x.block rest) (sym (subst (λ r. IsReply m r met.it) next met.reply))
                (due_next Content f ok w2.block_writes x.block rest (ended ∙ ap (λ (b : Bool). IssuesWrites x.block (ok ∷ []) (if b then rest else [])) well));
          })
      here (inr (why, is)) =
          subst (λ o. IsDue (from.block_writes f) said' (at o) (block_writes' f)) (sym (ap (λ xs. slice_get xs f) is ∙ set_here issued f None within)) (inr (over_at why))

      flushes : (g : ℕ) (e : Bool) → (g == f) ≡ e → IsDue (from.block_writes g) said' (at (slice_get issued' g)) (block_writes' g)
      flushes g true e =
          let same : g ≡ f = grind (arith, nat_tests) in
          subst (λ i. IsDue (from.block_writes i) said' (at (slice_get issued' i)) (block_writes' i)) (sym same) (here noted_on)
      flushes g false e =
          let ne : g ≡ f → ⊥ = λ same. grind (arith, nat_tests) in
          subst (λ xs. IsDue (from.block_writes g) xs (at (slice_get issued' g)) (block_writes' g)) (sym ss)
          (subst (λ o. IsDue (from.block_writes g) (said ++ answer ∷ []) (at o) (block_writes' g)) (sym (away g ne noted_on))
          (due_more (from.block_writes g) said (answer ∷ []) (at (slice_get issued g)) (block_writes' g)
          (subst (λ pending. IsDue (from.block_writes g) said (at (slice_get issued g)) pending) (sym (block_writes_elsewhere met.it f g ok w2.block_writes ne ∙ elsewhere g ne)) (running.writes g))))
