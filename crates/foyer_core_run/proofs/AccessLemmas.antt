-- A step, a load and a block's writes, as runs of moves.
use Rattle.std.proofs.Common.{◌≡◌, ℕ, ◌+◌, ◌<◌, ◌≤◌, Bool, true, false, not, ◌||◌, List, [], ◌∷◌, ◌++◌, ◌⊎◌, inl, inr, length, replicate, Option, Some, None, Result, Ok, Err, slice_get, slice_set, refl, sym, ap, subst, ◌∙◌, arith}
use Rattle.std.specs.Prelude.{OnErr}
use Rattle.std.specs.declared.vec.Vec.{Vec}
use Rattle.foyer_device_page.specs.declared.error.Error.{Error}
use Rattle.foyer_core_model.specs.World.{World, after_all}
use Rattle.foyer_core_steps.specs.Answered.{HandsBack}
use Rattle.foyer_core_steps.specs.Asked.{came_of, went_well}
use Rattle.foyer_core_laws.specs.Content.{Content, Meaning}
use Rattle.foyer_core_steps.specs.Refines.{IsRefined}
use Rattle.foyer_core_laws.specs.CoreRules.{machine}
use Rattle.foyer_core_laws.specs.Sizes.{AreValid}
use Rattle.foyer_core_steps.specs.StateOf.{IsStateOf}
use Rattle.foyer_core_steps.specs.declared.reply.Reply.{Reply}
use Rattle.foyer_core_steps.specs.declared.reply.Reply.TheVariants as reply
use Rattle.foyer_core_steps.specs.Write.{Write}
use Rattle.foyer_core_laws.specs.Settings.{Settings}
use Rattle.foyer_core_steps.specs.declared.state.Core.{Core}
use Rattle.foyer_core_steps.specs.declared.step.Step.{Step}
use Rattle.foyer_core_steps.specs.declared.step.Step.TheVariants as step
use Rattle.foyer_core_steps.specs.declared.step.Ticket.{Ticket}
use Rattle.foyer_core_steps.proofs.Opening.{replicate-end}
use Rattle.foyer_core_steps.proofs.ListLemmas.{set_count, set_here}
use Rattle.foyer_core_run.specs.Accesses.{Says, WritesAll, WritesUntil, load_of, writes_of}
use Rattle.foyer_core_run.specs.Causes.{is_fault}
use Rattle.foyer_core_run.specs.Moves.{asked}
use Rattle.foyer_core_run.specs.Running.{IsFree, IsMoved, at, block_in, cleans_noted, issuing_in, scans_noted, ticket_in, with_ticket}
use Rattle.foyer_core_run.specs.Runs.{IsFront, IsRun, Runs}
use Rattle.foyer_core_run.specs.declared.moves.Asked.TheVariants as asks
use Rattle.foyer_core_run.specs.declared.moves.Move.{Move}
use Rattle.foyer_core_run.specs.declared.moves.Move.TheVariants as move
use Rattle.foyer_core_run.specs.declared.moves.kept.Issued.{Issued}
use Rattle.foyer_core_access.specs.declared.reclaims.Part.{Part}
use Rattle.foyer_core_run.proofs.BlockLemmas.{block_moves, flusher_there}
use Rattle.foyer_core_run.proofs.LoadLemmas.{IsCome, load_moves, load_passes}
use Rattle.foyer_core_run.proofs.RunLemmas.{IsGoing, going_first, going_on, gone}
use Rattle.foyer_core_run.proofs.StepLemmas.{Encodes, step_moves}
use Rattle.foyer_core_run.proofs.WriteLemmas.{IsDone, write_moves}

-- the note of a block's writes, of which so many are done
abbrev pub note : (block next : ℕ) → Issued
note block next = record { block = block; reply = 0; next = next }

-- no write is noted of any flusher
abbrev pub unnoted : Settings → List (Option Issued)
unnoted s = replicate s.flushers None

-- nor a read of any block's reclaim, nor a clean
abbrev pub unscanned : Settings → List (Option Part)
unscanned s = replicate s.blocks None

abbrev pub uncleaned : Settings → List Bool
uncleaned s = replicate s.blocks false

-- of no access it is sure
abbrev pub nowhere : ℕ → ℕ → ℕ → Type 0
nowhere b o n = ⊥

sure_nowhere : {X E : Type 0} (r : Result X E) → OnErr r (⊥ → ⊥)
sure_nowhere (Ok x) = tt
sure_nowhere (Err e) = λ none. none

-- a reply that isn't a read issues no ticket
pub no_ticket : {K V P A : Type 0} (answer : Reply K V P A) → ((t : Ticket) → answer ≡ reply.Read t → ⊥) → ticket_in answer ≡ None
no_ticket (reply.Read t) not = absurd (not t refl)
no_ticket answer not = refl

-- and one that isn't a write names no block
pub no_block : {K V P A : Type 0} (answer : Reply K V P A) → ((b : ℕ) (ws : Vec (Write A) A) → answer ≡ reply.Write b ws → ⊥) → block_in answer ≡ None
no_block (reply.Write b ws) not = absurd (not b ws refl)
no_block answer not = refl

module _ {K V P A : Type 0} (m : Meaning K V P) (s : Settings) (sound : AreValid s) where
  -- a step that brings no result and issues no write, alone
  pub step_alone : (encodes : Encodes m) (w : World Content) (x : Move K V P A) (given : Step K V P A) (answer : Reply K V P A) (old new : Core K V P A) (bytes : ℕ → ℕ → ℕ)
      → IsStateOf m s old w.core → ((b o : ℕ) → w.bytes b o ≡ bytes b o) → asked x ≡ asks.Step given → IsFree given
      → HandsBack given answer old new → ((v : World Content) → IsStateOf m s old v.core → IsRefined m s sound given answer new v.core)
      → IsGoing m s sound nowhere false w (x ∷ []) (with_ticket (ticket_in answer) []) (unnoted s) (scans_noted (issuing_in given) s.blob_index_size answer (unscanned s)) (cleans_noted (issuing_in given) answer (uncleaned s)) (answer ∷ []) new bytes
  step_alone encodes w x given answer old new bytes stands same is free back meets =
      let going = going_first m s sound nowhere w (unnoted s) (unscanned s) (uncleaned s) old bytes stands same refl refl refl in
      let scans = scans_noted (issuing_in given) s.blob_index_size answer (unscanned s) in
      let cleans = cleans_noted (issuing_in given) answer (uncleaned s) in
      let v = after_all (machine m s sound) w going.events in
      going_on m s sound nowhere false false w [] x [] (with_ticket (ticket_in answer) []) (unnoted s) (unnoted s) (unscanned s) scans (uncleaned s) cleans [] (answer ∷ []) old new bytes bytes going
      (subst (λ y. IsMoved m s sound nowhere false w y [] (with_ticket (ticket_in answer) []) (unnoted s) scans cleans (answer ∷ []) new bytes v) (sym is)
      (step_moves m s sound encodes nowhere w given answer [] (with_ticket (ticket_in answer) []) (unnoted s) (unscanned s) scans (uncleaned s) cleans [] (answer ∷ []) old new bytes v going.running free back (meets v (going.running).stands) refl refl refl refl))

  -- a look-up that issues no read is a load's end too
  pub load_alone : (w : World Content) (hash : ℕ) (throttled : _) (answer : Reply K V P A) (new : Core K V P A) (bytes : ℕ → ℕ → ℕ)
      → IsGoing m s sound nowhere false w (move.LoadBegin hash throttled ∷ []) (with_ticket (ticket_in answer) []) (unnoted s) (unscanned s) (uncleaned s) (answer ∷ []) new bytes → ticket_in answer ≡ None
      → IsGoing m s sound nowhere false w (load_of hash throttled) [] (unnoted s) (unscanned s) (uncleaned s) (answer ∷ []) new bytes
  load_alone w hash throttled answer new bytes going none =
      let begun = subst (λ o. IsGoing m s sound nowhere false w (move.LoadBegin hash throttled ∷ []) (with_ticket o []) (unnoted s) (unscanned s) (uncleaned s) (answer ∷ []) new bytes) none going in
      going_on m s sound nowhere false false w (move.LoadBegin hash throttled ∷ []) (move.LoadEnd 0) [] [] (unnoted s) (unnoted s) (unscanned s) (unscanned s) (uncleaned s) (uncleaned s) (answer ∷ []) (answer ∷ []) new new bytes bytes begun
      (load_passes m s sound nowhere w 0 [] (unnoted s) (unscanned s) (uncleaned s) (answer ∷ []) new bytes (after_all (machine m s sound) w begun.events) begun.running refl)

  -- a look-up that issues a read, and the load's end with what the read brought
  pub load_whole : (w : World Content) (hash : ℕ) (throttled : _) (ticket : Ticket) (outcome : Result (Vec ℕ A) Error) (issued answer : Reply K V P A) (old new : Core K V P A) (bytes : ℕ → ℕ → ℕ)
      → IsGoing m s sound nowhere false w (move.LoadBegin hash throttled ∷ []) (with_ticket (ticket_in issued) []) (unnoted s) (unscanned s) (uncleaned s) (issued ∷ []) old bytes → ticket_in issued ≡ Some ticket
      → IsCome bytes ticket outcome
      → ((v : World Content) → IsStateOf m s old v.core → IsRefined m s sound (step.LoadEnd ticket outcome) answer new v.core)
      → IsGoing m s sound nowhere (is_fault (came_of outcome)) w (load_of hash throttled) (with_ticket (ticket_in answer) (None ∷ [])) (unnoted s) (unscanned s) (uncleaned s) (issued ∷ answer ∷ []) new bytes
  load_whole w hash throttled ticket outcome issued answer old new bytes going is come meets =
      let begun = subst (λ o. IsGoing m s sound nowhere false w (move.LoadBegin hash throttled ∷ []) (with_ticket o []) (unnoted s) (unscanned s) (uncleaned s) (issued ∷ []) old bytes) is going in
      let v = after_all (machine m s sound) w begun.events in
      going_on m s sound nowhere false (is_fault (came_of outcome)) w (move.LoadBegin hash throttled ∷ []) (move.LoadEnd 0) (Some ticket ∷ []) (with_ticket (ticket_in answer) (None ∷ [])) (unnoted s) (unnoted s) (unscanned s) (unscanned s) (uncleaned s) (uncleaned s) (issued ∷ []) (issued ∷ answer ∷ []) old new bytes bytes begun
      (load_moves m s sound nowhere w 0 ticket outcome answer (Some ticket ∷ []) (with_ticket (ticket_in answer) (None ∷ [])) (unnoted s) (unscanned s) (uncleaned s) (issued ∷ []) (issued ∷ answer ∷ []) old new bytes v
      begun.running refl come (sure_nowhere outcome) (meets v (begun.running).stands) refl refl)

module _ {K V P A : Type 0} (m : Meaning K V P) where
  -- from each world whose core and bytes are those before, these moves go so far
  abbrev pub Goes : Bool → List (Move K V P A) → List (Option Ticket) → (Settings → List (Option Part)) → (Settings → List Bool) → List (Reply K V P A) → (old new : Core K V P A) → (bytes bytes' : ℕ → ℕ → ℕ) → Type 0
  Goes failed moves tickets scans cleans said old new bytes bytes' =
      (s : Settings) (sound : AreValid s) (w : World Content) → IsStateOf m s old w.core → ((b o : ℕ) → w.bytes b o ≡ bytes b o)
      → IsGoing m s sound nowhere failed w moves tickets (unnoted s) (scans s) (cleans s) said new bytes'

  -- the end of what was said
  pub says_last : (failed : Bool) (moves : List (Move K V P A)) (tickets : List (Option Ticket)) (scans : Settings → List (Option Part)) (cleans : Settings → List Bool) (before : List (Reply K V P A)) (last : Reply K V P A) (old new : Core K V P A) (bytes bytes' : ℕ → ℕ → ℕ)
      → Goes failed moves tickets scans cleans (before ++ last ∷ []) old new bytes bytes' → Says m moves last old new bytes bytes'
  says_last failed moves tickets scans cleans before last old new bytes bytes' goes = record {
    before = before;
    runs = λ s sound w stands same. gone m s sound nowhere failed w moves tickets (unnoted s) (scans s) (cleans s) (before ++ last ∷ []) new bytes' (goes s sound w stands same);
  }

  -- these moves were made, and those weren't
  pub front_is : (failed : Bool) (moves rest : List (Move K V P A)) (tickets : List (Option Ticket)) (scans : Settings → List (Option Part)) (cleans : Settings → List Bool) (said : List (Reply K V P A)) (old new : Core K V P A) (bytes bytes' : ℕ → ℕ → ℕ)
      → Goes failed moves tickets scans cleans said old new bytes bytes' → IsFront m (moves ++ rest) old new bytes bytes'
  front_is failed moves rest tickets scans cleans said old new bytes bytes' goes = record {
    front = moves;
    rest = rest;
    said = said;
    is = refl;
    runs = λ s sound w stands same. gone m s sound nowhere failed w moves tickets (unnoted s) (scans s) (cleans s) said new bytes' (goes s sound w stands same);
  }

module _ {K V P A : Type 0} (m : Meaning K V P) (s : Settings) (sound : AreValid s) where
  -- of a block of this flusher so many writes were done, and the next is due
  pub record IsWriting (w : World Content) (f b k : ℕ) (said : List (Reply K V P A)) (core : Core K V P A) (bytes : ℕ → ℕ → ℕ) : Type 0 where
    pub issued : List (Option Issued)
    pub within : f < length issued
    pub noted : at (slice_get issued f) ≡ Some (note b k)
    pub failed : Bool
    pub going : IsGoing m s sound nowhere failed w (writes_of f k) [] issued (unscanned s) (uncleaned s) said core bytes

  pub writing_none : (w : World Content) (f : ℕ) (answer : Reply K V P A) (old new : Core K V P A) (bytes : ℕ → ℕ → ℕ) → IsStateOf m s old w.core → ((b o : ℕ) → w.bytes b o ≡ bytes b o)
      → ((v : World Content) → IsStateOf m s old v.core → IsRefined m s sound (step.FlushBlock f) answer new v.core) → block_in answer ≡ None
      → IsGoing m s sound nowhere false w (writes_of f 0) (with_ticket (ticket_in answer) []) (unnoted s) (unscanned s) (uncleaned s) (answer ∷ []) new bytes
  writing_none w f answer old new bytes stands same meets none =
      let going = going_first m s sound nowhere w (unnoted s) (unscanned s) (uncleaned s) old bytes stands same refl refl refl in
      let v = after_all (machine m s sound) w going.events in
      going_on m s sound nowhere false false w [] (move.FlushBlock f) [] (with_ticket (ticket_in answer) []) (unnoted s) (unnoted s) (unscanned s) (unscanned s) (uncleaned s) (uncleaned s) [] (answer ∷ []) old new bytes bytes going
      (block_moves m s sound nowhere w f answer [] (with_ticket (ticket_in answer) []) (unnoted s) (unnoted s) (unscanned s) (uncleaned s) [] (answer ∷ []) old new bytes v going.running
      (meets v (going.running).stands) refl refl (inl (none, refl)))

  pub writing_first : (w : World Content) (f b : ℕ) (ws : Vec (Write A) A) (old new : Core K V P A) (bytes : ℕ → ℕ → ℕ) → IsStateOf m s old w.core → ((b o : ℕ) → w.bytes b o ≡ bytes b o)
      → ((v : World Content) → IsStateOf m s old v.core → IsRefined m s sound (step.FlushBlock f) (reply.Write b ws) new v.core)
      → IsWriting w f b 0 (reply.Write b ws ∷ []) new bytes
  writing_first w f b ws old new bytes stands same meets =
      let going = going_first m s sound nowhere w (unnoted s) (unscanned s) (uncleaned s) old bytes stands same refl refl refl in
      let v = after_all (machine m s sound) w going.events in
      let met = meets v (going.running).stands in
      let issued = slice_set (unnoted s) f (Some (note b 0)) in
      let there : f < s.flushers = flusher_there m s sound f b (reply.Write b ws) new v met refl in
      let count : length (unnoted s) ≡ s.flushers = (going.running).flushers in
      let counted : length issued ≡ length (unnoted s) = set_count (unnoted s) f (Some (note b 0)) in
      let within : f < length (unnoted s) = omega arith in record {
        issued = issued;
        within = omega arith;
        noted = ap at (set_here (unnoted s) f (Some (note b 0)) within);
        failed = false;
        going = going_on m s sound nowhere false false w [] (move.FlushBlock f) [] [] (unnoted s) issued (unscanned s) (unscanned s) (uncleaned s) (uncleaned s) [] (reply.Write b ws ∷ []) old new bytes bytes going
            (block_moves m s sound nowhere w f (reply.Write b ws) [] [] (unnoted s) issued (unscanned s) (uncleaned s) [] (reply.Write b ws ∷ []) old new bytes v going.running
            met refl refl (inr (b, refl, refl)));
      }

  pub writing_on : (w : World Content) (f b k : ℕ) (ws : Vec (Write A) A) (rest : List (Reply K V P A)) (write : Write A) (outcome : Result Unit Error) (answer : Reply K V P A) (old new : Core K V P A) (bytes bytes' : ℕ → ℕ → ℕ)
      → IsWriting w f b k (reply.Write b ws ∷ rest) old bytes → slice_get ws.items k ≡ Some write → IsDone bytes bytes' b write (went_well outcome)
      → ((v : World Content) → IsStateOf m s old v.core → IsRefined m s sound (step.FlushWrote f outcome) answer new v.core)
      → went_well outcome ≡ true → answer ≡ reply.Next
      → IsWriting w f b (k + 1) (reply.Write b ws ∷ (rest ++ answer ∷ [])) new bytes'
  writing_on w f b k ws rest write outcome answer old new bytes bytes' writing is done meets well next =
      let v = after_all (machine m s sound) w (writing.going).events in
      let issued = slice_set (slice_set writing.issued f None) f (Some (note b (k + 1))) in
      let emptied : length (slice_set writing.issued f None) ≡ length writing.issued = set_count writing.issued f None in
      let counted : length issued ≡ length (slice_set writing.issued f None) = set_count (slice_set writing.issued f None) f (Some (note b (k + 1))) in
      let there : f < length writing.issued = writing.within in
      let within : f < length (slice_set writing.issued f None) = omega arith in record {
        issued = issued;
        within = omega arith;
        noted = ap at (set_here (slice_set writing.issued f None) f (Some (note b (k + 1))) within);
        failed = writing.failed || not (went_well outcome);
        going = subst (λ xs. IsGoing m s sound nowhere (writing.failed || not (went_well outcome)) w (move.FlushBlock f ∷ xs) [] issued (unscanned s) (uncleaned s) (reply.Write b ws ∷ (rest ++ answer ∷ [])) new bytes') (replicate-end k (move.FlushWrote f))
            (going_on m s sound nowhere writing.failed (not (went_well outcome)) w (writes_of f k) (move.FlushWrote f) [] [] writing.issued issued (unscanned s) (unscanned s) (uncleaned s) (uncleaned s) (reply.Write b ws ∷ rest) (reply.Write b ws ∷ (rest ++ answer ∷ [])) old new bytes bytes' writing.going
            (write_moves m s sound nowhere w f (note b k) write outcome answer [] [] writing.issued issued (unscanned s) (uncleaned s) (reply.Write b ws ∷ rest) (reply.Write b ws ∷ (rest ++ answer ∷ [])) old new bytes bytes' v
            (writing.going).running writing.noted is done (sure_nowhere outcome) (meets v ((writing.going).running).stands) (sym (ap (λ r. with_ticket (ticket_in r) []) next)) refl (inl (well, next, refl))));
      }

  pub writing_ends : (w : World Content) (f b k : ℕ) (ws : Vec (Write A) A) (rest : List (Reply K V P A)) (write : Write A) (outcome : Result Unit Error) (answer : Reply K V P A) (old new : Core K V P A) (bytes bytes' : ℕ → ℕ → ℕ)
      → (writing : IsWriting w f b k (reply.Write b ws ∷ rest) old bytes) → slice_get ws.items k ≡ Some write → IsDone bytes bytes' b write (went_well outcome)
      → ((v : World Content) → IsStateOf m s old v.core → IsRefined m s sound (step.FlushWrote f outcome) answer new v.core)
      → ((went_well outcome ≡ false) ⊎ (answer ≡ reply.Next → ⊥))
      → IsGoing m s sound nowhere (writing.failed || not (went_well outcome)) w (writes_of f (k + 1)) (with_ticket (ticket_in answer) []) (slice_set writing.issued f None) (unscanned s) (uncleaned s) (reply.Write b ws ∷ (rest ++ answer ∷ [])) new bytes'
  writing_ends w f b k ws rest write outcome answer old new bytes bytes' writing is done meets why =
      let v = after_all (machine m s sound) w (writing.going).events in
      let issued = slice_set writing.issued f None in
      let tickets = with_ticket (ticket_in answer) [] in
      subst (λ xs. IsGoing m s sound nowhere (writing.failed || not (went_well outcome)) w (move.FlushBlock f ∷ xs) tickets issued (unscanned s) (uncleaned s) (reply.Write b ws ∷ (rest ++ answer ∷ [])) new bytes') (replicate-end k (move.FlushWrote f))
      (going_on m s sound nowhere writing.failed (not (went_well outcome)) w (writes_of f k) (move.FlushWrote f) [] tickets writing.issued issued (unscanned s) (unscanned s) (uncleaned s) (uncleaned s) (reply.Write b ws ∷ rest) (reply.Write b ws ∷ (rest ++ answer ∷ [])) old new bytes bytes' writing.going
      (write_moves m s sound nowhere w f (note b k) write outcome answer [] tickets writing.issued issued (unscanned s) (uncleaned s) (reply.Write b ws ∷ rest) (reply.Write b ws ∷ (rest ++ answer ∷ [])) old new bytes bytes' v
      (writing.going).running writing.noted is done (sure_nowhere outcome) (meets v ((writing.going).running).stands) refl refl (inr (why, refl))))

module _ {K V P A : Type 0} (m : Meaning K V P) where
  -- a block's writes, so far
  pub record AreWritten (f b k : ℕ) (items : List (Write A)) (old core : Core K V P A) (bytes bytes' : ℕ → ℕ → ℕ) : Type 0 where
    pub ws : Vec (Write A) A
    pub rest : List (Reply K V P A)
    pub rest_is : rest ≡ replicate k reply.Next
    pub within : k ≤ length items
    pub items_are : ws.items ≡ items
    pub writing : (s : Settings) (sound : AreValid s) (w : World Content) → IsStateOf m s old w.core → ((b o : ℕ) → w.bytes b o ≡ bytes b o)
        → IsWriting m s sound w f b k (reply.Write b ws ∷ rest) core bytes'

  pub written_none : (f : ℕ) (answer : Reply K V P A) (old new : Core K V P A) (bytes : ℕ → ℕ → ℕ)
      → ((s : Settings) (sound : AreValid s) (v : World Content) → IsStateOf m s old v.core → IsRefined m s sound (step.FlushBlock f) answer new v.core) → block_in answer ≡ None
      → WritesUntil m f answer old new bytes bytes
  written_none f answer old new bytes meets none = record {
    count = 0;
    says = record {
      before = [];
      runs = λ s sound w stands same. gone m s sound nowhere false w (writes_of f 0) (with_ticket (ticket_in answer) []) (unnoted s) (unscanned s) (uncleaned s) (answer ∷ []) new bytes
          (writing_none m s sound w f answer old new bytes stands same (meets s sound) none);
    };
  }

  pub written_all : (f b k : ℕ) (items : List (Write A)) (old core : Core K V P A) (bytes bytes' : ℕ → ℕ → ℕ) → AreWritten f b k items old core bytes bytes' → length items ≤ k → WritesAll m f old core bytes bytes'
  written_all f b k items old core bytes bytes' are over =
      let bound : k ≤ length items = are.within in
      let counted : length are.ws.items ≡ length items = ap length are.items_are in
      let all : k ≡ length are.ws.items = omega arith in record {
        block = b;
        writes = are.ws;
        runs = λ s sound w stands same.
            let writing = are.writing s sound w stands same in
            let run = gone m s sound nowhere writing.failed w (writes_of f k) [] writing.issued (unscanned s) (uncleaned s) (reply.Write b are.ws ∷ are.rest) core bytes' writing.going in
            subst (λ n. IsRun m s sound w (writes_of f n) (reply.Write b are.ws ∷ replicate n reply.Next) core bytes') all
            (subst (λ xs. IsRun m s sound w (writes_of f k) (reply.Write b are.ws ∷ xs) core bytes') are.rest_is run);
      }

  -- a run of the block and of the writes so far
  pub written_so_far : (f b k : ℕ) (items : List (Write A)) (old core : Core K V P A) (bytes bytes' : ℕ → ℕ → ℕ) → AreWritten f b k items old core bytes bytes'
      → (ws : Vec (Write A) A) × (now : ℕ → ℕ → ℕ) × (ws.items ≡ items) × Runs m (writes_of f k) (reply.Write b ws ∷ replicate k reply.Next) old core bytes now
  written_so_far f b k items old core bytes bytes' are = (
    are.ws,
    bytes',
    are.items_are,
    λ s sound w stands same.
        let writing = are.writing s sound w stands same in
        let run = gone m s sound nowhere writing.failed w (writes_of f k) [] writing.issued (unscanned s) (uncleaned s) (reply.Write b are.ws ∷ are.rest) core bytes' writing.going in
        subst (λ xs. IsRun m s sound w (writes_of f k) (reply.Write b are.ws ∷ xs) core bytes') are.rest_is run,
  )

  pub written_on : (f b k : ℕ) (items : List (Write A)) (write : Write A) (outcome : Result Unit Error) (answer : Reply K V P A) (old core new : Core K V P A) (bytes bytes' bytes'' : ℕ → ℕ → ℕ)
      → AreWritten f b k items old core bytes bytes' → k < length items → slice_get items k ≡ Some write → IsDone bytes' bytes'' b write (went_well outcome)
      → ((s : Settings) (sound : AreValid s) (v : World Content) → IsStateOf m s core v.core → IsRefined m s sound (step.FlushWrote f outcome) answer new v.core)
      → went_well outcome ≡ true → answer ≡ reply.Next → AreWritten f b (k + 1) items old new bytes bytes''
  written_on f b k items write outcome answer old core new bytes bytes' bytes'' are lt is done meets well next = record {
    ws = are.ws;
    rest = are.rest ++ answer ∷ [];
    rest_is = ap (λ xs. xs ++ answer ∷ []) are.rest_is ∙ ap (λ r. replicate k reply.Next ++ r ∷ []) next ∙ replicate-end k reply.Next;
    within = omega (arith, lt);
    items_are = are.items_are;
    writing = λ s sound w stands same.
        writing_on m s sound w f b k are.ws are.rest write outcome answer core new bytes' bytes'' (are.writing s sound w stands same)
        (ap (λ xs. slice_get xs k) are.items_are ∙ is) done (meets s sound) well next;
  }

  pub written_ends : (f b k : ℕ) (items : List (Write A)) (write : Write A) (outcome : Result Unit Error) (answer : Reply K V P A) (old core new : Core K V P A) (bytes bytes' bytes'' : ℕ → ℕ → ℕ)
      → AreWritten f b k items old core bytes bytes' → slice_get items k ≡ Some write → IsDone bytes' bytes'' b write (went_well outcome)
      → ((s : Settings) (sound : AreValid s) (v : World Content) → IsStateOf m s core v.core → IsRefined m s sound (step.FlushWrote f outcome) answer new v.core)
      → ((went_well outcome ≡ false) ⊎ (answer ≡ reply.Next → ⊥)) → WritesUntil m f answer old new bytes bytes''
  written_ends f b k items write outcome answer old core new bytes bytes' bytes'' are is done meets why = record {
    count = k + 1;
    says = record {
      before = reply.Write b are.ws ∷ are.rest;
      runs = λ s sound w stands same.
          let writing = are.writing s sound w stands same in
          gone m s sound nowhere (writing.failed || not (went_well outcome)) w (writes_of f (k + 1)) (with_ticket (ticket_in answer) []) (slice_set writing.issued f None) (unscanned s) (uncleaned s) (reply.Write b are.ws ∷ (are.rest ++ answer ∷ [])) new bytes''
          (writing_ends m s sound w f b k are.ws are.rest write outcome answer core new bytes' bytes'' writing
          (ap (λ xs. slice_get xs k) are.items_are ∙ is) done (meets s sound) why);
    };
  }
