-- Moves one after the other.
use Rattle.std.proofs.Common.{◌≡◌, ℕ, zero, suc, ◌+◌, Bool, false, ◌||◌, List, [], ◌∷◌, ◌++◌, inl, length, replicate, Option, Some, None, slice_get, refl, sym, ap, subst, ◌∙◌, arith}
use Rattle.std.proofs.lemmas.List.{length-replicate}
use Rattle.std.specs.Prelude.{OnErr, Result, Ok, Err}
use Rattle.foyer_core_model.specs.Rules.{Rules, Splitting}
use Rattle.foyer_core_model.specs.World.{World, WorldEvent, MayAllHappen, after, after_all}
use Rattle.foyer_core_laws.specs.Content.{Content, Meaning}
use Rattle.foyer_core_laws.specs.CoreRules.{layout}
use Rattle.foyer_core_laws.specs.CoreRules.{machine}
use Rattle.foyer_core_laws.specs.CoreRules.{IsEncoded}
use Rattle.foyer_core_laws.specs.Sizes.{AreValid}
use Rattle.foyer_core_steps.specs.StateOf.{IsStateOf}
use Rattle.foyer_core_steps.specs.declared.reply.Reply.{Reply}
use Rattle.foyer_core_laws.specs.Settings.{Settings}
use Rattle.foyer_core_steps.specs.declared.state.Core.{Core}
use Rattle.foyer_core_steps.specs.declared.step.Ticket.{Ticket}
use Rattle.foyer_core_run.specs.Moves.{AreMade, Makes, asked}
use Rattle.foyer_core_run.specs.Due.{unread}
use Rattle.foyer_core_run.specs.Running.{IsCleanDue, IsDue, IsMoved, IsRunning, IsScanDue, at, is_set, issued_of}
use Rattle.foyer_core_run.specs.Causes.{AreForCause, has_fault}
use Rattle.foyer_core_run.specs.Runs.{IsFront, IsRun, IsRunNoted}
use Rattle.foyer_core_run.specs.declared.moves.Asked.{Asked}
use Rattle.foyer_core_run.specs.declared.moves.Move.{Move}
use Rattle.foyer_core_run.specs.declared.moves.kept.Issued.{Issued}
use Rattle.foyer_core_access.specs.declared.reclaims.Part.{Part}
use Rattle.foyer_core_run.proofs.FaultLists.{causes_join, causes_within, faults_join}
use Rattle.foyer_core_run.proofs.ListLemmas.{append_none, append_twice}

pub after_more : {C : Type 0} (rules : Rules C) (w : World C) (xs ys : List (WorldEvent C)) → after_all rules w (xs ++ ys) ≡ after_all rules (after_all rules w xs) ys
after_more rules w [] ys = refl
after_more rules w (x ∷ xs) ys = after_more rules (after rules w x) xs ys

pub happen_more : {C : Type 0} (rules : Rules C) (Splits : Splitting C) (is_value : C → Type 0) (w : World C) (xs ys : List (WorldEvent C))
    → MayAllHappen rules Splits is_value w xs → MayAllHappen rules Splits is_value (after_all rules w xs) ys → MayAllHappen rules Splits is_value w (xs ++ ys)
happen_more rules Splits is_value w [] ys first more = more
happen_more rules Splits is_value w (x ∷ xs) ys first more = (first.0, happen_more rules Splits is_value (after rules w x) xs ys first.1 more)

module _ {K V P : Type 0} (m : Meaning K V P) (s : Settings) (sound : AreValid s) where
  abbrev rules : Rules Content
  rules = machine m s sound

  made_more : {A : Type 0} (from : World Content) (w : World Content) (xs : List (Move K V P A)) (x : Move K V P A) (events now : List (WorldEvent Content)) (said answers : List (Reply K V P A))
      → AreMade m s sound from w xs events said → Makes m from (after_all rules w events) (asked x) now answers
      → AreMade m s sound from w (xs ++ x ∷ []) (events ++ now) (said ++ answers)
  made_more from w [] x events now said answers are made = record {
    now = now;
    later = [];
    answers = answers;
    others = [];
    is = ap (λ es. es ++ now) are.0 ∙ sym (append_none now);
    said_is = ap (λ rs. rs ++ answers) are.1 ∙ sym (append_none answers);
    made = subst (λ es. Makes m from (after_all rules w es) (asked x) now answers) are.0 made;
    more = (refl, refl);
  }
  made_more from w (y ∷ ys) x events now said answers are made = record {
    now = are.now;
    later = are.later ++ now;
    answers = are.answers;
    others = are.others ++ answers;
    is = ap (λ es. es ++ now) are.is ∙ append_twice are.now are.later now;
    said_is = ap (λ rs. rs ++ answers) are.said_is ∙ append_twice are.answers are.others answers;
    made = are.made;
    more = made_more from (after_all rules w are.now) ys x are.later now are.others answers are.more
        (subst (λ v. Makes m from v (asked x) now answers) (ap (after_all rules w) are.is ∙ after_more rules w are.now are.later) made);
  }

  -- These moves were made, whether an access of them failed or not, and a run is under way. One that failed has a cause.
  pub record IsGoing {A : Type 0} (came : ℕ → ℕ → ℕ → Type 0) (failed : Bool) (w : World Content) (moves : List (Move K V P A)) (tickets : List (Option Ticket)) (issued : List (Option Issued)) (scans : List (Option Part)) (cleans : List Bool) (said : List (Reply K V P A)) (core : Core K V P A) (bytes : ℕ → ℕ → ℕ) : Type 0 where
    pub events : List (WorldEvent Content)
    pub happened : MayAllHappen rules (layout s) (IsEncoded m.is_key m.is_value) w events
    pub made : AreMade m s sound w w moves events said
    pub causes : AreForCause came rules w events
    pub faults : has_fault events ≡ failed
    pub running : IsRunning m s w tickets issued scans cleans said core bytes (after_all rules w events)

  abbrev nothing_of : (X : Type 0) → Option X
  nothing_of X = None

  none_at : (X : Type 0) (n i : ℕ) → at (slice_get (replicate n (nothing_of X)) i) ≡ None
  none_at X zero zero = refl
  none_at X zero (suc i) = refl
  none_at X (suc n) zero = refl
  none_at X (suc n) (suc i) = none_at X n i

  none_set : (n i : ℕ) → is_set (slice_get (replicate n false) i) ≡ false
  none_set zero zero = refl
  none_set zero (suc i) = refl
  none_set (suc n) zero = refl
  none_set (suc n) (suc i) = none_set n i

  pub going_first : {A : Type 0} (came : ℕ → ℕ → ℕ → Type 0) (w : World Content) (issued : List (Option Issued)) (scans : List (Option Part)) (cleans : List Bool) (core : Core K V P A) (bytes : ℕ → ℕ → ℕ) → IsStateOf m s core w.core → ((b o : ℕ) → w.bytes b o ≡ bytes b o)
      → issued ≡ replicate s.flushers None → scans ≡ replicate s.blocks None → cleans ≡ replicate s.blocks false → IsGoing came false w [] [] issued scans cleans [] core bytes
  going_first {A} came w issued scans cleans core bytes stands same is unscanned uncleaned = record {
    events = [];
    happened = tt;
    made = (refl, refl);
    causes = tt;
    faults = refl;
    running = record {
      stands = stands;
      same = same;
      count = omega arith;
      loads = nothing;
      flushers = ap length is ∙ length-replicate s.flushers None;
      writes = λ f. subst (λ x. IsDue {K = K} {V = V} {P = P} {A = A} (w.block_writes f) [] x (w.block_writes f)) (sym (ap (λ xs. at (slice_get xs f)) is ∙ none_at Issued s.flushers f)) (inl refl);
      blocks = (ap length unscanned ∙ length-replicate s.blocks None, ap length uncleaned ∙ length-replicate s.blocks false);
      due_scans = λ b. subst (λ x. IsScanDue (w.scans b) x (w.scans b)) (sym (ap (λ xs. at (slice_get xs b)) unscanned ∙ none_at Part s.blocks b)) (inl refl);
      due_cleans = λ b. subst (λ x. IsCleanDue (w.clean_states b) x (w.clean_states b)) (sym (ap (λ xs. is_set (slice_get xs b)) uncleaned ∙ none_set s.blocks b)) (inl refl);
    };
  }
    where
      nothing : (n : ℕ) (x : Option Ticket) → slice_get [] n ≡ Some x → unread (w.loads (w.issued + n)) ≡ issued_of x
      nothing zero x e = absurd (let f : None ≡ Some x = e in cc)
      nothing (suc n) x e = absurd (let f : None ≡ Some x = e in cc)

  pub going_on : {A : Type 0} (came : ℕ → ℕ → ℕ → Type 0) (failed also : Bool) (w : World Content) (moves : List (Move K V P A)) (x : Move K V P A) (tickets tickets' : List (Option Ticket)) (issued issued' : List (Option Issued)) (scans scans' : List (Option Part)) (cleans cleans' : List Bool) (said said' : List (Reply K V P A)) (core core' : Core K V P A) (bytes bytes' : ℕ → ℕ → ℕ)
      → (going : IsGoing came failed w moves tickets issued scans cleans said core bytes) → IsMoved m s sound came also w (asked x) said tickets' issued' scans' cleans' said' core' bytes' (after_all rules w going.events)
      → IsGoing came (failed || also) w (moves ++ x ∷ []) tickets' issued' scans' cleans' said' core' bytes'
  going_on came failed also w moves x tickets tickets' issued issued' scans scans' cleans cleans' said said' core core' bytes bytes' going moved = record {
    events = going.events ++ moved.events;
    happened = happen_more rules (layout s) (IsEncoded m.is_key m.is_value) w going.events moved.events going.happened moved.happened;
    made = subst (λ rs. AreMade m s sound w w (moves ++ x ∷ []) (going.events ++ moved.events) rs) (sym moved.replies)
        (made_more w w moves x going.events moved.events said moved.answers going.made moved.made);
    causes = causes_join came rules w going.events moved.events going.causes moved.causes;
    faults = faults_join going.events moved.events ∙ ap (λ t. t || has_fault moved.events) going.faults ∙ ap (λ t. failed || t) moved.faults;
    running = subst (λ v. IsRunning m s w tickets' issued' scans' cleans' said' core' bytes' v) (sym (after_more rules w going.events moved.events)) moved.running;
  }

  -- of fewer accesses it is sure
  pub going_sure : {A : Type 0} (fewer more : ℕ → ℕ → ℕ → Type 0) (failed : Bool) → ((b o n : ℕ) → fewer b o n → more b o n) → (w : World Content) (moves : List (Move K V P A)) (tickets : List (Option Ticket)) (issued : List (Option Issued)) (scans : List (Option Part)) (cleans : List Bool) (said : List (Reply K V P A)) (core : Core K V P A) (bytes : ℕ → ℕ → ℕ)
      → (going : IsGoing more failed w moves tickets issued scans cleans said core bytes) → IsGoing fewer failed w moves tickets issued scans cleans said core bytes
  going_sure fewer more failed within w moves tickets issued scans cleans said core bytes going = record {
    events = going.events;
    happened = going.happened;
    made = going.made;
    causes = causes_within within rules w going.events going.causes;
    faults = going.faults;
    running = going.running;
  }

  pub moved_sure : {A : Type 0} (fewer more : ℕ → ℕ → ℕ → Type 0) → ((b o n : ℕ) → fewer b o n → more b o n) → (from : World Content) (failed : Bool) (x : Asked K V P A) (before : List (Reply K V P A)) (tickets : List (Option Ticket)) (issued : List (Option Issued)) (scans : List (Option Part)) (cleans : List Bool) (said : List (Reply K V P A)) (core : Core K V P A) (bytes : ℕ → ℕ → ℕ) (w : World Content)
      → IsMoved m s sound more failed from x before tickets issued scans cleans said core bytes w → IsMoved m s sound fewer failed from x before tickets issued scans cleans said core bytes w
  moved_sure fewer more within from failed x before tickets issued scans cleans said core bytes w moved = record {
    events = moved.events;
    answers = moved.answers;
    happened = moved.happened;
    made = moved.made;
    replies = moved.replies;
    causes = causes_within within rules w moved.events moved.causes;
    faults = moved.faults;
    running = moved.running;
  }

  pub gone : {A : Type 0} (came : ℕ → ℕ → ℕ → Type 0) (failed : Bool) (w : World Content) (moves : List (Move K V P A)) (tickets : List (Option Ticket)) (issued : List (Option Issued)) (scans : List (Option Part)) (cleans : List Bool) (said : List (Reply K V P A)) (core : Core K V P A) (bytes : ℕ → ℕ → ℕ)
      → IsGoing came failed w moves tickets issued scans cleans said core bytes → IsRun m s sound w moves said core bytes
  gone came failed w moves tickets issued scans cleans said core bytes going = record {
    events = going.events;
    happened = going.happened;
    made = going.made;
    stands = (going.running).stands;
    same = (going.running).same;
  }

  -- the same, with its faults and their causes
  pub gone_noted : {A : Type 0} (came : ℕ → ℕ → ℕ → Type 0) (failed : Bool) (w : World Content) (moves : List (Move K V P A)) (tickets : List (Option Ticket)) (issued : List (Option Issued)) (scans : List (Option Part)) (cleans : List Bool) (said : List (Reply K V P A)) (core : Core K V P A) (bytes : ℕ → ℕ → ℕ)
      → IsGoing came failed w moves tickets issued scans cleans said core bytes → IsRunNoted m s sound came failed w moves said core bytes
  gone_noted came failed w moves tickets issued scans cleans said core bytes going = record {
    run = record {
      events = going.events;
      happened = going.happened;
      made = going.made;
      stands = (going.running).stands;
      same = (going.running).same;
    };
    causes = going.causes;
    faults = going.faults;
  }

  -- where a run begins
  pub going_begun : {A : Type 0} (came : ℕ → ℕ → ℕ → Type 0) (w : World Content) (tickets : List (Option Ticket)) (issued : List (Option Issued)) (scans : List (Option Part)) (cleans : List Bool) (said : List (Reply K V P A)) (core : Core K V P A) (bytes : ℕ → ℕ → ℕ) → IsStateOf m s core w.core → ((b o : ℕ) → w.bytes b o ≡ bytes b o)
      → tickets ≡ [] → issued ≡ replicate s.flushers None → scans ≡ replicate s.blocks None → cleans ≡ replicate s.blocks false → said ≡ [] → IsGoing came false w [] tickets issued scans cleans said core bytes
  going_begun came w tickets issued scans cleans said core bytes stands same ts is unscanned uncleaned ss =
      subst (λ us. IsGoing came false w [] us issued scans cleans said core bytes) (sym ts) (subst (λ rs. IsGoing came false w [] [] issued scans cleans rs core bytes) (sym ss) (going_first came w issued scans cleans core bytes stands same is unscanned uncleaned))

pub err_is : {T E P : Type 0} (o : Result T E) → P → OnErr o P
err_is (Ok x) p = tt
err_is (Err e) p = p

module _ {K V P : Type 0} (m : Meaning K V P) where
  -- no move was made yet
  pub front_none : {A : Type 0} (moves : List (Move K V P A)) (core : Core K V P A) (bytes : ℕ → ℕ → ℕ) → IsFront m moves core core bytes bytes
  front_none moves core bytes = record {
    front = [];
    rest = moves;
    said = [];
    is = refl;
    runs = λ s sound w stands same. record { events = []; happened = tt; made = (refl, refl); stands = stands; same = same };
  }

  -- these moves were made
  pub front_of : {A : Type 0} (came : ℕ → ℕ → ℕ → Type 0) (failed : Bool) (moves yielded left : List (Move K V P A)) (tickets : List (Option Ticket)) (issued : List (Option Issued)) (scans : List (Option Part)) (cleans : List Bool) (said : List (Reply K V P A)) (old new : Core K V P A) (bytes bytes' : ℕ → ℕ → ℕ)
      → moves ≡ yielded ++ left
      → ((s : Settings) (sound : AreValid s) (w : World Content) → IsStateOf m s old w.core → ((b o : ℕ) → w.bytes b o ≡ bytes b o) → IsGoing m s sound came failed w yielded tickets issued scans cleans said new bytes')
      → IsFront m moves old new bytes bytes'
  front_of came failed moves yielded left tickets issued scans cleans said old new bytes bytes' is going = record {
    front = yielded;
    rest = left;
    said = said;
    is = is;
    runs = λ s sound w stands same. gone m s sound came failed w yielded tickets issued scans cleans said new bytes' (going s sound w stands same);
  }
