-- The clear of a destroy, and its cleans, are events of the world.
use Rattle.std.proofs.Common.{◌≡◌, ℕ, zero, suc, ◌+◌, ◌<◌, ◌≤◌, ◌==◌, Bool, true, false, if◌then◌else◌, List, [], ◌∷◌, ◌++◌, inr, Option, Result, Ok, Err, refl, sym, ap, subst, ◌∙◌, arith}
use Rattle.std.proofs.lemmas.Bool.{eqb-true}
use Rattle.std.proofs.lemmas.Bool.Decides.{nat_tests}
use Rattle.std.specs.Prelude.{OnErr}
use Rattle.foyer_device_page.specs.declared.error.Error.{Error}
use Rattle.foyer_device_page.specs.declared.error.Error.TheVariants as error
use Rattle.foyer_core_model.specs.Access.{CleanState, CleanIssued, CleanInFlight, CleanDone, clean_begun, clean_ended, bytes_cleaned, cleans_after, IsTornClean}
use Rattle.foyer_core_model.specs.Follows.{Follows}
use Rattle.foyer_core_model.specs.Ids.{ids, is_id_in}
use Rattle.foyer_core_model.specs.Kind.{Kind}
use Rattle.foyer_core_model.specs.Numbers.{page}
use Rattle.foyer_core_model.specs.Reply as model_reply
use Rattle.foyer_core_model.specs.State.{State}
use Rattle.foyer_core_model.specs.Step as model_step
use Rattle.foyer_core_model.specs.World.{is_none, World, WorldEvent, Applies, CleanBegins, CleanEnds, after, after_all}
use Rattle.foyer_core_model.proofs.Basics.{put_same, put_other}
use Rattle.foyer_core_model.proofs.Ids.{in_front, in_last}
use Rattle.foyer_core_laws.specs.Content.{Content, Meaning}
use Rattle.foyer_core_laws.specs.CoreRules.{layout, machine, IsEncoded}
use Rattle.foyer_core_laws.specs.Settings.{Settings}
use Rattle.foyer_core_steps.specs.Asked.{fault_of, went_well}
use Rattle.foyer_core_steps.specs.Refines.{IsRefined, Refines}
use Rattle.foyer_core_steps.specs.StateOf.{IsStateOf}
use Rattle.foyer_core_steps.specs.declared.reply.Reply.{Reply}
use Rattle.foyer_core_steps.specs.declared.reply.Reply.TheVariants as reply
use Rattle.foyer_core_steps.specs.declared.state.Core.{Core}
use Rattle.foyer_core_steps.specs.declared.step.Step.TheVariants as step
use Rattle.foyer_core_run.specs.Causes.{DrivesForCause}
use Rattle.foyer_core_run.specs.Destroys.{AreCleansUpTo, Cleans, ClearsUpTo, IsClearing, IsUncleared}
use Rattle.foyer_core_run.specs.Waiting.{DrivesBy}
use Rattle.foyer_core_run.proofs.FaultLists.{causes_join, causes_within, unsure_failed}
use Rattle.foyer_core_run.proofs.ListLemmas.{append_twice}
use Rattle.foyer_core_run.proofs.ReclaimRuns.{IsCleanDone, clean_same, done_torn}
use Rattle.foyer_core_run.proofs.RunLemmas.{after_more, happen_more}

-- what went well has no fault
pub went_fault : {X : Type 0} (r : Result X Error) → went_well r ≡ is_none (fault_of r)
went_fault (Ok x) = refl
went_fault (Err error.Io) = refl
went_fault (Err error.Memory) = refl
went_fault (Err error.Config) = refl
went_fault (Err error.Parse) = refl
went_fault (Err error.MagicMismatch) = refl
went_fault (Err error.ChecksumMismatch) = refl
went_fault (Err error.OutOfRange) = refl
went_fault (Err error.BufferSizeLimit) = refl
went_fault (Err error.NoSpace) = refl
went_fault (Err error.Recover) = refl
went_fault (Err error.Closed) = refl
went_fault (Err error.Unsupported) = refl
went_fault (Err error.SequenceEnd) = refl

-- each id below a bound is among those
in_ids : (n b : ℕ) → b < n → is_id_in b (ids n) ≡ true
in_ids zero b lt = absurd (omega arith)
in_ids (suc n) b lt = go (b == n) refl (λ less. in_ids n b less)
  where
    go : (t : Bool) → (b == n) ≡ t → (b < n → is_id_in b (ids n) ≡ true) → is_id_in b (ids (suc n)) ≡ true
    go true e below = subst (λ k. is_id_in k (ids n ++ n ∷ []) ≡ true) (sym (eqb-true b n e)) (in_last n (ids n))
    go false e below = in_front b (ids n) (n ∷ []) (below (grind (arith, nat_tests)))

-- the other cleans are as they were
pub cleans_other : {C : Type 0} (it : model_reply.Reply C) (b q : ℕ) (fault : Option Kind) (cleans : ℕ → CleanState) → (q ≡ b → ⊥)
    → cleans_after it (model_step.DestroyCleaned b fault) cleans q ≡ cleans q
cleans_other model_reply.Done b q fault cleans ne = put_other cleans b _ q ne
cleans_other (model_reply.Destroyed first) b q fault cleans ne = put_other cleans b _ q ne
cleans_other it b q fault cleans ne = refl

-- one clean more
cleans_more : {C : Type 0} (n : ℕ) (events : List (WorldEvent C)) (is_ok : Bool) (torn : ℕ → ℕ) (fault : Option Kind) (it : model_reply.Reply C) (st : State C) (more : List (WorldEvent C))
    → AreCleansUpTo n events → more ≡ CleanBegins n ∷ CleanEnds n is_ok torn ∷ Applies (model_step.DestroyCleaned n fault) it st ∷ [] → AreCleansUpTo (suc n) (events ++ more)
cleans_more n events is_ok torn fault it st more are is = record {
  before = events;
  is_ok = is_ok;
  torn = torn;
  fault = fault;
  it = it;
  after = st;
  is = ap (λ es. events ++ es) is;
  all = are;
}

module _ {K V P A : Type 0} (m : Meaning K V P) where
  -- a clean, if it is issued
  pub cleans_once : (came : ℕ → ℕ → ℕ → Type 0) (b : ℕ) (outcome : Result Unit Error) (answer : Reply K V P A) (old new : Core K V P A) (bytes bytes' : ℕ → ℕ → ℕ)
      → IsCleanDone bytes bytes' b (went_well outcome) → OnErr outcome (came b 0 page → ⊥) → Refines m (step.DestroyCleaned b outcome) answer old new → Cleans m came b answer old new bytes bytes'
  cleans_once came b outcome answer old new bytes bytes' done unsure cleans s sound w stands same issued = (
    record {
      events = CleanBegins b ∷ CleanEnds b ok (bytes' b) ∷ Applies (model_step.DestroyCleaned b (fault_of outcome)) met.it met.after ∷ [];
      happened = (tt, (torn, ((finished ∙ ap CleanDone (went_fault outcome), met.follows), tt)));
      stands = met.stands;
      same = λ d o. subst (λ q. bytes_cleaned ok (bytes' b) b q w.bytes d o ≡ bytes' d o) (sym flying) (clean_same w.bytes bytes bytes' b ok done same d o);
    },
    record {
      is_ok = ok;
      torn = bytes' b;
      fault = fault_of outcome;
      it = met.it;
      after = met.after;
      is = refl;
      reply = met.reply;
      others = λ q ne.
          cleans_other met.it b q (fault_of outcome) w2.clean_states ne
          ∙ put_other w1.clean_states b (clean_ended ok (w1.clean_states b)) q ne ∙ put_other w.clean_states b (clean_begun (w.clean_states b)) q ne;
    },
    (tt, (unsure_failed outcome unsure, (tt, tt))),
  )
    where
      ok : Bool
      ok = went_well outcome

      met : IsRefined m s sound (step.DestroyCleaned b outcome) answer new w.core
      met = cleans s sound w.core stands

      w1 : World Content
      w1 = after (machine m s sound) w (CleanBegins b)

      w2 : World Content
      w2 = after (machine m s sound) w1 (CleanEnds b (went_well outcome) (bytes' b))

      flying : w1.clean_states b ≡ CleanInFlight
      flying = put_same w.clean_states b (clean_begun (w.clean_states b)) ∙ ap clean_begun issued

      finished : w2.clean_states b ≡ CleanDone (went_well outcome)
      finished = put_same w1.clean_states b (clean_ended (went_well outcome) (w1.clean_states b)) ∙ ap (clean_ended (went_well outcome)) flying

      torn : IsTornClean w.bytes b (w1.clean_states b) (bytes' b)
      torn =
          subst (λ q. IsTornClean w.bytes b q (bytes' b)) (sym flying)
          (λ o le. done_torn bytes bytes' b (went_well outcome) done b o (inr (inr le)) ∙ sym (same b o))

  -- the index is cleared, and each clean is issued
  pub clears_first : (came : ℕ → ℕ → ℕ → Type 0) (old new : Core K V P A) (bytes : ℕ → ℕ → ℕ) → Refines m step.DestroyClear reply.Cleared old new → ClearsUpTo m came 0 reply.Cleared old new bytes bytes
  clears_first came old new bytes clears s sound w stands same =
      let met = clears s sound w.core stands in
      let bs = (met.reply).0 in
      let follows : Follows (machine m s sound) (layout s) w.core model_step.DestroyClear (model_reply.Cleared bs) met.after =
      subst (λ i. Follows (machine m s sound) (layout s) w.core model_step.DestroyClear i met.after) (met.reply).1 met.follows in
      let all : bs ≡ ids s.blocks = (((follows.2).1).0) in (
        record {
          events = Applies model_step.DestroyClear (model_reply.Cleared bs) met.after ∷ [];
          happened = ((tt, follows), tt);
          stands = met.stands;
          same = same;
        },
        record {
          blocks = bs;
          after = met.after;
          rest = [];
          is = refl;
          cleans = refl;
          ends = record { before = []; given = model_step.DestroyClear; it = model_reply.Cleared bs; after = met.after; is = refl; reply = (bs, refl) };
        },
        (λ b le lt. ap (λ t. if t then CleanIssued else w.clean_states b) (ap (is_id_in b) all ∙ in_ids s.blocks b lt)),
        (tt, tt),
      )

  -- one clean more
  pub clears_more : (came before behind : ℕ → ℕ → ℕ → Type 0) → ((b o n : ℕ) → came b o n → before b o n) → ((b o n : ℕ) → came b o n → behind b o n) → (i : ℕ) (last answer : Reply K V P A) (a b c : Core K V P A) (x y z : ℕ → ℕ → ℕ) → i < a.settings.blocks
      → ClearsUpTo m before i last a b x y → Cleans m behind i answer b c y z → ClearsUpTo m came (i + 1) answer a c x z
  clears_more came before behind within more i last answer a b c x y z there first next s sound w stands same =
      let rules = machine m s sound in
      let one = first s sound w stands same in
      let v = after_all rules w (one.0).events in
      let lt : i < s.blocks = subst (λ (k : Settings). i < k.blocks) stands.sizes there in
      let two = next s sound v (one.0).stands (one.0).same (one.2 i (let le : i ≤ i = omega arith in le) lt) in
      let joined = after_more rules w (one.0).events (two.0).events in
      let done = two.1 in (
        record {
          events = (one.0).events ++ (two.0).events;
          happened = happen_more rules (layout s) (IsEncoded m.is_key m.is_value) w (one.0).events (two.0).events (one.0).happened (two.0).happened;
          stands = subst (λ u. IsStateOf m s c u.core) (sym joined) (two.0).stands;
          same = λ d o. ap (λ u. u.bytes d o) joined ∙ (two.0).same d o;
        },
        record {
          blocks = (one.1).blocks;
          after = (one.1).after;
          rest = (one.1).rest ++ (two.0).events;
          is = ap (λ es. es ++ (two.0).events) (one.1).is;
          cleans = subst (λ k. AreCleansUpTo k ((one.1).rest ++ (two.0).events)) (let e : suc i ≡ i + 1 = omega arith in e)
              (cleans_more i (one.1).rest done.is_ok done.torn done.fault done.it done.after (two.0).events (one.1).cleans done.is);
          ends = record {
            before = (one.0).events ++ CleanBegins i ∷ CleanEnds i done.is_ok done.torn ∷ [];
            given = model_step.DestroyCleaned i done.fault;
            it = done.it;
            after = done.after;
            is = ap (λ es. (one.0).events ++ es) done.is
                ∙ sym (append_twice (one.0).events (CleanBegins i ∷ CleanEnds i done.is_ok done.torn ∷ []) (Applies (model_step.DestroyCleaned i done.fault) done.it done.after ∷ []));
            reply = done.reply;
          };
        },
        (λ q le below.
            let ne : q ≡ i → ⊥ = λ e. omega arith in
            ap (λ u. u.clean_states q) joined ∙ done.others q ne ∙ one.2 q (omega arith) below),
        causes_join came rules w (one.0).events (two.0).events (causes_within within rules w (one.0).events one.3) (causes_within more rules v (two.0).events two.2),
      )

  -- until all blocks are cleaned
  pub clears_all : (came : ℕ → ℕ → ℕ → Type 0) (i n : ℕ) (last : Reply K V P A) (a b : Core K V P A) (x y : ℕ → ℕ → ℕ) → i ≡ n → ClearsUpTo m came i last a b x y
      → DrivesForCause came (IsClearing m n last) m a b x y
  clears_all came i n last a b x y all clears s sound w stands same =
      let done = clears s sound w stands same in (done.0, subst (λ k. IsClearing m k last (done.0).events) all done.1, done.3)

  -- the step came back
  pub clears_nothing : (answer : Reply K V P A) (old new : Core K V P A) (bytes : ℕ → ℕ → ℕ) → Refines m step.DestroyClear answer old new → DrivesBy (IsUncleared m answer) m old new bytes bytes
  clears_nothing answer old new bytes meets s sound w stands same =
      let met = meets s sound w.core stands in (
        record {
          events = Applies model_step.DestroyClear met.it met.after ∷ [];
          happened = ((tt, met.follows), tt);
          stands = met.stands;
          same = same;
        },
        record { it = met.it; after = met.after; is = refl; reply = met.reply },
      )
