-- The cleans of a destroy.
use Rattle.std.proofs.Common.{◌≡◌, ◌≢◌, ℕ, ◌<◌, ◌==◌, Bool, true, false, if◌then◌else◌, List, [], ◌∷◌, map, Option, Some, None, Result, Ok, Err, ◌⊎◌, inl, inr, refl, sym, ap, subst, ◌∙◌}
use Rattle.std.proofs.lemmas.Bool.{eqb-true, eqb-false}
use Rattle.foyer_device_page.specs.declared.error.Error.{Error}
use Rattle.foyer_device_page.specs.declared.error.Error.TheVariants as error
use Rattle.foyer_device_page.specs.declared.error.ErrorKind.{ErrorKind}
use Rattle.foyer_core_model.specs.Destroy.{CleansOne, first_fault, after_clean, issued_after_clean}
use Rattle.foyer_core_model.specs.Flush.{is_cleaning}
use Rattle.foyer_core_model.specs.Ids.{is_id_in, without_id}
use Rattle.foyer_core_model.specs.InTurn.{AwaitsClean}
use Rattle.foyer_core_model.specs.Numbers.{put}
use Rattle.foyer_core_model.specs.Reply as model_reply
use Rattle.foyer_core_model.specs.State as model_state
use Rattle.foyer_core_model.proofs.Ids.{same_in, later_in, in_cases, in_without}
use Rattle.foyer_core_flusher.specs.Content.{Content, Meaning}
use Rattle.foyer_core_flusher.specs.CoreRules.{machine}
use Rattle.foyer_core_flusher.specs.Sizes.{AreValid}
use Rattle.foyer_core_flusher.specs.Settings.{Settings}
use Rattle.foyer_block_manager.proofs.IdLemmas.{same_test}
use Rattle.foyer_block_manager.specs.BlockSets.{Stands, HasSameRules}
use Rattle.foyer_block_manager.specs.IdList.{IdList, IsWithout}
use Rattle.foyer_core_flusher.specs.Standing.{sets_of, IsIndexedAs}
use Rattle.foyer_core_flusher.specs.Seen.{seen}
use Rattle.foyer_core_steps.specs.Asked.{fault_of}
use Rattle.foyer_core_steps.specs.Destroying.{awaits, fault_kind, first_of, HasCleaned, HasEnded, IsFaultAs, IsDestroyAs, AreLeftAs}
use Rattle.foyer_core_steps.specs.Reclaiming.{reclaim_at, AreReclaimAs}
use Rattle.foyer_core_steps.specs.StateOf.{IsStateOf, AreFlushersAs, IsSizedAs}
use Rattle.foyer_core_steps.specs.declared.destroy.Destroy.{Destroy}
use Rattle.foyer_core_steps.specs.declared.destroy.Destroy.TheVariants as destroy
use Rattle.foyer_core_steps.specs.declared.state.Core.{Core}

-- the core's fault is the model's
fault_as : {X : Type 0} (r : Result X Error) → IsFaultAs (fault_kind r) (fault_of r)
fault_as (Ok x) = refl
fault_as (Err error.Io) = (model_reply.Io, refl, refl)
fault_as (Err error.Memory) = (model_reply.Memory, refl, refl)
fault_as (Err error.Config) = (model_reply.Io, refl, refl)
fault_as (Err error.Parse) = (model_reply.Io, refl, refl)
fault_as (Err error.MagicMismatch) = (model_reply.Io, refl, refl)
fault_as (Err error.ChecksumMismatch) = (model_reply.Io, refl, refl)
fault_as (Err error.OutOfRange) = (model_reply.Io, refl, refl)
fault_as (Err error.BufferSizeLimit) = (model_reply.Io, refl, refl)
fault_as (Err error.NoSpace) = (model_reply.Io, refl, refl)
fault_as (Err error.Recover) = (model_reply.Io, refl, refl)
fault_as (Err error.Closed) = (model_reply.Io, refl, refl)
fault_as (Err error.Unsupported) = (model_reply.Io, refl, refl)
fault_as (Err error.SequenceEnd) = (model_reply.Io, refl, refl)

first_as : (first fault : Option ErrorKind) (its before : Option model_reply.Kind) → IsFaultAs first before → IsFaultAs fault its
    → IsFaultAs (first_of first fault) (first_fault before its)
first_as None fault its before are is = subst (λ b. IsFaultAs fault (first_fault b its)) (sym are) is
first_as (Some k) fault its before are is = (are.0, are.1, ap (λ b. first_fault b its) are.2)

stays_in : (q b : ℕ) (xs : List ℕ) → (q ≡ b → ⊥) → is_id_in q xs ≡ true → is_id_in q (without_id b xs) ≡ true
stays_in q b [] ne is = is
stays_in q b (x ∷ xs) ne is = go (b == x) refl (in_cases q x xs is) (stays_in q b xs ne)
  where
    go : (t : Bool) → (b == x) ≡ t → ((q ≡ x) ⊎ (is_id_in q xs ≡ true)) → (is_id_in q xs ≡ true → is_id_in q (without_id b xs) ≡ true)
        → is_id_in q (if t then without_id b xs else x ∷ without_id b xs) ≡ true
    go true e cases rec = elim cases [ inl same ↦ absurd (ne (same ∙ sym (eqb-true b x e))) | inr more ↦ rec more ]
    go false e cases rec = elim cases [
      | inl same ↦ subst (λ k. is_id_in q (k ∷ without_id b xs) ≡ true) same (same_in q (without_id b xs))
      | inr more ↦ later_in q x (without_id b xs) (rec more)
    ]

-- one id less is left
left_without : (blocks b : ℕ) (left rest its : List ℕ) → AreLeftAs blocks left its → IsWithout b left rest → AreLeftAs blocks rest (without_id b its)
left_without blocks b left rest its are gone = record {
  same = λ q. same_test (is_id_in q (without_id b its)) (is_id_in q rest)
      (λ is. let w = in_without q b its is in go q (q == b) refl w.1 (sym (are.same q) ∙ w.0))
      (λ is. back q (q == b) refl (sym (gone q) ∙ is));
  there = λ q is. are.there q (in_without q b its is).0;
}
  where
    go : (q : ℕ) (t : Bool) → (q == b) ≡ t → (q ≡ b → ⊥) → is_id_in q left ≡ true → is_id_in q rest ≡ true
    go q true e ne is = absurd (ne (eqb-true q b e))
    go q false e ne is = gone q ∙ ap (λ t. if t then false else is_id_in q left) e ∙ is

    back : (q : ℕ) (t : Bool) → (q == b) ≡ t → (if q == b then false else is_id_in q left) ≡ true → is_id_in q (without_id b its) ≡ true
    back q true e is = absurd (let f : false ≡ true = sym (ap (λ t. if t then false else is_id_in q left) e) ∙ is in cc)
    back q false e is = stays_in q b its (eqb-false q b e) (are.same q ∙ (sym (ap (λ t. if t then false else is_id_in q left) e) ∙ is))

some_left : (left its : List ℕ) → ((b : ℕ) → is_id_in b its ≡ is_id_in b left) → (left ≢ []) → its ≢ []
some_left [] its same some = absurd (some refl)
some_left (b ∷ bs) [] same some = λ e. let f : false ≡ true = same b ∙ same_in b bs in cc
some_left (b ∷ bs) (c ∷ cs) same some = λ e. cc

none_left : (its : List ℕ) → ((b : ℕ) → is_id_in b its ≡ is_id_in b []) → its ≡ []
none_left [] same = refl
none_left (b ∷ bs) same = absurd (let f : true ≡ false = sym (same_in b bs) ∙ same b in cc)

done_while : {C : Type 0} (ws : List ℕ) (fault : Option model_reply.Kind) → ws ≢ [] → issued_after_clean {C = C} ws fault ≡ model_reply.Done
done_while [] fault some = absurd (some refl)
done_while (w ∷ ws) fault some = refl

cleans_while : (ws : List ℕ) (fault : Option model_reply.Kind) → ws ≢ [] → after_clean ws fault ≡ model_state.Cleaning ws fault
cleans_while [] fault some = absurd (some refl)
cleans_while (w ∷ ws) fault some = refl

-- a destroy of the model that cleans, and awaits this clean
pub record Cleans {A : Type 0} (blocks b : ℕ) (d : Destroy A) (it : model_state.Destroy) : Type 0 where
  pub left : IdList
  pub first : Option ErrorKind
  pub is : d ≡ destroy.Cleaning left first
  pub its : List ℕ
  pub fault : Option model_reply.Kind
  pub same : AreLeftAs blocks left.ids its
  pub faults : IsFaultAs first fault
  pub model : it ≡ model_state.Cleaning its fault
  pub among : is_id_in b its ≡ true

pub cleans : {A : Type 0} (blocks b : ℕ) (d : Destroy A) (it : model_state.Destroy) → IsDestroyAs blocks d it → awaits b d ≡ true → Cleans blocks b d it
cleans blocks b destroy.Absent it are waits = absurd (let f : false ≡ true = waits in cc)
cleans blocks b destroy.Begun it are waits = absurd (let f : false ≡ true = waits in cc)
cleans blocks b (destroy.Cleaning left first) it are waits = record {
  left = left;
  first = first;
  is = refl;
  its = are.0;
  fault = are.1;
  same = are.2;
  faults = are.3;
  model = are.4;
  among = (are.2).same b ∙ waits;
}

-- if the core doesn't await a clean, the model doesn't
pub not_awaited : {A : Type 0} (blocks b : ℕ) (d : Destroy A) (it : model_state.Destroy) → IsDestroyAs blocks d it → AwaitsClean b it → awaits b d ≡ true
not_awaited blocks b destroy.Absent it are waits = absurd (subst (AwaitsClean b) are waits)
not_awaited blocks b destroy.Begun it are waits = absurd (subst (AwaitsClean b) are waits)
not_awaited blocks b (destroy.Cleaning left first) it are waits = sym ((are.2).same b) ∙ subst (AwaitsClean b) are.4 waits

module _ {K V P A X : Type 0} (m : Meaning K V P) (s : Settings) (sound : AreValid s) (core : Core K V P A) (it : model_state.State Content) (stands : IsStateOf m s core it)
    (b : ℕ) (outcome : Result X Error) (waits : awaits b core.destroy ≡ true) where
  pub mine : Cleans s.blocks b core.destroy it.destroy
  mine = cleans s.blocks b core.destroy it.destroy stands.destroy waits

  pub in_turn : (b < s.blocks) × AwaitsClean b it.destroy
  in_turn = (mine.same.there b mine.among, subst (AwaitsClean b) (sym mine.model) mine.among)

  abbrev pub rest : List ℕ
  rest = without_id b mine.its

  abbrev pub its_fault : Option model_reply.Kind
  its_fault = first_fault mine.fault (fault_of outcome)

  -- the model's state after it
  abbrev pub after_cleaned : model_state.State Content
  after_cleaned = record it { destroy = after_clean rest its_fault; stats = put it.stats b model_state.no_stats }

  pub does : CleansOne (machine m s sound) it b (fault_of outcome) it.destroy (issued_after_clean rest its_fault) after_cleaned
  does = subst (λ d. CleansOne (machine m s sound) it b (fault_of outcome) d (issued_after_clean rest its_fault) after_cleaned) (sym mine.model) (refl, refl)

  pub cleaned_stands : (new : Core K V P A) → new.settings ≡ core.settings → new.next ≡ core.next → new.steps ≡ core.steps
      → new.closed ≡ core.closed → new.queued ≡ core.queued → new.index.slots ≡ core.index.slots → new.flushers.items ≡ core.flushers.items
      → HasSameRules core.manager new.manager → Stands new.manager (sets_of after_cleaned) → ((q : ℕ) → reclaim_at new.reclaims q ≡ reclaim_at core.reclaims q)
      → IsDestroyAs s.blocks new.destroy after_cleaned.destroy → IsStateOf m s new after_cleaned
  cleaned_stands new settings next steps closed queued index flushers rules sets reclaims cleaning = record {
    sizes = settings ∙ stands.sizes;
    index = subst (λ k. IsIndexedAs s k it.index) (sym index) stands.index;
    next = stands.next ∙ sym next;
    steps = stands.steps ∙ sym steps;
    closed = stands.closed ∙ sym closed;
    flushers = subst (λ xs. AreFlushersAs m s (map seen xs) it.flushers) (sym flushers) stands.flushers;
    queued = subst (λ n. IsSizedAs s new.queued n it.flushers) (sym next) (subst (λ q. IsSizedAs s q core.next it.flushers) (sym queued) stands.queued);
    manager = record {
      blocks = rules.blocks ∙ (stands.manager).blocks;
      flushers = rules.flushers ∙ (stands.manager).flushers;
      reclaimers = rules.reclaimers ∙ (stands.manager).reclaimers;
      clean_threshold = rules.clean_threshold ∙ (stands.manager).clean_threshold;
      sets = sets;
    };
    has = stands.has;
    reclaims = λ q. subst (λ o. AreReclaimAs s q (it.place q) (it.filling q) o (it.reclaims q)) (sym (reclaims q)) (stands.reclaims q);
    destroy = cleaning;
  }

  -- another clean has yet to come
  pub record GoesOn (new : Destroy A) : Type 0 where
    pub as_model : IsDestroyAs s.blocks new (after_clean rest its_fault)
    pub says : issued_after_clean {C = Content} rest its_fault ≡ model_reply.Done
    pub cleaning : is_cleaning it.destroy ≡ is_cleaning (after_clean rest its_fault)

  pub goes_on : (new : Destroy A) → HasCleaned b (fault_kind outcome) core.destroy new → GoesOn new
  goes_on new has =
      let h = subst (λ d. HasCleaned b (fault_kind outcome) d new) mine.is has in
      let left : AreLeftAs s.blocks (h.0).ids rest = left_without s.blocks b (mine.left).ids (h.0).ids mine.its mine.same h.1 in
      let some : rest ≢ [] = some_left (h.0).ids rest left.same h.2 in
      let more : after_clean rest its_fault ≡ model_state.Cleaning rest its_fault = cleans_while rest its_fault some in
      record {
        as_model = subst (λ d. IsDestroyAs s.blocks d (after_clean rest its_fault)) (sym h.3)
            (rest, its_fault, left, first_as mine.first (fault_kind outcome) (fault_of outcome) mine.fault mine.faults (fault_as outcome), more);
        says = done_while rest its_fault some;
        cleaning = ap is_cleaning mine.model ∙ sym (ap is_cleaning more);
      }

  -- this was the last one
  pub record Ends (said : Option ErrorKind) (new : Destroy A) : Type 0 where
    pub as_model : IsDestroyAs s.blocks new (after_clean rest its_fault)
    pub says : issued_after_clean {C = Content} rest its_fault ≡ model_reply.Destroyed its_fault
    pub faults : IsFaultAs said its_fault
    pub quiet : is_cleaning (after_clean rest its_fault) ≡ false

  pub ends : (said : Option ErrorKind) (new : Destroy A) → HasEnded b (fault_kind outcome) said core.destroy new → Ends said new
  ends said new has =
      let h = subst (λ d. HasEnded b (fault_kind outcome) said d new) mine.is has in
      let left : AreLeftAs s.blocks [] rest = left_without s.blocks b (mine.left).ids [] mine.its mine.same h.0 in
      let none : rest ≡ [] = none_left rest left.same in
      record {
        as_model = subst (λ d. IsDestroyAs s.blocks d (after_clean rest its_fault)) (sym h.2) (ap (λ ws. after_clean ws its_fault) none);
        says = ap (λ ws. issued_after_clean ws its_fault) none;
        faults = subst (λ k. IsFaultAs k its_fault) (sym h.1) (first_as mine.first (fault_kind outcome) (fault_of outcome) mine.fault mine.faults (fault_as outcome));
        quiet = ap (λ ws. is_cleaning (after_clean ws its_fault)) none;
      }
