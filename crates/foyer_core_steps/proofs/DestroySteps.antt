-- A destroy's steps in the whole core.
use Rattle.std.proofs.Common.{◌≡◌, ℕ, zero, suc, ◌+◌, ◌^◌, ◌*◌, ◌<◌, ◌≤◌, ◌==◌, nat_lt, Bool, true, false, if◌then◌else◌, List, [], ◌∷◌, ◌++◌, length, take, drop, map, slice_get, Option, Some, None, is_some, option_map, inl, inr, refl, sym, ap, subst, ◌∙◌, arith}
use Rattle.std.proofs.lemmas.Bool.{eqb-true, eq-eqb}
use Rattle.std.proofs.lemmas.Bool.Decides.{nat_tests}
use Rattle.std.proofs.lemmas.List.{at_drop_all, append-nil, take_all}
use Rattle.std.proofs.lemmas.Option.{slice_get-map}
use Rattle.std.specs.FinMap as finite
use Rattle.std.specs.FinMap.{get-empty}
use Rattle.std.proofs.Common.{nat_cmp}
use Rattle.foyer_block_index.specs.declared.indexer.Index.TheVariants.{Address}
use Rattle.foyer_format_layout.specs.Position.{Sizes}
use Rattle.foyer_format_buffer.specs.Position.{fresh_context}
use Rattle.foyer_core_flusher.specs.Bridge.{position_of}
use Rattle.foyer_core_model.specs.Destroy.{vacated, refilled, IsIdle}
use Rattle.foyer_core_model.specs.Ids.{ids, is_id_in}
use Rattle.foyer_core_model.specs.InTurn.{MayClear}
use Rattle.foyer_core_model.specs.Reclaim.{running}
use Rattle.foyer_core_model.specs.Rules.{first_position}
use Rattle.foyer_core_model.specs.State as model_state
use Rattle.foyer_core_model.proofs.Ids.{in_append}
use Rattle.foyer_core_flusher.specs.Content.{Content, Meaning}
use Rattle.foyer_core_flusher.specs.CoreRules.{machine}
use Rattle.foyer_core_flusher.specs.Sizes.{AreValid}
use Rattle.foyer_core_flusher.specs.Settings.{Settings}
use Rattle.foyer_block_manager.specs.BlockSets.{Stands, HasSameRules, is_reclaimed, reclaim_count}
use Rattle.foyer_block_manager.specs.Clearing as sets
use Rattle.foyer_core_flusher.proofs.ListLemmas.{map_count, some_is}
use Rattle.foyer_core_flusher.specs.Standing.{sets_of, slot_of, IsIndexedAs}
use Rattle.foyer_core_flusher.specs.Cleared.{are_still, cleared}
use Rattle.foyer_core_flusher.specs.Flushing.{AreBatched, IsFlusherAs}
use Rattle.foyer_core_flusher.specs.Seen.{Seen, seen}
use Rattle.foyer_core_flusher.specs.Taking.{size_in}
use Rattle.foyer_core_flusher.specs.declared.batch.Batch.{Batch}
use Rattle.foyer_core_flusher.specs.declared.flusher.Flusher.{Flusher}
use Rattle.foyer_core_steps.specs.Destroying.{IsDestroyAs, AreLeftAs}
use Rattle.foyer_core_steps.specs.Reclaiming.{Reclaiming, reclaim_at, AreReclaimAs}
use Rattle.foyer_core_steps.specs.StateOf.{IsStateOf, AreFlushersAs, size_of_all}
use Rattle.foyer_core_steps.specs.declared.destroy.Destroy.TheVariants as destroy
use Rattle.foyer_core_steps.specs.declared.state.Core.{Core}
use Rattle.foyer_core_steps.proofs.ReclaimSteps.{as_many_run}
use Rattle.foyer_core_steps.proofs.StateLemmas.{flushers_count}
use Rattle.foyer_core_steps.proofs.StillLemmas.{still_all, idle_all}

pub none_is : {X : Type 0} (o : Option X) → is_some o ≡ false → o ≡ None
none_is None e = refl
none_is (Some x) e = absurd (let f : true ≡ false = e in cc)

-- none runs, and so none is counted
none_running : (n : ℕ) (reclaims : ℕ → Option model_state.Reclaim) → ((b : ℕ) → reclaims b ≡ None) → running n reclaims ≡ 0
none_running zero reclaims none = refl
none_running (suc n) reclaims none =
    ap (λ (o : Option model_state.Reclaim). (if is_some o then 1 else 0) + running n reclaims) (none n) ∙ ap (λ k. 0 + k) (none_running n reclaims none)

-- if no reclaim is counted, none runs
none_counted : (n : ℕ) (reclaims : ℕ → Option model_state.Reclaim) → running n reclaims ≡ 0 → (b : ℕ) → b < n → reclaims b ≡ None
none_counted zero reclaims none b lt = absurd (omega arith)
none_counted (suc n) reclaims none b lt = go (is_some (reclaims n)) refl (none_counted n reclaims)
  where
    go : (t : Bool) → is_some (reclaims n) ≡ t → (running n reclaims ≡ 0 → (q : ℕ) → q < n → reclaims q ≡ None) → reclaims b ≡ None
    go true e below =
        let all : (if is_some (reclaims n) then 1 else 0) + running n reclaims ≡ 0 = none in
        let one : (if true then 1 else 0) + running n reclaims ≡ 0 = subst (λ (t : Bool). (if t then 1 else 0) + running n reclaims ≡ 0) e all in
        absurd (omega arith)
    go false e below =
        let all : (if is_some (reclaims n) then 1 else 0) + running n reclaims ≡ 0 = none in
        let rest : (if false then 1 else 0) + running n reclaims ≡ 0 = subst (λ (t : Bool). (if t then 1 else 0) + running n reclaims ≡ 0) e all in
        here (b == n) refl (below (omega arith))
      where
        here : (u : Bool) → (b == n) ≡ u → ((q : ℕ) → q < n → reclaims q ≡ None) → reclaims b ≡ None
        here true same rest = ap reclaims (eqb-true b n same) ∙ none_is (reclaims n) e
        here false other rest = rest b (grind (arith, nat_tests))

-- a list of ids has those below its bound
pub ids_below : (n b : ℕ) → is_id_in b (ids n) ≡ true → b < n
ids_below zero b is = absurd (let f : false ≡ true = is in cc)
ids_below (suc n) b is = elim (in_append b n (ids n) is) [
  | inl more ↦ let lt : b < n = ids_below n b more in omega arith
  | inr same ↦ omega arith
]

-- a block that no reclaim has isn't reclaimed once it was taken from its flusher
vacated_unreclaimed : (p : model_state.BlockSet) → is_reclaimed p ≡ false → is_reclaimed (vacated p) ≡ false
vacated_unreclaimed model_state.Clean not = refl
vacated_unreclaimed (model_state.Writes f) not = refl
vacated_unreclaimed model_state.Evictable not = refl
vacated_unreclaimed model_state.Reclaims not = not

vacated_reclaims : (s : Settings) (b : ℕ) (p : model_state.BlockSet) (n n' : ℕ) (o : Option Reclaiming) (its : Option model_state.Reclaim)
    → its ≡ None → AreReclaimAs s b p n o its → AreReclaimAs s b (vacated p) n' o its
vacated_reclaims s b p n n' None None e are = vacated_unreclaimed p are
vacated_reclaims s b p n n' (Some r) None e are = absurd are
vacated_reclaims s b p n n' o (Some it) e are = absurd (let f : Some it ≡ None = e in cc)

-- beyond the blocks none runs
none_beyond : (s : Settings) (b : ℕ) (p : model_state.BlockSet) (n : ℕ) (o : Option Reclaiming) (its : Option model_state.Reclaim)
    → AreReclaimAs s b p n o its → s.blocks ≤ b → its ≡ None
none_beyond s b p n None None are over = refl
none_beyond s b p n (Some r) (Some it) are over = let lt : b < s.blocks = (are.1).there in absurd (omega arith)
none_beyond s b p n None (Some it) are over = absurd are
none_beyond s b p n (Some r) None are over = absurd are

-- what is made of each of a list
made_of : {X Y : Type 0} (to : X → Y) (xs : List X) (f : ℕ) (y : Y) → slice_get (map to xs) f ≡ Some y → (x : X) × (slice_get xs f ≡ Some x) × (to x ≡ y)
made_of to [] f y e = absurd (let n : None ≡ Some y = e in cc)
made_of to (x ∷ xs) zero y e = (x, refl, some_is e)
made_of to (x ∷ xs) (suc f) y e = made_of to xs f y e

-- the whole list was borrowed
pub lent_all : {X : Type 0} (n : ℕ) (xs ys : List X) → length xs ≡ length ys → n ≡ length ys → take n (xs ++ drop (length xs) ys) ≡ xs
lent_all n xs ys same all =
    ap (λ l. take n (xs ++ l)) (at_drop_all (λ l. l) ys (length xs) (omega arith)) ∙ ap (take n) (append-nil xs) ∙ take_all n xs (omega arith)

-- a queue keeps its size
size_cleared : {C : Type 0} (n : ℕ) (its its' : ℕ → model_state.Flusher C) → ((f : ℕ) → (its' f).queue ≡ (its f).queue) → size_of_all n its' ≡ size_of_all n its
size_cleared zero its its' same = refl
size_cleared (suc n) its its' same =
    ap (λ q. size_in q + size_of_all n its') (same n) ∙ ap (λ k. size_in (its n).queue + k) (size_cleared n its its' same)

module _ {K V P A : Type 0} (m : Meaning K V P) (s : Settings) (sound : AreValid s) (core : Core K V P A) (it : model_state.State Content) (stands : IsStateOf m s core it) where
  each : (f : ℕ) (φ : Flusher K V P A) → slice_get core.flushers.items f ≡ Some φ → IsFlusherAs m s (seen φ) (it.flushers f)
  each f φ is = (stands.flushers).all f (seen φ) (slice_get-map seen core.flushers.items f ∙ ap (option_map seen) is)

  -- what the core asks for is what the model asks for
  pub may_clear : core.destroy ≡ destroy.Begun → are_still core.flushers.items ≡ true → (reclaim_count (length core.manager.blocks) it.place == 0) ≡ true → MayClear it
  may_clear begun still none = (
    subst (λ d. IsDestroyAs s.blocks d it.destroy) begun stands.destroy,
    λ f. idle f (nat_lt f (length core.flushers.items)) refl,
    λ b. unreclaimed b (nat_lt b s.blocks) refl,
  )
    where
      idle : (f : ℕ) (t : Bool) → nat_lt f (length core.flushers.items) ≡ t → IsIdle (it.flushers f)
      idle f true e = idle_all m s core.flushers.items it.flushers each still f (grind (arith, nat_tests))
      idle f false e =
          let over : length core.flushers.items ≤ f = grind (arith, nat_tests) in
          let count : length core.flushers.items ≡ s.flushers = flushers_count m s core.flushers.items it.flushers stands.flushers in
          (stands.flushers).beyond f (omega arith)

      counted : running s.blocks it.reclaims ≡ 0
      counted = as_many_run m s sound core it stands ∙ ap (λ n. reclaim_count n it.place) (sym (stands.manager).blocks) ∙ eqb-true (reclaim_count (length core.manager.blocks) it.place) 0 none

      unreclaimed : (b : ℕ) (t : Bool) → nat_lt b s.blocks ≡ t → it.reclaims b ≡ None
      unreclaimed b true e = none_counted s.blocks it.reclaims counted b (grind (arith, nat_tests))
      unreclaimed b false e = none_beyond s b (it.place b) (it.filling b) (reclaim_at core.reclaims b) (it.reclaims b) (stands.reclaims b) (grind (arith, nat_tests))

  -- each block is left
  pub all_left : (left : List ℕ) → left ≡ ids s.blocks → AreLeftAs s.blocks left (ids s.blocks)
  all_left left is = record { same = λ b. ap (is_id_in b) (sym is); there = λ b among. ids_below s.blocks b among }

  pub must_be_still : MayClear it → are_still core.flushers.items ≡ true
  must_be_still may = still_all m s core.flushers.items it.flushers each may.1

  pub must_run_none : MayClear it → (reclaim_count (length core.manager.blocks) it.place == 0) ≡ true
  must_run_none may = eq-eqb (reclaim_count (length core.manager.blocks) it.place) 0
      (ap (λ n. reclaim_count n it.place) (stands.manager).blocks ∙ sym (as_many_run m s sound core it stands) ∙ none_running s.blocks it.reclaims may.2)

  pub must_be_begun : MayClear it → it.destroy ≡ model_state.Begun
  must_be_begun may = may.0

  abbrev pub fresh : model_state.Flusher Content → model_state.Flusher Content
  fresh φ = record φ { own = None; ready = None; context = first_position (machine m s sound) }

  -- the model's state with an index that has nothing
  abbrev pub after_clear : model_state.State Content
  after_clear = record it {
    index = λ h. None;
    filling = refilled s.blocks it.filling;
    place = λ b. vacated (it.place b);
    flushers = λ f. fresh (it.flushers f);
    destroy = model_state.Cleaning (ids s.blocks) None;
  }

  no_batch : (own : Option ℕ) (batch : Option (Batch K V P A)) (x : Option (model_state.Batch Content)) → x ≡ None → AreBatched m s own batch x → AreBatched m s None batch x
  no_batch own None None e are = tt
  no_batch own (Some b) None e are = absurd are
  no_batch own batch (Some x) e are = absurd (let f : Some x ≡ None = e in cc)

  fresh_stands : (φ : Seen K V P A) (x : model_state.Flusher Content) → IsIdle x → IsFlusherAs m s φ x → IsFlusherAs m s (cleared φ) (fresh x)
  fresh_stands φ x idle is = record {
    queue = is.queue;
    buffer = is.buffer;
    room = is.room;
    greatest = is.greatest;
    given = is.given;
    marks = is.marks;
    invalidated = is.invalidated;
    waits = is.waits;
    own = refl;
    there = tt;
    sizes = is.sizes;
    context = ap (λ (z : Sizes). position_of (fresh_context z).filling) (sym is.sizes);
    goes_on = record {
      past = let le : s.blob_index_size ≤ s.blob_index_size = omega arith in le;
      room = let page : 4096 ≤ s.blob_index_size = (machine m s sound).index_holds_page in let lt : s.blob_index_size < s.block_size = sound.room in omega arith;
    };
    batch = no_batch φ.own φ.batch x.batch idle.4 is.batch;
  }

  -- the core after that
  pub clears : (new : Core K V P A) (left : List ℕ) → MayClear it → new.settings ≡ core.settings → new.next ≡ core.next → new.steps ≡ core.steps
      → new.closed ≡ core.closed → new.queued ≡ core.queued → new.index.slots ≡ finite.empty
      → map seen new.flushers.items ≡ map cleared (map seen core.flushers.items) → HasSameRules core.manager new.manager
      → Stands new.manager (sets.cleared (length core.manager.blocks) (sets_of it))
      → ((b : ℕ) → reclaim_at new.reclaims b ≡ reclaim_at core.reclaims b)
      → IsDestroyAs s.blocks new.destroy (model_state.Cleaning (ids s.blocks) None) → IsStateOf m s new after_clear
  clears new left may settings next steps closed queued index flushers rules cleared_sets reclaims cleaning = record {
    sizes = settings ∙ stands.sizes;
    index = subst (λ k. IsIndexedAs s k (λ h. None)) (sym index) (record {
      slot = λ hash. sym (ap slot_of (get-empty nat_cmp hash));
      there = λ hash a is. absurd (let clash : None ≡ Some (Address a) = sym (get-empty nat_cmp hash) ∙ is in cc);
    });
    next = stands.next ∙ sym next;
    steps = stands.steps ∙ sym steps;
    closed = stands.closed ∙ sym closed;
    flushers = subst (λ xs. AreFlushersAs m s xs after_clear.flushers) (sym flushers) (record {
      count = map_count cleared (map seen core.flushers.items) ∙ (stands.flushers).count;
      all = λ f x is.
          let from = made_of cleared (map seen core.flushers.items) f x is in
          subst (λ y. IsFlusherAs m s y (fresh (it.flushers f))) from.2
          (fresh_stands from.0 (it.flushers f) (may.1 f) ((stands.flushers).all f from.0 from.1));
      beyond = λ f over. (stands.flushers).beyond f over;
    });
    queued = record {
      sum = queued ∙ (stands.queued).sum ∙ sym (size_cleared s.flushers it.flushers after_clear.flushers (λ f. refl));
      bound = subst (λ n. n ≤ new.next * 2 ^ 64) (sym queued) (subst (λ k. core.queued ≤ k * 2 ^ 64) (sym next) (stands.queued).bound);
    };
    manager = record {
      blocks = rules.blocks ∙ (stands.manager).blocks;
      flushers = rules.flushers ∙ (stands.manager).flushers;
      reclaimers = rules.reclaimers ∙ (stands.manager).reclaimers;
      clean_threshold = rules.clean_threshold ∙ (stands.manager).clean_threshold;
      sets = subst (λ n. Stands new.manager (sets.cleared n (sets_of it))) (stands.manager).blocks cleared_sets;
    };
    has = λ f. record {
      own = λ b is. absurd (let clash : None ≡ Some b = is in cc);
      ready = λ b is. absurd (let clash : None ≡ Some b = is in cc);
      waits = λ is. (refl, refl);
    };
    reclaims = λ b. subst (λ o. AreReclaimAs s b (vacated (it.place b)) (refilled s.blocks it.filling b) o (it.reclaims b)) (sym (reclaims b))
        (vacated_reclaims s b (it.place b) (it.filling b) (refilled s.blocks it.filling b) (reclaim_at core.reclaims b) (it.reclaims b) (may.2 b) (stands.reclaims b));
    destroy = cleaning;
  }
