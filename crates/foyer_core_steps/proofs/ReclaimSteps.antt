-- When a reclaim may begin, and a core in which the index, the blocks and the reclaims changed.
use Rattle.std.proofs.lemmas.Bool.{eqb-true, eqb-false}
use Rattle.std.proofs.Common.{◌≡◌, ℕ, ◌*◌, ◌^◌, ◌<◌, ◌≤◌, ◌==◌, Bool, true, false, if◌then◌else◌, List, [], map, length, Option, Some, None, slice_get, inl, inr, refl, sym, ap, subst, ◌∙◌}
use Rattle.foyer_core_model.specs.InTurn.{InTurn}
use Rattle.foyer_core_model.specs.Numbers.{put}
use Rattle.foyer_core_model.specs.Record as model_record
use Rattle.foyer_core_model.specs.Record.{IndexEntry}
use Rattle.foyer_core_model.specs.Reclaim.{running}
use Rattle.foyer_core_model.specs.Refusal.{NeedsMemory}
use Rattle.foyer_core_model.specs.Reply as model_reply
use Rattle.foyer_core_model.specs.State as model_state
use Rattle.foyer_core_model.specs.Step as model_step
use Rattle.foyer_core_model.specs.Step.{ReadResult, Bytes, Fault}
use Rattle.foyer_core_model.proofs.Basics.{put_other}
use Rattle.foyer_core_flusher.specs.Content.{Content, Meaning}
use Rattle.foyer_core_flusher.specs.CoreRules.{machine, layout}
use Rattle.foyer_core_flusher.specs.Sizes.{AreValid}
use Rattle.foyer_core_flusher.specs.Settings.{Settings}
use Rattle.foyer_block_manager.specs.BlockSets.{BlockSets, Stands, MayReclaim, reclaim_count, model_set}
use Rattle.foyer_block_manager.specs.Managed.{Managed, IsReclaimed, is_evictable, is_evictable_set}
use Rattle.foyer_block_manager.specs.declared.block.states.BlockState.{BlockState}
use Rattle.foyer_block_manager.specs.declared.block.states.BlockSet.{BlockSet}
use Rattle.foyer_block_manager.specs.declared.block.states.BlockSet.TheVariants as set
use Rattle.foyer_block_manager.proofs.BlockStateLemmas.{there_is, is_there}
use Rattle.foyer_core_flusher.specs.Standing.{sets_of, IsIndexedAs, IsManagedAs, HasItsBlocks}
use Rattle.foyer_core_steps.specs.Destroying.{IsDestroyAs}
use Rattle.foyer_core_steps.specs.Reclaiming.{Reclaiming, Reclaims, ChangesReclaim, AreReclaimAs, reclaim_at}
use Rattle.foyer_core_steps.specs.StateOf.{IsStateOf, AreFlushersAs, size_of_all}
use Rattle.foyer_core_flusher.specs.Seen.{seen}
use Rattle.foyer_core_steps.specs.declared.state.Core.{Core}
use Rattle.foyer_core_steps.proofs.ReclaimLemmas.{runs_where, running_is}

module _ {K V P A : Type 0} (m : Meaning K V P) (s : Settings) (sound : AreValid s) (core : Core K V P A) (it : model_state.State Content) (stands : IsStateOf m s core it) where
  -- as many run as blocks are reclaimed
  pub as_many_run : running s.blocks it.reclaims ≡ reclaim_count s.blocks it.place
  as_many_run = running_is s.blocks it.place it.reclaims (λ b. runs_where s b (it.place b) (it.filling b) (reclaim_at core.reclaims b) (it.reclaims b) (stands.reclaims b))

  -- a reclaim may begin in the model if it may in the core
  pub may_begin : MayReclaim (length core.manager.blocks) core.manager.reclaimers core.manager.clean_threshold (sets_of it) → InTurn (machine m s sound) it model_step.ReclaimBegin
  may_begin may = record {
    wanted = elim sized.wanted [ inl few ↦ inl few | inr waits ↦ inr waits ];
    free = subst (λ n. n < s.reclaimers) (sym as_many_run) sized.free;
    some_block = sized.some_block;
    quiet = sized.quiet;
  }
    where
      sized : MayReclaim s.blocks s.reclaimers s.clean_block_threshold (sets_of it)
      sized =
          subst (λ n. MayReclaim s.blocks s.reclaimers n (sets_of it)) (stands.manager).clean_threshold
          (subst (λ n. MayReclaim s.blocks n core.manager.clean_threshold (sets_of it)) (stands.manager).reclaimers
          (subst (λ n. MayReclaim n core.manager.reclaimers core.manager.clean_threshold (sets_of it)) (stands.manager).blocks may))

  pub must_begin : InTurn (machine m s sound) it model_step.ReclaimBegin → MayReclaim (length core.manager.blocks) core.manager.reclaimers core.manager.clean_threshold (sets_of it)
  must_begin turn =
      subst (λ n. MayReclaim n core.manager.reclaimers core.manager.clean_threshold (sets_of it)) (sym (stands.manager).blocks)
      (subst (λ n. MayReclaim s.blocks n core.manager.clean_threshold (sets_of it)) (sym (stands.manager).reclaimers)
      (subst (λ n. MayReclaim s.blocks s.reclaimers n (sets_of it)) (sym (stands.manager).clean_threshold) (record {
        wanted = elim turn.wanted [ inl few ↦ inl few | inr waits ↦ inr waits ];
        free = subst (λ n. n < s.reclaimers) as_many_run turn.free;
        some_block = turn.some_block;
        quiet = turn.quiet;
      })))

  -- and then memory may be refused
  pub would_begin : MayReclaim (length core.manager.blocks) core.manager.reclaimers core.manager.clean_threshold (sets_of it)
      → InTurn (machine m s sound) it model_step.ReclaimBegin × NeedsMemory (machine m s sound) (layout s) it model_step.ReclaimBegin
  would_begin may =
      let turn : InTurn (machine m s sound) it model_step.ReclaimBegin = may_begin may in (
        turn,
        (
          model_reply.Picked (turn.some_block).0 [] [],
          record it {
            place = put it.place (turn.some_block).0 model_state.Reclaims;
            reclaims = put it.reclaims (turn.some_block).0 (Some (record { stage = model_state.AtIndex 0; listed = []; requeued = [] }));
          },
          ((turn.some_block).1, (turn.some_block).2, refl, (λ d is. absurd (let e : None ≡ Some d = is in cc)), refl),
          tt,
        ),
      )

evictable_state : (p : BlockSet) → is_evictable_set p ≡ true → model_set p ≡ model_state.Evictable
evictable_state set.Clean is = absurd (cc)
evictable_state (set.Writing f) is = absurd (cc)
evictable_state set.Evictable is = refl
evictable_state set.Reclaiming is = absurd (cc)

-- an evictable block of a manager is one of the sets that it stands for
pub evictable_there : (blocks : Managed) (sets : BlockSets) (b : ℕ) → Stands blocks sets → is_evictable (slice_get blocks.blocks b) ≡ true
    → (b < length blocks.blocks) × (sets.block_set b ≡ model_state.Evictable)
evictable_there blocks sets b st is = go (slice_get blocks.blocks b) refl is
  where
    go : (o : Option BlockState) → slice_get blocks.blocks b ≡ o → is_evictable o ≡ true → (b < length blocks.blocks) × (sets.block_set b ≡ model_state.Evictable)
    go None e flag = absurd (cc)
    go (Some x) e flag = (there_is blocks.blocks b x e, (st.blocks b x e).block_set ∙ evictable_state x.block_set flag)

-- a reclaimed block of the sets is one of the manager
pub reclaimed_in : (blocks : Managed) (sets : BlockSets) (b : ℕ) → Stands blocks sets → sets.block_set b ≡ model_state.Reclaims → b < length blocks.blocks → IsReclaimed blocks b
reclaimed_in blocks sets b st is lt =
    let found = is_there blocks.blocks b lt in
    (found.0, found.1, go (found.0).block_set (sym (st.blocks b found.0 found.1).block_set ∙ is))
  where
    go : (p : BlockSet) → model_set p ≡ model_state.Reclaims → p ≡ set.Reclaiming
    go set.Clean e = absurd (cc)
    go (set.Writing f) e = absurd (cc)
    go set.Evictable e = absurd (cc)
    go set.Reclaiming e = refl

module _ {K V P A : Type 0} (m : Meaning K V P) (s : Settings) (core : Core K V P A) (it : model_state.State Content) (stands : IsStateOf m s core it) (b : ℕ) where
  -- the reclaim of a block is another from now on, and so are its set and its filling
  pub reclaims_put : (reclaims : Reclaims A) (ours : Option Reclaiming) (its : Option model_state.Reclaim) (place : ℕ → model_state.BlockSet) (filling : ℕ → ℕ)
      → ChangesReclaim core.reclaims reclaims b ours → ((q : ℕ) → (q ≡ b → ⊥) → place q ≡ it.place q) → ((q : ℕ) → (q ≡ b → ⊥) → filling q ≡ it.filling q)
      → AreReclaimAs s b (place b) (filling b) ours its → (q : ℕ) → AreReclaimAs s q (place q) (filling q) (reclaim_at reclaims q) (put it.reclaims b its q)
  reclaims_put reclaims ours its place filling changes places fillings are q =
      subst (λ o. AreReclaimAs s q (place q) (filling q) o (put it.reclaims b its q)) (sym (changes q)) (go (q == b) refl)
    where
      go : (t : Bool) → (q == b) ≡ t → AreReclaimAs s q (place q) (filling q) (if t then ours else reclaim_at core.reclaims q) (if t then its else it.reclaims q)
      go true e = subst (λ k. AreReclaimAs s k (place k) (filling k) ours its) (sym (eqb-true q b e)) are
      go false e =
          subst (λ p. AreReclaimAs s q p (filling q) (reclaim_at core.reclaims q) (it.reclaims q)) (sym (places q (eqb-false q b e)))
          (subst (λ n. AreReclaimAs s q (it.place q) n (reclaim_at core.reclaims q) (it.reclaims q)) (sym (fillings q (eqb-false q b e))) (stands.reclaims q))

  -- a core that has the same beside its index, its blocks and its reclaims
  pub record SameBeside (new : Core K V P A) : Type 0 where
    pub settings : new.settings ≡ core.settings
    pub next : new.next ≡ core.next
    pub steps : new.steps ≡ core.steps
    pub closed : new.closed ≡ core.closed
    pub queued : new.queued ≡ core.queued
    pub flushers : new.flushers.items ≡ core.flushers.items
    pub destroy : new.destroy ≡ core.destroy

  -- and stands for a state that has the same beside its index, its blocks and its reclaims
  pub beside : (new : Core K V P A) (slots : ℕ → Option model_record.Slot) (flushers : ℕ → model_state.Flusher Content) (place : ℕ → model_state.BlockSet)
      (clean waiting : List ℕ) (filling : ℕ → ℕ) (stats : ℕ → model_state.Stats) (reclaims : ℕ → Option model_state.Reclaim) → SameBeside new
      → AreFlushersAs m s (map seen core.flushers.items) flushers → size_of_all s.flushers flushers ≡ size_of_all s.flushers it.flushers
      → IsIndexedAs s new.index.slots slots
      → IsManagedAs s new.manager (sets_of (record it { index = slots; flushers = flushers; place = place; clean = clean; waiting = waiting; filling = filling; stats = stats; reclaims = reclaims }))
      → ((f : ℕ) → HasItsBlocks s place waiting f (flushers f))
      → ((q : ℕ) → AreReclaimAs s q (place q) (filling q) (reclaim_at new.reclaims q) (reclaims q))
      → IsStateOf m s new (record it { index = slots; flushers = flushers; place = place; clean = clean; waiting = waiting; filling = filling; stats = stats; reclaims = reclaims })
  beside new slots flushers place clean waiting filling stats reclaims same are sizes indexed managed has running = record {
    sizes = same.settings ∙ stands.sizes;
    index = indexed;
    next = stands.next ∙ sym same.next;
    steps = stands.steps ∙ sym same.steps;
    closed = stands.closed ∙ sym same.closed;
    flushers = subst (λ xs. AreFlushersAs m s (map seen xs) flushers) (sym same.flushers) are;
    queued = record {
      sum = same.queued ∙ (stands.queued).sum ∙ sym sizes;
      bound = subst (λ n. n ≤ new.next * 2 ^ 64) (sym same.queued) (subst (λ k. core.queued ≤ k * 2 ^ 64) (sym same.next) (stands.queued).bound);
    };
    manager = managed;
    has = has;
    reclaims = running;
    destroy = subst (λ d. IsDestroyAs s.blocks d it.destroy) (sym same.destroy) stands.destroy;
  }

  -- the index and a block's reclaim change, and nothing else
  pub reclaim_stands : (new : Core K V P A) (slots : ℕ → Option model_record.Slot) (ours : Option Reclaiming) (its : Option model_state.Reclaim)
      → SameBeside new → new.manager ≡ core.manager
      → IsIndexedAs s new.index.slots slots → ChangesReclaim core.reclaims new.reclaims b ours → AreReclaimAs s b (it.place b) (it.filling b) ours its
      → IsStateOf m s new (record it { index = slots; reclaims = put it.reclaims b its })
  reclaim_stands new slots ours its same manager indexed changes are =
      beside new slots it.flushers it.place it.clean it.waiting it.filling it.stats (put it.reclaims b its) same stands.flushers refl indexed
      (subst (λ k. IsManagedAs s k (sets_of it)) (sym manager) stands.manager) stands.has
      (reclaims_put new.reclaims ours its it.place it.filling changes (λ q ne. refl) (λ q ne. refl) are)

  -- a block that no flusher writes comes into another set
  pub has_put : (set : model_state.BlockSet) → ((g : ℕ) → it.place b ≡ model_state.Writes g → ⊥) → (g : ℕ) → HasItsBlocks s (put it.place b set) it.waiting g (it.flushers g)
  has_put set unwritten g = record {
    own = λ c is. stays c ((stands.has g).own c is);
    ready = λ c is. let r = (stands.has g).ready c is in (stays c r.0, r.1, r.2);
    waits = (stands.has g).waits;
  }
    where
      stays : (c : ℕ) → it.place c ≡ model_state.Writes g → put it.place b set c ≡ model_state.Writes g
      stays c is = put_other it.place b set c (λ at. unwritten g (sym (ap it.place at) ∙ is)) ∙ is
