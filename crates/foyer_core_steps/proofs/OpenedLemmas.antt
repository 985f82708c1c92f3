-- An opened core stands for the state with what was found.
use Rattle.std.proofs.Common.{◌≡◌, ℕ, zero, suc, ◌<◌, ◌≤◌, nat_lt, Bool, true, false, if◌then◌else◌, replicate, List, length, Option, Some, None, slice_get, refl, sym, ap, subst, ◌∙◌, arith}
use Rattle.std.specs.FinMap as finite
use Rattle.foyer_block_index.specs.declared.indexer.Index.{Index}
use Rattle.foyer_block_index.specs.declared.indexer.Index.TheVariants.{Address, Tombstone}
use Rattle.foyer_core_model.specs.Opened.{idle as plain_idle}
use Rattle.foyer_core_model.specs.Rules.{Rules}
use Rattle.foyer_block_recover.specs.Opening.{Opened}
use Rattle.foyer_block_recover.specs.Placed.{IsOpening}
use Rattle.foyer_block_recover.specs.Recovery.{held_slot}
use Rattle.foyer_core_model.specs.Ids.{is_id_in}
use Rattle.foyer_core_flusher.specs.Begins.{opened_state, place_of}
use Rattle.foyer_block_manager.specs.BlockSets.{is_reclaimed}
use Rattle.foyer_core_flusher.proofs.OpenedWorlds.{stands_at}
use Rattle.foyer_core_model.specs.State as model_state
use Rattle.foyer_core_flusher.specs.Content.{Content, Meaning}
use Rattle.foyer_core_flusher.specs.Flushing.{IsFlusherAs}
use Rattle.foyer_core_flusher.specs.CoreRules.{machine}
use Rattle.foyer_core_steps.specs.Opened.{IsOpened}
use Rattle.foyer_core_flusher.specs.Idle.{idle}
use Rattle.foyer_core_flusher.specs.Sizes.{AreValid, sizes_in}
use Rattle.foyer_core_steps.specs.Destroying.{IsDestroyAs}
use Rattle.foyer_core_steps.specs.Reclaiming.{AreReclaimAs}
use Rattle.foyer_core_steps.specs.StateOf.{IsStateOf, AreFlushersAs, size_of_all}
use Rattle.foyer_core_flusher.specs.Addresses.{address_of}
use Rattle.foyer_core_flusher.specs.Standing.{slot_of}
use Rattle.foyer_core_flusher.specs.Seen.{Seen}
use Rattle.foyer_core_flusher.specs.Settings.{Settings}
use Rattle.foyer_core_steps.specs.declared.state.Core.{Core}
use Rattle.foyer_core_flusher.proofs.ListLemmas.{some_is}

pub replicate_count : {X : Type 0} (n : ℕ) (x : X) → length (replicate n x) ≡ n
replicate_count zero x = refl
replicate_count (suc n) x = ap suc (replicate_count n x)

pub replicate_at : {X : Type 0} (n i : ℕ) (x y : X) → slice_get (replicate n x) i ≡ Some y → x ≡ y
replicate_at zero i x y is = absurd (cc)
replicate_at (suc n) zero x y is = some_is is
replicate_at (suc n) (suc i) x y is = replicate_at n i x y is

no_sizes : (n : ℕ) (rules : Rules Content) → size_of_all n (λ f. plain_idle rules) ≡ 0
no_sizes zero rules = refl
no_sizes (suc n) rules = let rest : size_of_all n (λ f. plain_idle rules) ≡ 0 = no_sizes n rules in omega arith

-- both have the same of an address
slot_held : (x : Option Index) → held_slot x ≡ slot_of x
slot_held None = refl
slot_held (Some (Address a)) = refl
slot_held (Some (Tombstone q)) = refl

-- no block is reclaimed yet
not_reclaimed : (n : ℕ) (clean : List ℕ) (b : ℕ) → is_reclaimed (place_of n clean b) ≡ false
not_reclaimed n clean b = go (nat_lt b n) (is_id_in b clean)
  where
    go : (t u : Bool) → is_reclaimed (if t then (if u then model_state.Clean else model_state.Evictable) else model_state.Clean) ≡ false
    go true true = refl
    go true false = refl
    go false u = refl

module _ {K V P A : Type 0} (m : Meaning K V P) (s : Settings) (sound : AreValid s) where
  idle_stands : (x : Seen K V P A) → idle s ≡ x → IsFlusherAs m s x (plain_idle (machine m s sound))
  idle_stands x is = subst (λ y. IsFlusherAs m s y (plain_idle (machine m s sound))) is (record {
    queue = refl;
    buffer = refl;
    room = refl;
    greatest = let lt : s.blob_index_size < s.block_size = sound.room in omega arith;
    given = refl;
    marks = refl;
    invalidated = refl;
    waits = refl;
    own = refl;
    there = tt;
    sizes = refl;
    context = refl;
    goes_on = record {
      past = let le : s.blob_index_size ≤ s.blob_index_size = omega arith in le;
      room = let page : 4096 ≤ s.blob_index_size = (machine m s sound).index_holds_page in omega arith;
    };
    batch = tt;
  })

  pub opened_stands : (marks : List (ℕ × ℕ)) (o : Opened) (core : Core K V P A) → IsOpening (sizes_in s) s.blocks marks o → IsOpened s o core → IsStateOf m s core (opened_state (machine m s sound) o)
  opened_stands marks o core opening opened = record {
    sizes = opened.sizes;
    index = record {
      slot = λ hash. sym (opened.index hash) ∙ slot_held (finite.get core.index.slots hash);
      there = λ hash a is.
          (stands_at m.is_key m.is_value s sound marks o opening hash (address_of a)
          (sym (opened.index hash) ∙ ap held_slot is)).block;
    };
    next = sym opened.next;
    steps = sym opened.steps;
    closed = sym opened.closed;
    flushers = subst (λ xs. AreFlushersAs m s xs (λ f. plain_idle (machine m s sound))) (sym opened.flushers) (record {
      count = replicate_count s.flushers (idle s);
      all = λ f x is. idle_stands x (replicate_at s.flushers f (idle s) x is);
      beyond = λ f over. (refl, refl, refl, refl, refl);
    });
    queued = record {
      sum = opened.queued ∙ sym (no_sizes s.flushers (machine m s sound));
      bound = let none : core.queued ≡ 0 = opened.queued in omega arith;
    };
    manager = opened.manager;
    has = λ f. record {
      own = λ b is. absurd (let clash : None ≡ Some b = is in cc);
      ready = λ b is. absurd (let clash : None ≡ Some b = is in cc);
      waits = λ is. (refl, refl);
    };
    reclaims = λ b. subst (λ r. AreReclaimAs s b (place_of s.blocks o.clean b) 0 r None) (sym (opened.reclaims b)) (not_reclaimed s.blocks o.clean b);
    destroy = subst (λ d. IsDestroyAs s.blocks d model_state.NoDestroy) (sym opened.destroy) refl;
  }
