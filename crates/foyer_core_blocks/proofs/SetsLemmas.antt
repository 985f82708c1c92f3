-- The model's blocks, when a flusher or one of its blocks changes.
use Rattle.std.proofs.Common.{◌≡◌, ℕ, ◌<◌, ◌==◌, Bool, true, false, ◌||◌, if◌then◌else◌, List, [], ◌∷◌, length, Option, Some, None, slice_get, refl, sym, ap, ◌∙◌}
use Rattle.foyer_core_model.specs.Flush.{released}
use Rattle.foyer_core_model.specs.Ids.{is_id_in, without_id}
use Rattle.foyer_core_model.specs.Numbers.{put}
use Rattle.foyer_core_model.specs.State as model_state
use Rattle.foyer_core_model.proofs.Basics.{put_at, put_one, put_other}
use Rattle.foyer_core_laws.specs.Settings.{Settings}
use Rattle.foyer_block_manager.specs.BlockSets.{BlockSets, Stands, IsBlockAs, model_set, is_reclaimed}
use Rattle.foyer_block_manager.specs.Managed.{Managed, IsWritten, filling_in}
use Rattle.foyer_block_manager.specs.declared.block.states.BlockSet.{BlockSet}
use Rattle.foyer_block_manager.specs.declared.block.states.BlockSet.TheVariants.{Clean, Writing, Evictable, Reclaiming}
use Rattle.foyer_block_manager.proofs.BlockStateLemmas.{is_there, there_is}
use Rattle.foyer_block_manager.proofs.StandsLemmas.{filling_at as filling_known}
use Rattle.foyer_core_blocks.specs.Standing.{sets_of, IsManagedAs, HasItsBlocks, LeavesOthers, KeepsReclaims, KeepsItsBlocks}

-- the same sets, if the flushers have the same ready blocks
pub ready_same : (m : Managed) (s : BlockSets) (ready : ℕ → Option ℕ) → Stands m s → ((f : ℕ) → ready f ≡ s.ready f) → Stands m (record s { ready = ready })
ready_same m s ready st same = record {
  blocks = st.blocks;
  clean = st.clean;
  waiting = st.waiting;
  ready = λ f r is. same f ∙ st.ready f r is;
  is_cleaning = st.is_cleaning;
}

-- a block that the model has written by a flusher is so in the manager
pub written_in : (m : Managed) (s : BlockSets) (b f : ℕ) → Stands m s → s.block_set b ≡ model_state.Writes f → b < length m.blocks → IsWritten m b
written_in m s b f st is lt =
    let found = is_there m.blocks b lt in
    let k : IsBlockAs found.0 (s.block_set b) (s.filling b) (s.stats b) = st.blocks b found.0 found.1 in
    (found.0, f, found.1, go (found.0).block_set (sym k.block_set ∙ is))
  where
    go : (p : BlockSet) → model_set p ≡ model_state.Writes f → p ≡ Writing f
    go Clean e = absurd (cc)
    go (Writing g) e = let same : g ≡ f = cc in ap Writing same
    go Evictable e = absurd (cc)
    go Reclaiming e = absurd (cc)

-- one that isn't there is in any set
pub unknown_set : (m : Managed) (s : BlockSets) (b : ℕ) (p : model_state.BlockSet) → Stands m s → (b < length m.blocks → ⊥) → Stands m (record s { block_set = put s.block_set b p })
unknown_set m s b p st out = record {
  blocks = λ q it is.
      let ne : q ≡ b → ⊥ = (λ same. out (there_is m.blocks b it (ap (slice_get m.blocks) (sym same) ∙ is))) in
      let k : IsBlockAs it (s.block_set q) (s.filling q) (s.stats q) = st.blocks q it is in
      record { block_set = put_other s.block_set b p q ne ∙ k.block_set; filling = k.filling; stats = k.stats };
  clean = st.clean;
  waiting = st.waiting;
  ready = st.ready;
  is_cleaning = st.is_cleaning;
}

-- the filling of a block
pub filling_at : (m : Managed) (s : BlockSets) (b : ℕ) → Stands m s → b < length m.blocks → filling_in m.blocks b ≡ s.filling b
filling_at m s b st lt = let found = is_there m.blocks b lt in sym (filling_known m s st b found.0 found.1)

-- an id that isn't in a list is left out of nothing
pub without_absent : (x : ℕ) (xs : List ℕ) → (is_id_in x xs ≡ true → ⊥) → without_id x xs ≡ xs
without_absent x [] out = refl
without_absent x (y ∷ ys) out = go (x == y) out (without_absent x ys)
  where
    go : (t : Bool) → ((t || is_id_in x ys) ≡ true → ⊥) → ((is_id_in x ys ≡ true → ⊥) → without_id x ys ≡ ys)
        → (if t then without_id x ys else y ∷ without_id x ys) ≡ y ∷ ys
    go true out rest = absurd (out refl)
    go false out rest = ap (λ l. y ∷ l) (rest out)

-- a flusher with the same blocks
pub same_blocks : {C : Type 0} (s : Settings) (f : ℕ) (place : ℕ → model_state.BlockSet) (waiting : List ℕ) (φ ψ : model_state.Flusher C)
    → KeepsItsBlocks φ ψ → HasItsBlocks s place waiting f φ → HasItsBlocks s place waiting f ψ
same_blocks s f place waiting φ ψ same mine = record {
  own = λ b is. mine.own b (sym same.own ∙ is);
  ready = λ b is. let r = mine.ready b (sym same.ready ∙ is) in (r.0, r.1, same.own ∙ r.2);
  waits = λ is. let r = mine.waits is in (same.own ∙ r.0, same.ready ∙ r.1);
}

-- all is left as it was
pub leaves_all : (f : ℕ) (place : ℕ → model_state.BlockSet) (waiting : List ℕ) → LeavesOthers f place waiting place waiting
leaves_all f place waiting = record { block_set = λ g b ne is. is; waits = λ g ne is. is }

-- no block changes its set or its filling
pub reclaims_all : (place : ℕ → model_state.BlockSet) (filling : ℕ → ℕ) → KeepsReclaims place filling place filling
reclaims_all place filling = record { sets = λ b. refl; fillings = λ b is. refl }

-- a flusher's block isn't reclaimed
not_reclaimed : (p : model_state.BlockSet) (f : ℕ) → p ≡ model_state.Writes f → is_reclaimed p ≡ false
not_reclaimed p f is = ap is_reclaimed is

-- nor is it once its flusher has left it
pub released_reclaims : (place : ℕ → model_state.BlockSet) (f : ℕ) (own : Option ℕ) → ((b : ℕ) → own ≡ Some b → place b ≡ model_state.Writes f)
    → (c : ℕ) → is_reclaimed (released own place c) ≡ is_reclaimed (place c)
released_reclaims place f None mine c = refl
released_reclaims place f (Some b) mine c =
    put_at (λ p. is_reclaimed p ≡ is_reclaimed (place c)) place b model_state.Evictable c
    (λ at. sym (not_reclaimed (place c) f (ap place at ∙ mine b refl))) (λ _. refl)

pub releases : (place : ℕ → model_state.BlockSet) (filling : ℕ → ℕ) (f : ℕ) (own : Option ℕ) → ((b : ℕ) → own ≡ Some b → place b ≡ model_state.Writes f)
    → KeepsReclaims place filling (released own place) filling
releases place filling f own mine = record { sets = released_reclaims place f own mine; fillings = λ b is. refl }

-- a clean block is handed out, after the one before is left
pub hands_out : (place : ℕ → model_state.BlockSet) (filling : ℕ → ℕ) (f : ℕ) (own : Option ℕ) → ((b : ℕ) → own ≡ Some b → place b ≡ model_state.Writes f)
    → (b n : ℕ) → released own place b ≡ model_state.Clean
    → KeepsReclaims place filling (put (released own place) b (model_state.Writes f)) (put filling b n)
hands_out place filling f own mine b n was = record {
  sets = λ c. put_at (λ p. is_reclaimed p ≡ is_reclaimed (place c)) (released own place) b (model_state.Writes f) c
      (λ at. sym (sym (released_reclaims place f own mine c) ∙ ap (λ k. is_reclaimed (released own place k)) at ∙ ap is_reclaimed was))
      (λ ne. released_reclaims place f own mine c);
  fillings = λ c is. put_at (λ k. k ≡ filling c) filling b n c
      (λ at. absurd (let clash : false ≡ true = sym (ap is_reclaimed was) ∙ sym (ap (λ k. is_reclaimed (released own place k)) at) ∙ released_reclaims place f own mine c ∙ is in cc))
      (λ _. refl);
}

module _ {C : Type 0} (s : Settings) (f : ℕ) (old : model_state.State C) where
  -- the manager is as it was, and the flusher got nothing
  pub managed_kept : (manager : Managed) (φ : model_state.Flusher C) → KeepsItsBlocks (old.flushers f) φ → IsManagedAs s manager (sets_of old)
      → IsManagedAs s manager (sets_of (record old { flushers = put old.flushers f φ }))
  managed_kept manager φ same is = record {
    blocks = is.blocks;
    flushers = is.flushers;
    reclaimers = is.reclaimers;
    clean_threshold = is.clean_threshold;
    sets = ready_same manager (sets_of old) (λ g. (put old.flushers f φ g).ready) is.sets
        (λ g. put_at (λ (ψ : model_state.Flusher C). ψ.ready ≡ (old.flushers g).ready) old.flushers f φ g
        (λ at. same.ready ∙ ap (λ k. (old.flushers k).ready) (sym at)) (λ _. refl));
  }

  -- a flusher that keeps its blocks
  pub blocks_kept : (φ : model_state.Flusher C) → KeepsItsBlocks (old.flushers f) φ
      → ((g : ℕ) → HasItsBlocks s old.place old.waiting g (old.flushers g)) → (g : ℕ) → HasItsBlocks s old.place old.waiting g (put old.flushers f φ g)
  blocks_kept φ same has = put_one (HasItsBlocks s old.place old.waiting) old.flushers f φ
      (same_blocks s f old.place old.waiting (old.flushers f) φ same (has f)) (λ g ne. has g)

  -- one that has other blocks, and leaves the others theirs
  pub blocks_put : (place : ℕ → model_state.BlockSet) (waiting : List ℕ) (φ : model_state.Flusher C) → LeavesOthers f old.place old.waiting place waiting
      → HasItsBlocks s place waiting f φ → ((g : ℕ) → HasItsBlocks s old.place old.waiting g (old.flushers g))
      → (g : ℕ) → HasItsBlocks s place waiting g (put old.flushers f φ g)
  blocks_put place waiting φ leaves mine has =
      put_one (HasItsBlocks s place waiting) old.flushers f φ mine
      (λ q ne. let theirs : HasItsBlocks s old.place old.waiting q (old.flushers q) = has q in record {
        own = λ b is. leaves.block_set q b ne (theirs.own b is);
        ready = λ b is. let r = theirs.ready b is in (leaves.block_set q b ne r.0, r.1, r.2);
        waits = λ is. theirs.waits (leaves.waits q ne is);
      })
