-- A reclaim that begins with a block, and one that ends.
use Rattle.std.proofs.lemmas.Bool.Decides.{nat_tests}
use Rattle.std.proofs.lemmas.Bool.{eq-eqb}
use Rattle.std.specs.Prelude.{is_some}
use Rattle.std.proofs.Common.{◌≡◌, ℕ, zero, suc, ◌+◌, ◌<◌, ◌==◌, nat_le, Bool, true, false, ◌||◌, if◌then◌else◌, List, [], ◌∷◌, ◌++◌, map, length, Option, Some, None, inl, inr, refl, sym, ap, subst, ◌∙◌, arith}
use Rattle.foyer_core_model.specs.Destroy.{IsIdle}
use Rattle.foyer_core_model.specs.Ids.{is_id_in}
use Rattle.foyer_core_model.specs.Numbers.{put}
use Rattle.foyer_core_model.specs.Reclaim as model_reclaim
use Rattle.foyer_core_model.specs.Reclaim.{addresses, admitted, running, stage_after, stage_behind, issued_at, reclaiming as model_reclaiming, Lists, Scanned, Rereads, Forgets, Cleaned, reclaimed}
use Rattle.foyer_core_model.specs.Reply as model_reply
use Rattle.foyer_core_model.specs.State as model_state
use Rattle.foyer_core_model.proofs.Basics.{put_at, put_one, put_same, put_other}
use Rattle.foyer_core_flusher.specs.Content.{Content, Meaning}
use Rattle.foyer_core_flusher.specs.CoreRules.{machine}
use Rattle.foyer_core_flusher.specs.Sizes.{AreValid}
use Rattle.foyer_core_flusher.specs.Settings.{Settings}
use Rattle.foyer_block_manager.specs.BlockSets.{Stands, HasSameRules, HasFinished, without_stats, is_reclaimed}
use Rattle.foyer_block_manager.specs.Managed.{Managed, filling_in}
use Rattle.foyer_block_manager.proofs.BlockStateLemmas.{append_test}
use Rattle.foyer_core_flusher.specs.Standing.{sets_of, IsIndexedAs, IsManagedAs, HasItsBlocks}
use Rattle.foyer_core_steps.specs.Reclaiming.{ChangesReclaim, first_reclaim, IsReclaimAs, at_offset}
use Rattle.foyer_core_steps.specs.StateOf.{IsStateOf, AreFlushersAs, size_of_all}
use Rattle.foyer_core_flusher.specs.Flushing.{IsFlusherAs}
use Rattle.foyer_core_flusher.specs.Seen.{seen}
use Rattle.foyer_core_flusher.specs.Taking.{size_in}
use Rattle.foyer_core_steps.specs.declared.state.Core.{Core}
use Rattle.foyer_core_flusher.proofs.SetsLemmas.{ready_same, filling_at}
use Rattle.foyer_core_steps.proofs.ReclaimSteps.{SameBeside, beside, has_put, reclaims_put}

-- a flusher that waits is given a block
module _ {K V P A : Type 0} (m : Meaning K V P) (s : Settings) (core : Core K V P A) (it : model_state.State Content) (stands : IsStateOf m s core it) (b f : ℕ) where
  same_sizes : (n : ℕ) (ours its : ℕ → model_state.Flusher Content) → ((g : ℕ) → (ours g).queue ≡ (its g).queue) → size_of_all n ours ≡ size_of_all n its
  same_sizes zero ours its same = refl
  same_sizes (suc n) ours its same = ap (λ q. size_in q + size_of_all n ours) (same n) ∙ ap (λ k. size_in (its n).queue + k) (same_sizes n ours its same)

  pub given_sizes : size_of_all s.flushers (put it.flushers f (record (it.flushers f) { ready = Some b })) ≡ size_of_all s.flushers it.flushers
  given_sizes = same_sizes s.flushers (put it.flushers f (record (it.flushers f) { ready = Some b })) it.flushers
      (λ g. put_at (λ (φ : model_state.Flusher Content). φ.queue ≡ (it.flushers g).queue) it.flushers f (record (it.flushers f) { ready = Some b }) g
      (λ at. ap (λ k. (it.flushers k).queue) (sym at)) (λ _. refl))

  pub given_flushers : AreFlushersAs m s (map seen core.flushers.items) (put it.flushers f (record (it.flushers f) { ready = Some b }))
  given_flushers = record {
    count = (stands.flushers).count;
    all = λ g φ is. put_at (λ k. IsFlusherAs m s φ k) it.flushers f (record (it.flushers f) { ready = Some b }) g
        (λ at. let x : IsFlusherAs m s φ (it.flushers f) = subst (λ k. IsFlusherAs m s φ (it.flushers k)) at ((stands.flushers).all g φ is) in record {
          queue = x.queue;
          buffer = x.buffer;
          room = x.room;
          greatest = x.greatest;
          given = x.given;
          marks = x.marks;
          invalidated = x.invalidated;
          waits = x.waits;
          own = x.own;
          there = x.there;
          sizes = x.sizes;
          context = x.context;
          goes_on = x.goes_on;
          batch = x.batch;
        }) (λ _. (stands.flushers).all g φ is);
    beyond = λ g over. put_at (λ k. IsIdle k) it.flushers f (record (it.flushers f) { ready = Some b }) g
        (λ at. subst (λ k. IsIdle (it.flushers k)) at ((stands.flushers).beyond g over)) (λ _. (stands.flushers).beyond g over);
  }

  pub given_ready : (g : ℕ) → (put it.flushers f (record (it.flushers f) { ready = Some b }) g).ready ≡ put (λ q. (it.flushers q).ready) f (Some b) g
  given_ready g = put_at (λ (φ : model_state.Flusher Content). φ.ready ≡ put (λ q. (it.flushers q).ready) f (Some b) g) it.flushers f (record (it.flushers f) { ready = Some b }) g
      (λ at. sym (ap (put (λ q. (it.flushers q).ready) f (Some b)) at ∙ put_same (λ q. (it.flushers q).ready) f (Some b)))
      (λ ne. sym (put_other (λ q. (it.flushers q).ready) f (Some b) g ne))

  pub given_has : (others : List ℕ) → it.waiting ≡ others ++ f ∷ [] → is_id_in f others ≡ false → b < s.blocks → it.place b ≡ model_state.Reclaims
      → (g : ℕ) → HasItsBlocks s (put it.place b (model_state.Writes f)) others g (put it.flushers f (record (it.flushers f) { ready = Some b }) g)
  given_has others waits once there reclaimed =
      put_one (HasItsBlocks s (put it.place b (model_state.Writes f)) others) it.flushers f (record (it.flushers f) { ready = Some b }) mine theirs
    where
      waited : (g : ℕ) → is_id_in g (others ++ f ∷ []) ≡ true → is_id_in g it.waiting ≡ true
      waited g is = ap (is_id_in g) waits ∙ is

      last : is_id_in f (others ++ f ∷ []) ≡ true
      last = append_test f f others ∙ ap (λ t. if t then true else is_id_in f others) (eq-eqb f f refl)

      none : ((it.flushers f).own ≡ None) × ((it.flushers f).ready ≡ None)
      none = (stands.has f).waits (waited f last)

      mine : HasItsBlocks s (put it.place b (model_state.Writes f)) others f (record (it.flushers f) { ready = Some b })
      mine = record {
        own = λ c is. absurd (let clash : None ≡ Some c = sym none.0 ∙ is in cc);
        ready = λ c is. let same : b ≡ c = cc in
            (subst (λ k. put it.place b (model_state.Writes f) k ≡ model_state.Writes f) same (put_same it.place b (model_state.Writes f)), subst (λ k. k < s.blocks) same there, none.0);
        waits = λ is. absurd (let clash : false ≡ true = sym once ∙ is in cc);
      }

      theirs : (g : ℕ) → (g ≡ f → ⊥) → HasItsBlocks s (put it.place b (model_state.Writes f)) others g (it.flushers g)
      theirs g ne =
          let has : HasItsBlocks s (put it.place b (model_state.Writes f)) it.waiting g (it.flushers g) =
          has_put m s core it stands b (model_state.Writes f) (λ h writes. let clash : model_state.Reclaims ≡ model_state.Writes h = sym reclaimed ∙ writes in absurd (cc)) g in
          record {
            own = has.own;
            ready = has.ready;
            waits = λ is. has.waits (waited g (append_test g f others ∙ yes (g == f) (is_id_in g others) is));
          }
        where
          yes : (t u : Bool) → u ≡ true → (if t then true else u) ≡ true
          yes true u is = refl
          yes false u is = is

pub no_place : (p : Option ℕ) → is_some p ≡ false → p ≡ None
no_place None is = refl
no_place (Some x) is = absurd (cc)

-- the answers of so many pickers are those of as many as answered
pub asked_by_all : (n blocks : ℕ) (place : ℕ → model_state.BlockSet) (answers : List (Option ℕ)) → model_reclaim.are_asked n blocks place answers ≡ true
    → model_reclaim.are_asked (length answers) blocks place answers ≡ true
asked_by_all zero blocks place [] is = refl
asked_by_all (suc n) blocks place [] is = absurd (cc)
asked_by_all zero blocks place (a ∷ more) is = absurd (cc)
asked_by_all (suc n) blocks place (a ∷ []) is = go (model_reclaim.is_pick blocks place a)
  where
    go : (t : Bool) → (t || (0 == 0)) ≡ true
    go true = refl
    go false = refl
asked_by_all (suc n) blocks place (a ∷ c ∷ rest) is = go (model_reclaim.is_pick blocks place a) is (asked_by_all n blocks place (c ∷ rest))
  where
    go : (t : Bool) → (if t then false else model_reclaim.are_asked n blocks place (c ∷ rest)) ≡ true
        → (model_reclaim.are_asked n blocks place (c ∷ rest) ≡ true → model_reclaim.are_asked (length (c ∷ rest)) blocks place (c ∷ rest) ≡ true)
        → (if t then false else model_reclaim.are_asked (length (c ∷ rest)) blocks place (c ∷ rest)) ≡ true
    go true e later = absurd (cc)
    go false e later = later e

module _ {K V P A : Type 0} (m : Meaning K V P) (s : Settings) (sound : AreValid s) (core : Core K V P A) (it : model_state.State Content) (stands : IsStateOf m s core it) (b : ℕ) where
  managed : (new : Managed) (after : model_state.State Content) → HasSameRules core.manager new → Stands new (sets_of after) → IsManagedAs s new (sets_of after)
  managed new after rules sets = record {
    blocks = rules.blocks ∙ (stands.manager).blocks;
    flushers = rules.flushers ∙ (stands.manager).flushers;
    reclaimers = rules.reclaimers ∙ (stands.manager).reclaimers;
    clean_threshold = rules.clean_threshold ∙ (stands.manager).clean_threshold;
    sets = sets;
  }

  -- a reclaim ends in the model
  pub record HasEnded (new : Core K V P A) : Type 0 where
    pub after : model_state.State Content
    pub does : Cleaned (machine m s sound) it b model_reply.Done after
    pub stand : IsStateOf m s new after

  pub finished : (new : Core K V P A) (o : Option ℕ) → SameBeside m s core it stands b new → new.index.slots ≡ core.index.slots → HasSameRules core.manager new.manager
      → HasFinished (sets_of it) b o new.manager → ChangesReclaim core.reclaims new.reclaims b None → b < s.blocks → it.place b ≡ model_state.Reclaims → HasEnded new
  finished new None same index rules done changes there was = record {
    after = record (reclaimed (machine m s sound) it b) { place = put it.place b model_state.Clean; clean = it.clean ++ b ∷ [] };
    does = inr (done.0, refl);
    stand = beside m s core it stands b new it.index it.flushers (put it.place b model_state.Clean) (it.clean ++ b ∷ []) it.waiting it.filling (put it.stats b model_state.no_stats) (put it.reclaims b None)
        same stands.flushers refl (subst (λ k. IsIndexedAs s k it.index) (sym index) stands.index)
        (managed new.manager (record it { place = put it.place b model_state.Clean; clean = it.clean ++ b ∷ []; stats = put it.stats b model_state.no_stats; reclaims = put it.reclaims b None }) rules done.1)
        (has_put m s core it stands b model_state.Clean (λ g writes. let clash : model_state.Reclaims ≡ model_state.Writes g = sym was ∙ writes in absurd (cc)))
        (reclaims_put m s core it stands b new.reclaims None None (put it.place b model_state.Clean) it.filling changes (λ q ne. put_other it.place b model_state.Clean q ne) (λ q ne. refl)
        (ap is_reclaimed (put_same it.place b model_state.Clean)));
  }
  finished new (Some f) same index rules done changes there was = record {
    after = record (reclaimed (machine m s sound) it b) {
      waiting = done.0;
      place = put it.place b (model_state.Writes f);
      filling = put it.filling b (it.filling b + 1);
      flushers = put it.flushers f (record (it.flushers f) { ready = Some b });
    };
    does = inl (f, done.0, done.1, done.3, refl);
    stand = beside m s core it stands b new it.index (put it.flushers f (record (it.flushers f) { ready = Some b })) (put it.place b (model_state.Writes f)) it.clean done.0
        (put it.filling b (it.filling b + 1)) (put it.stats b model_state.no_stats) (put it.reclaims b None)
        same (given_flushers m s core it stands b f) (given_sizes m s core it stands b f) (subst (λ k. IsIndexedAs s k it.index) (sym index) stands.index)
        (managed new.manager (record it {
          flushers = put it.flushers f (record (it.flushers f) { ready = Some b });
          place = put it.place b (model_state.Writes f);
          waiting = done.0;
          filling = put it.filling b (it.filling b + 1);
          stats = put it.stats b model_state.no_stats;
          reclaims = put it.reclaims b None;
        }) rules (ready_same new.manager (record (without_stats (sets_of it) b) {
          waiting = done.0;
          block_set = put it.place b (model_state.Writes f);
          filling = put it.filling b (it.filling b + 1);
          ready = put (λ g. (it.flushers g).ready) f (Some b);
        }) (λ g. (put it.flushers f (record (it.flushers f) { ready = Some b }) g).ready) done.4 (given_ready m s core it stands b f)))
        (given_has m s core it stands b f done.0 done.1 done.2 there was)
        (reclaims_put m s core it stands b new.reclaims None None (put it.place b (model_state.Writes f)) (put it.filling b (it.filling b + 1)) changes
        (λ q ne. put_other it.place b (model_state.Writes f) q ne) (λ q ne. put_other it.filling b (it.filling b + 1) q ne)
        (ap is_reclaimed (put_same it.place b (model_state.Writes f))));
  }

  -- the model's reclaim that begins
  abbrev pub begun : model_state.Reclaim
  begun = record { stage = model_state.AtIndex 0; listed = []; requeued = [] }

  abbrev pub after_pick : List ℕ → model_state.State Content
  after_pick probation = record it {
    place = put it.place b model_state.Reclaims;
    reclaims = put it.reclaims b (Some begun);
    stats = model_reclaim.marked probation it.place it.stats;
  }

  -- one that begins is the model's
  begins_as : b < s.blocks → (n : ℕ) → n ≡ it.filling b → IsReclaimAs s b (it.filling b) (first_reclaim b n (record { block = core.settings.block_size; index = core.settings.blob_index_size })) begun
  begins_as there n is =
      subst (λ k. IsReclaimAs s b (it.filling b) (first_reclaim b k (record { block = core.settings.block_size; index = core.settings.blob_index_size })) begun) (sym is)
      (subst (λ (k : Settings). IsReclaimAs s b (it.filling b) (first_reclaim b (it.filling b) (record { block = k.block_size; index = k.blob_index_size })) begun) (sym stands.sizes) (record {
        there = there;
        scan = refl;
        stage = ap (λ (t : Bool). at_offset (if t then Some 0 else None)) fits;
        listed = λ un p. refl;
        requeued = λ p. refl;
        count = refl;
      }))
    where
      fits : true ≡ nat_le (0 + s.blob_index_size) s.block_size
      fits = let lt : s.blob_index_size < s.block_size = sound.room in grind (arith, nat_tests)

  pub picked : (new : Core K V P A) (probation : List ℕ) (n : ℕ) → SameBeside m s core it stands b new → new.index.slots ≡ core.index.slots → HasSameRules core.manager new.manager
      → Stands new.manager (record (sets_of it) { block_set = put it.place b model_state.Reclaims; stats = model_reclaim.marked probation it.place it.stats })
      → n ≡ filling_in new.manager.blocks b
      → ChangesReclaim core.reclaims new.reclaims b (Some (first_reclaim b n (record { block = core.settings.block_size; index = core.settings.blob_index_size })))
      → b < length core.manager.blocks → it.place b ≡ model_state.Evictable → IsStateOf m s new (after_pick probation)
  picked new probation n same index rules sets filled changes there was =
      let few : b < s.blocks = subst (λ k. b < k) (stands.manager).blocks there in
      let fill : n ≡ it.filling b =
      filled ∙ filling_at new.manager (record (sets_of it) { block_set = put it.place b model_state.Reclaims; stats = model_reclaim.marked probation it.place it.stats }) b sets
      (subst (λ k. b < k) (sym rules.blocks) there) in
      beside m s core it stands b new it.index it.flushers (put it.place b model_state.Reclaims) it.clean it.waiting it.filling (model_reclaim.marked probation it.place it.stats) (put it.reclaims b (Some begun))
      same stands.flushers refl (subst (λ k. IsIndexedAs s k it.index) (sym index) stands.index)
      (managed new.manager (after_pick probation) rules sets)
      (has_put m s core it stands b model_state.Reclaims (λ g writes. let clash : model_state.Evictable ≡ model_state.Writes g = sym was ∙ writes in absurd (cc)))
      (reclaims_put m s core it stands b new.reclaims (Some (first_reclaim b n (record { block = core.settings.block_size; index = core.settings.blob_index_size }))) (Some begun)
      (put it.place b model_state.Reclaims) it.filling changes (λ q ne. put_other it.place b model_state.Reclaims q ne) (λ q ne. refl)
      (ap is_reclaimed (put_same it.place b model_state.Reclaims), begins_as few n fill))
