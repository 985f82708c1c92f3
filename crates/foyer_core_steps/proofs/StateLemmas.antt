-- The states of the model of a core, when the core is unchanged, or one flusher of it changes.
use Rattle.std.proofs.Common.{◌≡◌, ℕ, zero, suc, ◌+◌, ◌<◌, ◌≤◌, ◌==◌, min, nat_le, Bool, true, false, if◌then◌else◌, List, [], ◌∷◌, ◌++◌, map, length, Some, option_map, slice_get, slice_set, slice_index_or, refl, sym, ap, subst, ◌∙◌, arith}
use Rattle.std.proofs.lemmas.Bool.Decides.{nat_tests}
use Rattle.std.proofs.lemmas.Option.{slice_get_read, slice_get-map}
use Rattle.foyer_core_model.specs.Numbers.{put, plus, last_number}
use Rattle.foyer_core_model.specs.Destroy.{IsIdle}
use Rattle.foyer_core_model.specs.Queue.{queue_size, size_queued}
use Rattle.foyer_core_model.specs.State as model_state
use Rattle.foyer_core_model.proofs.Basics.{put_at, put_same, put_other}
use Rattle.foyer_core_flusher.specs.Content.{Content, Meaning}
use Rattle.foyer_core_flusher.specs.Flushing.{IsFlusherAs}
use Rattle.foyer_core_steps.specs.Destroying.{IsDestroyAs}
use Rattle.foyer_core_steps.specs.Reclaiming.{AreReclaimAs}
use Rattle.foyer_core_steps.specs.StateOf.{AreFlushersAs, IsSizedAs, IsStateOf, size_of_all}
use Rattle.foyer_core_flusher.specs.Taking.{size_in}
use Rattle.foyer_core_flusher.specs.Standing.{IsIndexedAs, sets_of, IsManagedAs}
use Rattle.foyer_core_flusher.proofs.ListLemmas.{map_count, set_map, set_here, set_there, set_count, some_is}
use Rattle.foyer_core_flusher.specs.Seen.{seen}
use Rattle.foyer_core_steps.specs.Unchanged.{IsUnchanged}
use Rattle.foyer_core_flusher.specs.declared.flusher.Flusher.{Flusher}
use Rattle.foyer_core_flusher.specs.Settings.{Settings}
use Rattle.foyer_core_steps.specs.declared.state.Core.{Core}

module _ {K V P A : Type 0} (m : Meaning K V P) (s : Settings) where
  -- as many flushers as the sizes say
  pub flushers_count : (φs : List (Flusher K V P A)) (its : ℕ → model_state.Flusher Content)
      → AreFlushersAs m s (map seen φs) its → length φs ≡ s.flushers
  flushers_count φs its are = sym (map_count seen φs) ∙ are.count

  -- the flusher of a number
  pub flusher_at : (φs : List (Flusher K V P A)) (its : ℕ → model_state.Flusher Content) (f : ℕ) (φ : Flusher K V P A)
      → AreFlushersAs m s (map seen φs) its → f < length φs → φ ≡ slice_index_or φs f φ → IsFlusherAs m s (seen φ) (its f)
  flusher_at φs its f φ are lt is =
      are.all f (seen φ) (slice_get-map seen φs f ∙ ap (option_map seen) (slice_get_read φs (length φs) f φ refl lt is))

  -- another flusher in its place
  pub flusher_put : (φs : List (Flusher K V P A)) (its : ℕ → model_state.Flusher Content) (f : ℕ) (ψ : Flusher K V P A) (after : model_state.Flusher Content)
      → AreFlushersAs m s (map seen φs) its → f < length φs → IsFlusherAs m s (seen ψ) after
      → AreFlushersAs m s (map seen (slice_set φs f ψ)) (put its f after)
  flusher_put φs its f ψ after are lt stands = record {
    count = ap length (set_map seen φs f ψ) ∙ set_count (map seen φs) f (seen ψ) ∙ are.count;
    all = λ g x is. put_at (λ it. IsFlusherAs m s x it) its f after g
        (λ same. subst (λ x. IsFlusherAs m s x after) (some_is (sym (here g same) ∙ is)) stands)
        (λ ne. are.all g x (sym (ap (λ xs. slice_get xs g) (set_map seen φs f ψ) ∙ set_there (map seen φs) f g (seen ψ) ne) ∙ is));
    beyond = λ g over. subst IsIdle (sym (put_other its f after g (λ same. let c : length φs ≡ s.flushers = flushers_count φs its are in omega arith))) (are.beyond g over);
  }
    where
      here : (g : ℕ) → g ≡ f → slice_get (map seen (slice_set φs f ψ)) g ≡ Some (seen ψ)
      here g same = ap (λ k. slice_get (map seen (slice_set φs f ψ)) k) same
          ∙ ap (λ xs. slice_get xs f) (set_map seen φs f ψ)
          ∙ set_here (map seen φs) f (seen ψ) (let e : length (map seen φs) ≡ length φs = map_count seen φs in omega arith)

  -- another flusher that stands for the same
  pub flusher_kept : (φs : List (Flusher K V P A)) (its : ℕ → model_state.Flusher Content) (f : ℕ) (ψ : Flusher K V P A)
      → AreFlushersAs m s (map seen φs) its → f < length φs → IsFlusherAs m s (seen ψ) (its f) → AreFlushersAs m s (map seen (slice_set φs f ψ)) its
  flusher_kept φs its f ψ are lt stands =
      let changed : AreFlushersAs m s (map seen (slice_set φs f ψ)) (put its f (its f)) = flusher_put φs its f ψ (its f) are lt stands in
      record {
        count = changed.count;
        all = λ g x is. subst (λ k. IsFlusherAs m s x k) (put_at (λ k. k ≡ its g) its f (its f) g (λ e. ap its (sym e)) (λ ne. refl)) (changed.all g x is);
        beyond = are.beyond;
      }

  -- a core that is unchanged stands for the same states
  pub unchanged_stands : (old new : Core K V P A) (it : model_state.State Content)
      → IsUnchanged old new → IsStateOf m s old it → IsStateOf m s new it
  unchanged_stands old new it same stands = record {
    sizes = same.settings ∙ stands.sizes;
    index = subst (λ k. IsIndexedAs s k it.index) (sym (same.index).0) stands.index;
    next = stands.next ∙ sym same.next;
    steps = stands.steps ∙ sym same.steps;
    closed = stands.closed ∙ sym same.closed;
    flushers = subst (λ xs. AreFlushersAs m s xs it.flushers) (sym same.flushers) stands.flushers;
    queued = subst (λ n. IsSizedAs s new.queued n it.flushers) (sym same.next)
        (subst (λ q. IsSizedAs s q old.next it.flushers) (sym same.queued) stands.queued);
    manager = subst (λ k. IsManagedAs s k (sets_of it)) (sym same.manager) stands.manager;
    has = stands.has;
    reclaims = λ b. subst (λ o. AreReclaimAs s b (it.place b) (it.filling b) o (it.reclaims b)) (sym (same.reclaims b)) (stands.reclaims b);
    destroy = subst (λ d. IsDestroyAs s.blocks d it.destroy) (sym same.destroy) stands.destroy;
  }

-- the sum of the queued sizes, when one flusher changes
pub size_put : {C : Type 0} (n : ℕ) (its : ℕ → model_state.Flusher C) (f : ℕ) (after : model_state.Flusher C) → f < n
    → size_of_all n (put its f after) + size_in (its f).queue ≡ size_of_all n its + size_in after.queue
size_put {C} zero its f after lt = absurd (omega arith)
size_put {C} (suc n) its f after lt = go (f == n) refl (λ less. size_put n its f after less)
  where
    apart : (k : ℕ) → k ≤ f → size_of_all k (put its f after) ≡ size_of_all k its
    apart zero le = refl
    apart (suc k) le =
        let here : put its f after k ≡ its k = put_other its f after k (λ e. omega arith) in
        let rest : size_of_all k (put its f after) ≡ size_of_all k its = apart k (omega arith) in
        ap (λ φ. size_in φ.queue + size_of_all k (put its f after)) here ∙ ap (λ r. size_in (its k).queue + r) rest

    go : (b : Bool) → (f == n) ≡ b → (f < n → size_of_all n (put its f after) + size_in (its f).queue ≡ size_of_all n its + size_in after.queue)
        → size_of_all (suc n) (put its f after) + size_in (its f).queue ≡ size_of_all (suc n) its + size_in after.queue
    go true e below =
        let same : f ≡ n = grind (arith, nat_tests) in
        let here : put its f after n ≡ after = ap (put its f after) (sym same) ∙ put_same its f after in
        let size : size_in (put its f after n).queue ≡ size_in after.queue = ap (λ φ. size_in φ.queue) here in
        let mine : size_in (its f).queue ≡ size_in (its n).queue = ap (λ k. size_in (its k).queue) same in
        let rest : size_of_all n (put its f after) ≡ size_of_all n its = apart n (omega arith) in
        omega arith
    go false e below =
        let ne : f ≡ n → ⊥ = λ same. grind (arith, nat_tests) in
        let less : f < n = grind (arith, nat_tests) in
        let here : size_in (put its f after n).queue ≡ size_in (its n).queue = ap (λ φ. size_in φ.queue) (put_other its f after n (λ e. ne (sym e))) in
        let rest : size_of_all n (put its f after) + size_in (its f).queue ≡ size_of_all n its + size_in after.queue = below less in
        omega arith

-- a queue that has one more at its end
pub size_pushed : {C : Type 0} (q : List (model_state.Submission C)) (x : model_state.Submission C) → size_in (q ++ x ∷ []) ≡ size_in q + size_in (x ∷ [])
size_pushed [] x = let none : 0 + size_in (x ∷ []) ≡ size_in (x ∷ []) = omega arith in sym none
size_pushed (model_state.Piece h s n c ∷ q) x = let e : size_in (q ++ x ∷ []) ≡ size_in q + size_in (x ∷ []) = size_pushed q x in omega arith
size_pushed (model_state.Remove h s invalidated ∷ q) x = size_pushed q x
size_pushed (model_state.Await i ∷ q) x = size_pushed q x
size_pushed (model_state.Reinsert h bytes a ∷ q) x = size_pushed q x

pub plus_min : (n a b : ℕ) → b ≡ min a last_number → plus n b ≡ min (n + a) last_number
plus_min n a b is = go (nat_le (n + b) last_number) refl
  where
    go : (t : Bool) → nat_le (n + b) last_number ≡ t → (if t then n + b else last_number) ≡ min (n + a) last_number
    go true e = let le : n + b ≤ last_number = grind (arith, nat_tests) in omega arith
    go false e = let lt : last_number < n + b = grind (arith, nat_tests) in omega arith

-- the model's sums stay at the greatest number
pub queue_size_is : {C : Type 0} (q : List (model_state.Submission C)) → queue_size q ≡ min (size_in q) last_number
queue_size_is [] = refl
queue_size_is (model_state.Piece h s n c ∷ q) = plus_min n (size_in q) (queue_size q) (queue_size_is q)
queue_size_is (model_state.Remove h s invalidated ∷ q) = queue_size_is q
queue_size_is (model_state.Await i ∷ q) = queue_size_is q
queue_size_is (model_state.Reinsert h bytes a ∷ q) = queue_size_is q

plus_both : (a b c d : ℕ) → a ≡ min c last_number → b ≡ min d last_number → plus a b ≡ min (c + d) last_number
plus_both a b c d one two = go (nat_le (a + b) last_number) refl
  where
    go : (t : Bool) → nat_le (a + b) last_number ≡ t → (if t then a + b else last_number) ≡ min (c + d) last_number
    go true e = let le : a + b ≤ last_number = grind (arith, nat_tests) in omega arith
    go false e = let lt : last_number < a + b = grind (arith, nat_tests) in omega arith

pub size_queued_is : {C : Type 0} (n : ℕ) (its : ℕ → model_state.Flusher C) → size_queued n its ≡ min (size_of_all n its) last_number
size_queued_is zero its = refl
size_queued_is (suc n) its = plus_both (queue_size (its n).queue) (size_queued n its) (size_in (its n).queue) (size_of_all n its) (queue_size_is (its n).queue) (size_queued_is n its)
