-- A submission at the end of a flusher's queue.
use Rattle.std.proofs.Common.{◌≡◌, ℕ, ◌+◌, ◌-◌, ◌*◌, ◌^◌, ◌<◌, ◌≤◌, List, [], ◌∷◌, ◌++◌, map, length, slice_set, slice_index_or, sym, ap, subst, ◌∙◌, arith}
use Rattle.foyer_core_model.specs.Numbers.{put}
use Rattle.foyer_core_model.specs.State as model_state
use Rattle.foyer_core_flusher.specs.Content.{Content, Meaning}
use Rattle.foyer_core_flusher.specs.Flushing.{IsFlusherAs, submission_of}
use Rattle.foyer_core_steps.specs.StateOf.{AreFlushersAs, IsSizedAs, size_of_all}
use Rattle.foyer_core_flusher.specs.Taking.{size_in}
use Rattle.foyer_core_flusher.specs.Seen.{seen}
use Rattle.foyer_core_flusher.specs.declared.flusher.Flusher.{Flusher}
use Rattle.foyer_core_flusher.specs.declared.submission.Submission.{Submission}
use Rattle.foyer_core_flusher.specs.Settings.{Settings}
use Rattle.foyer_core_steps.proofs.Opening.{map-end}
use Rattle.foyer_core_steps.proofs.StateLemmas.{flusher_at, flusher_put, size_put, size_pushed}

-- the model's flusher with one submission more
abbrev pub with_queued : model_state.Flusher Content → model_state.Submission Content → model_state.Flusher Content
with_queued φ x = record φ { queue = φ.queue ++ x ∷ [] }

module _ {K V P A : Type 0} (m : Meaning K V P) (s : Settings) where
  pub queue_pushed : (φs : List (Flusher K V P A)) (its : ℕ → model_state.Flusher Content) (f : ℕ) (φ ψ : Flusher K V P A) (x : Submission K V P A)
      → AreFlushersAs m s (map seen φs) its → f < length φs → φ ≡ slice_index_or φs f φ
      → seen ψ ≡ record (seen φ) { queue = φ.queue.items ++ x ∷ [] }
      → AreFlushersAs m s (map seen (slice_set φs f ψ)) (put its f (with_queued (its f) (submission_of m x)))
  queue_pushed φs its f φ ψ x are lt is pushed =
      let stands : IsFlusherAs m s (seen φ) (its f) = flusher_at m s φs its f φ are lt is in
      flusher_put m s φs its f ψ (with_queued (its f) (submission_of m x)) are lt
      (subst (λ y. IsFlusherAs m s y (with_queued (its f) (submission_of m x))) (sym pushed) (record {
        queue = ap (λ q. q ++ submission_of m x ∷ []) stands.queue ∙ sym (map-end (submission_of m) φ.queue.items x);
        buffer = stands.buffer;
        room = stands.room;
        greatest = stands.greatest;
        given = stands.given;
        marks = stands.marks;
        invalidated = stands.invalidated;
        waits = stands.waits;
        own = stands.own;
        there = stands.there;
        sizes = stands.sizes;
        context = stands.context;
        goes_on = stands.goes_on;
        batch = stands.batch;
      }))

  -- the same, if number and submission are given in another way
  pub queue_pushed_at : (φs : List (Flusher K V P A)) (its : ℕ → model_state.Flusher Content) (f k : ℕ) (φ ψ : Flusher K V P A) (x : Submission K V P A) (y : model_state.Submission Content)
      → f ≡ k → submission_of m x ≡ y → AreFlushersAs m s (map seen φs) its → f < length φs → φ ≡ slice_index_or φs f φ
      → seen ψ ≡ record (seen φ) { queue = φ.queue.items ++ x ∷ [] }
      → AreFlushersAs m s (map seen (slice_set φs f ψ)) (put its k (with_queued (its k) y))
  queue_pushed_at φs its f k φ ψ x y at same are lt is pushed =
      subst (λ j. AreFlushersAs m s (map seen (slice_set φs f ψ)) (put its j (with_queued (its j) y))) at
      (subst (λ z. AreFlushersAs m s (map seen (slice_set φs f ψ)) (put its f (with_queued (its f) z))) same
      (queue_pushed φs its f φ ψ x are lt is pushed))

-- and the sum of the queued sizes
pub size_grown : (s : Settings) (its : ℕ → model_state.Flusher Content) (f : ℕ) (x : model_state.Submission Content) (queued next more later : ℕ)
    → IsSizedAs s queued next its → f < s.flushers → more ≡ queued + size_in (x ∷ []) → more ≤ later * 2 ^ 64
    → IsSizedAs s more later (put its f (with_queued (its f) x))
size_grown s its f x queued next more later sized lt is bound =
    let put_is : size_of_all s.flushers (put its f (with_queued (its f) x)) + size_in (its f).queue ≡ size_of_all s.flushers its + size_in ((its f).queue ++ x ∷ []) =
    size_put s.flushers its f (with_queued (its f) x) lt in
    let pushed : size_in ((its f).queue ++ x ∷ []) ≡ size_in (its f).queue + size_in (x ∷ []) = size_pushed (its f).queue x in
    let sum : queued ≡ size_of_all s.flushers its = sized.sum in
    record { sum = omega arith; bound = bound }

-- a submission leaves a queue, with a size of this much
pub size_shrunk : (s : Settings) (its : ℕ → model_state.Flusher Content) (f : ℕ) (after : model_state.Flusher Content) (queued size less next : ℕ)
    → IsSizedAs s queued next its → f < s.flushers → size_in (its f).queue ≡ size + size_in after.queue → less ≡ queued - size
    → IsSizedAs s less next (put its f after)
size_shrunk s its f after queued size less next sized lt is now =
    let put_is : size_of_all s.flushers (put its f after) + size_in (its f).queue ≡ size_of_all s.flushers its + size_in after.queue = size_put s.flushers its f after lt in
    let sum : queued ≡ size_of_all s.flushers its = sized.sum in
    let bound : queued ≤ next * 2 ^ 64 = sized.bound in
    record { sum = omega arith; bound = omega arith }

-- a flusher changes, and its queue has the sizes that it had
pub size_kept : (s : Settings) (its : ℕ → model_state.Flusher Content) (f : ℕ) (after : model_state.Flusher Content) (queued next : ℕ)
    → IsSizedAs s queued next its → f < s.flushers → size_in (its f).queue ≡ size_in after.queue → IsSizedAs s queued next (put its f after)
size_kept s its f after queued next sized lt same =
    let none : size_in (its f).queue ≡ 0 + size_in after.queue = omega arith in
    let all : queued ≡ queued - 0 = omega arith in
    size_shrunk s its f after queued 0 queued next sized lt none all
