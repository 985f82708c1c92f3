-- Flushers that have nothing left to do are the model's that are idle.
use Rattle.std.proofs.Common.{◌≡◌, ℕ, zero, suc, ◌<◌, ◌==◌, ◌&&◌, Bool, true, false, List, [], ◌∷◌, length, map, slice_get, Option, Some, None, is_none, vec_len, refl, sym, ap, subst, ◌∙◌, arith}
use Rattle.std.proofs.lemmas.Bool.{eqb-true, eq-eqb}
use Rattle.std.specs.VecDeque.{deque_len}
use Rattle.foyer_block_index.specs.declared.indexer.EntryAddress.{EntryAddress}
use Rattle.foyer_core_model.specs.Destroy.{IsIdle}
use Rattle.foyer_core_model.specs.State as model_state
use Rattle.foyer_core_model.specs.Record as model_record
use Rattle.foyer_core_flusher.specs.Content.{Content, Meaning}
use Rattle.foyer_core_flusher.specs.Settings.{Settings}
use Rattle.foyer_core_flusher.proofs.BeginTurns.{no_map}
use Rattle.foyer_core_flusher.specs.Cleared.{are_still}
use Rattle.foyer_core_flusher.specs.Flushing.{AreBatched, AreReceived, IsFlusherAs, submission_of}
use Rattle.foyer_core_flusher.specs.Seen.{is_still, seen}
use Rattle.foyer_core_flusher.specs.declared.batch.Batch.{Batch}
use Rattle.foyer_core_flusher.specs.declared.flusher.Flusher.{Flusher}
use Rattle.foyer_policy_piece.specs.Referred.{Referred}
use Rattle.foyer_core_flusher.specs.Addresses.{mark_of}

pub and_both : (a b : Bool) → (a && b) ≡ true → (a ≡ true) × (b ≡ true)
and_both true true e = (refl, refl)
and_both true false e = absurd (let f : false ≡ true = e in cc)
and_both false b e = absurd (let f : false ≡ true = e in cc)

both_and : (a b : Bool) → a ≡ true → b ≡ true → (a && b) ≡ true
both_and true true p q = refl
both_and true false p q = q
both_and false b p q = p

nothing : {X : Type 0} (xs : List X) → length xs ≡ 0 → xs ≡ []
nothing [] e = refl
nothing (x ∷ xs) e = absurd (let f : suc (length xs) ≡ 0 = e in omega (arith, f))

no_one : {X : Type 0} (o : Option X) → is_none o ≡ true → o ≡ None
no_one None e = refl
no_one (Some x) e = absurd (let f : false ≡ true = e in cc)

-- without sources nothing is in a buffer, and the other way round
none_given : {K V P : Type 0} (m : Meaning K V P) (os : List (Option EntryAddress)) (rs : List (model_record.Record Content)) (ps : List (Referred K V P)) → os ≡ [] → AreReceived m os rs ps → rs ≡ []
none_given m [] [] ps is are = refl
none_given m [] (r ∷ rs) ps is are = absurd are
none_given m (o ∷ os) rs ps is are = absurd (let clash : o ∷ os ≡ [] = is in cc)

given_none : {K V P : Type 0} (m : Meaning K V P) (os : List (Option EntryAddress)) (rs : List (model_record.Record Content)) (ps : List (Referred K V P)) → rs ≡ [] → AreReceived m os rs ps → os ≡ []
given_none m [] rs ps is are = refl
given_none m (None ∷ os) [] ps is are = absurd are
given_none m (Some a ∷ os) [] ps is are = absurd are
given_none m (o ∷ os) (r ∷ rs) ps is are = absurd (let clash : r ∷ rs ≡ [] = is in cc)

module _ {K V P A : Type 0} (m : Meaning K V P) where
  none_batched : (s : Settings) (own : Option ℕ) (batch : Option (Batch K V P A)) (x : Option (model_state.Batch Content)) → batch ≡ None → AreBatched m s own batch x → x ≡ None
  none_batched s own batch x e are = go x (subst (λ b. AreBatched m s own b x) e are)
    where
      go : (y : Option (model_state.Batch Content)) → AreBatched {A = A} m s own None y → y ≡ None
      go None are = refl
      go (Some b) are = absurd are

  batched_none : (s : Settings) (own : Option ℕ) (batch : Option (Batch K V P A)) (x : Option (model_state.Batch Content)) → x ≡ None → AreBatched m s own batch x → is_none batch ≡ true
  batched_none s own None x e are = refl
  batched_none s own (Some b) x e are = absurd (subst (AreBatched m s own (Some b)) e are)

  -- one that is still is idle
  pub idle_of : (s : Settings) (φ : Flusher K V P A) (x : model_state.Flusher Content) → is_still φ ≡ true → IsFlusherAs m s (seen φ) x → IsIdle x
  idle_of s φ x still is =
      let queue = deque_len φ.queue == 0 in
      let sources = deque_len φ.sources == 0 in
      let marks = vec_len φ.marks == 0 in
      let waits = vec_len φ.waits == 0 in
      let four = and_both (queue && sources && marks && waits) (is_none φ.batch) still in
      let three = and_both (queue && sources && marks) waits four.0 in
      let two = and_both (queue && sources) marks three.0 in
      let one = and_both queue sources two.0 in
      let q : φ.queue.items ≡ [] = nothing φ.queue.items (omega (arith, eqb-true (deque_len φ.queue) 0 one.0, φ.queue.ok)) in
      let p : φ.sources.items ≡ [] = nothing φ.sources.items (omega (arith, eqb-true (deque_len φ.sources) 0 one.1, φ.sources.ok)) in
      let k : φ.marks.items ≡ [] = nothing φ.marks.items (omega (arith, eqb-true (vec_len φ.marks) 0 two.1, φ.marks.ok)) in
      let w : φ.waits.items ≡ [] = nothing φ.waits.items (omega (arith, eqb-true (vec_len φ.waits) 0 three.1, φ.waits.ok)) in (
        is.queue ∙ ap (map (submission_of m)) q,
        none_given m φ.sources.items x.buffer φ.pieces.items p is.given,
        is.marks ∙ ap (map mark_of) k,
        is.waits ∙ w,
        none_batched s φ.own φ.batch x.batch (no_one φ.batch four.1) is.batch,
      )

  -- and the other way round
  pub still_of : (s : Settings) (φ : Flusher K V P A) (x : model_state.Flusher Content) → IsIdle x → IsFlusherAs m s (seen φ) x → is_still φ ≡ true
  still_of s φ x idle is =
      let q : φ.queue.items ≡ [] = no_map (submission_of m) φ.queue.items (sym is.queue ∙ idle.0) in
      let p : φ.sources.items ≡ [] = given_none m φ.sources.items x.buffer φ.pieces.items idle.1 is.given in
      let k : φ.marks.items ≡ [] = no_map mark_of φ.marks.items (sym is.marks ∙ idle.2) in
      let w : φ.waits.items ≡ [] = sym is.waits ∙ idle.3 in
      let lq : length φ.queue.items ≡ 0 = ap length q in
      let lp : length φ.sources.items ≡ 0 = ap length p in
      let lk : length φ.marks.items ≡ 0 = ap length k in
      let lw : length φ.waits.items ≡ 0 = ap length w in
      let queue = deque_len φ.queue == 0 in
      let sources = deque_len φ.sources == 0 in
      let marks = vec_len φ.marks == 0 in
      let waits = vec_len φ.waits == 0 in
      both_and (queue && sources && marks && waits) (is_none φ.batch)
      (both_and (queue && sources && marks) waits
      (both_and (queue && sources) marks
      (both_and queue sources (eq-eqb (deque_len φ.queue) 0 (omega (arith, φ.queue.ok))) (eq-eqb (deque_len φ.sources) 0 (omega (arith, φ.sources.ok))))
      (eq-eqb (vec_len φ.marks) 0 (omega (arith, φ.marks.ok))))
      (eq-eqb (vec_len φ.waits) 0 (omega (arith, φ.waits.ok))))
      (batched_none s φ.own φ.batch x.batch idle.4 is.batch)

  -- all of these flushers
  pub still_all : (s : Settings) (φs : List (Flusher K V P A)) (its : ℕ → model_state.Flusher Content)
      → ((f : ℕ) (φ : Flusher K V P A) → slice_get φs f ≡ Some φ → IsFlusherAs m s (seen φ) (its f)) → ((f : ℕ) → IsIdle (its f)) → are_still φs ≡ true
  still_all s [] its are idle = refl
  still_all s (φ ∷ φs) its are idle =
      both_and (is_still φ) (are_still φs) (still_of s φ (its 0) (idle 0) (are 0 φ refl))
      (still_all s φs (λ f. its (suc f)) (λ f ψ is. are (suc f) ψ is) (λ f. idle (suc f)))

  pub idle_all : (s : Settings) (φs : List (Flusher K V P A)) (its : ℕ → model_state.Flusher Content)
      → ((f : ℕ) (φ : Flusher K V P A) → slice_get φs f ≡ Some φ → IsFlusherAs m s (seen φ) (its f)) → are_still φs ≡ true
      → (f : ℕ) → f < length φs → IsIdle (its f)
  idle_all s [] its are still f lt = absurd (omega arith)
  idle_all s (φ ∷ φs) its are still zero lt = idle_of s φ (its 0) (and_both (is_still φ) (are_still φs) still).0 (are 0 φ refl)
  idle_all s (φ ∷ φs) its are still (suc f) lt =
      idle_all s φs (λ g. its (suc g)) (λ g ψ is. are (suc g) ψ is) (and_both (is_still φ) (are_still φs) still).1 f (omega arith)
