-- While a piece is queued, no load answers an older one.
use Rattle.std.proofs.Common.{◌≡◌, ℕ, ◌<◌, ◌≤◌, Bool, List, [], ◌∷◌, Option, Some, None, refl, sym, subst, ◌∙◌, arith}
use Rattle.foyer_core_model.specs.Rules.{Rules, Splitting}
use Rattle.foyer_core_model.specs.World.{WorldEvent}
use Rattle.foyer_core_model.specs.Laws.{Demands, IsReached}
use Rattle.foyer_format_layout.specs.Each.{Each}
use Rattle.foyer_core_model.proofs.RereadsKept.{new_again}
use Rattle.foyer_core_model.proofs.SoundKept.{IsKnown}
use Rattle.foyer_core_model.proofs.OpenedSound.{new_sound, new_sets}
use Rattle.foyer_core_model.proofs.Promises.{answers_newest_lem, reached_more}
use Rattle.foyer_core_model.proofs.Traced.{IsTracedAt}
use Rattle.foyer_core_store_runs.specs.StoreRun.{Kept, Store, StoreEvent, Happens, Releases, queued_by, entered, first_released, store_after, store_after_all, MayHappenIn, MayAllHappenIn, IsOpenedStore}
use Rattle.foyer_core_store_runs.specs.StoreLaw.{IsEquality, IsReachedStore, AnswersNoOlder, QueuedAreFound}
use Rattle.foyer_core_store_runs.proofs.Lines.{InLine}
use Rattle.foyer_core_store_runs.proofs.Flights.{line_at}
use Rattle.foyer_core_store_runs.proofs.Lids.{IsPast, past_stays, past_read}
use Rattle.foyer_core_store_runs.proofs.StoreRuns.{has_hash, PieceIsPast, IsInOrder, MapOk, line_in, IsSoundStore, event_sound}

module _ {C Key : Type 0} (same : Key → Key → Bool) (key_of : C → Key) (hash_of : Key → ℕ) (rules : Rules C) (Splits : Splitting C) (is_value : C → Type 0) (demands : Demands rules Splits is_value) (equal : IsEquality same) where
  opened_sound : (σ : Store C Key) → IsOpenedStore rules σ → IsSoundStore same key_of hash_of rules Splits is_value demands equal σ
  opened_sound σ opened = record {
    known = record { sound = new_sound rules σ.world opened.world; again = new_again rules σ.world opened.world; sets = new_sets rules σ.world opened.world };
    hashes = λ f. subst (IsTracedAt (has_hash key_of hash_of rules)) (sym (opened.world.flushers f)) (record { pieces = tt; received = tt; written = tt });
    lines = record {
      in_line = λ f. subst (InLine (PieceIsPast key_of hash_of rules σ.world)) (sym (line_none f)) tt;
      each = λ f. subst (Each (IsInOrder key_of hash_of rules σ.world σ.queued σ.held f)) (sym (line_none f)) tt;
      lies = λ s c is. absurd (let f : None ≡ Some c = sym (opened.held s) ∙ is in cc);
    };
    own = λ a b c d is _ _ _. absurd (let f : None ≡ Some c = sym (opened.queued a) ∙ is in cc);
    map = λ k. subst (MapOk key_of hash_of rules σ.world σ.held σ.numbers k) (sym (opened.map k)) (λ s c is key. absurd (let f : None ≡ Some c = sym (opened.held s) ∙ is in cc));
  }
    where
      line_none : (f : ℕ) → line_in key_of hash_of rules σ.world σ.back f ≡ []
      line_none f = λ i. line_at (λ q. opened.back q i) (λ q. opened.world.flushers q i) f

  all_sound : (σ : Store C Key) (es : List (StoreEvent C)) → MayAllHappenIn same key_of hash_of rules Splits is_value σ es → IsSoundStore same key_of hash_of rules Splits is_value demands equal σ
      → IsSoundStore same key_of hash_of rules Splits is_value demands equal (store_after_all same key_of rules σ es)
  all_sound σ [] ok sound = sound
  all_sound σ (e ∷ es) ok sound = all_sound (store_after same key_of rules σ e) es ok.1 (event_sound same key_of hash_of rules Splits is_value demands equal σ e ok.0 sound)

  reached_sound : (σ : Store C Key) → IsReachedStore same key_of hash_of rules Splits is_value σ → IsSoundStore same key_of hash_of rules Splits is_value demands equal σ
  reached_sound σ reached = subst (IsSoundStore same key_of hash_of rules Splits is_value demands equal) reached.is (all_sound reached.first reached.events reached.happened (opened_sound reached.first reached.opened))

  -- what is past stays so, whatever the store does
  entered_world : (number : ℕ) (o : Option (ℕ × C)) (σ : Store C Key) → (entered same key_of number o σ).world ≡ σ.world
  entered_world number None σ = refl
  entered_world number (Some p) σ = refl

  released_world : (f : ℕ) (line : List (ℕ × C)) (σ : Store C Key) → (first_released same key_of f line σ).world ≡ σ.world
  released_world f [] σ = refl
  released_world f (p ∷ ps) σ = refl

  -- the events of the world in those of a store
  world_events : List (StoreEvent C) → List (WorldEvent C)
  world_events [] = []
  world_events (Happens e number ∷ es) = e ∷ world_events es
  world_events (Releases f ∷ es) = world_events es

  event_past : (σ : Store C Key) (e : StoreEvent C) (h u : ℕ) → MayHappenIn same key_of hash_of rules Splits is_value σ e → IsKnown rules Splits is_value demands σ.world → IsPast σ.world h u → IsPast (store_after same key_of rules σ e).world h u
  event_past σ (Happens e number) h u ok known past = subst (λ w. IsPast w h u) (sym (entered_world number (queued_by e) _)) (past_stays rules Splits is_value demands h u σ.world e ok.0 known past)
  event_past σ (Releases f) h u ok known past = subst (λ w. IsPast w h u) (sym (released_world f (σ.back f) σ)) past

  all_past : (σ : Store C Key) (es : List (StoreEvent C)) (h u : ℕ) → MayAllHappenIn same key_of hash_of rules Splits is_value σ es → IsSoundStore same key_of hash_of rules Splits is_value demands equal σ → IsPast σ.world h u
      → IsPast (store_after_all same key_of rules σ es).world h u
  all_past σ [] h u ok sound past = past
  all_past σ (e ∷ es) h u ok sound past =
      all_past (store_after same key_of rules σ e) es h u ok.1 (event_sound same key_of hash_of rules Splits is_value demands equal σ e ok.0 sound) (event_past σ e h u ok.0 sound.known past)

  -- the world of a store is reached
  event_reached : (σ : Store C Key) (e : StoreEvent C) → MayHappenIn same key_of hash_of rules Splits is_value σ e → IsReached rules Splits is_value σ.world → IsReached rules Splits is_value (store_after same key_of rules σ e).world
  event_reached σ (Happens e number) ok reached =
      subst (IsReached rules Splits is_value) (sym (entered_world number (queued_by e) _)) (reached_more rules Splits is_value σ.world (e ∷ []) reached (ok.0, tt))
  event_reached σ (Releases f) ok reached = subst (IsReached rules Splits is_value) (sym (released_world f (σ.back f) σ)) reached

  all_reached : (σ : Store C Key) (es : List (StoreEvent C)) → MayAllHappenIn same key_of hash_of rules Splits is_value σ es → IsReached rules Splits is_value σ.world → IsReached rules Splits is_value (store_after_all same key_of rules σ es).world
  all_reached σ [] ok reached = reached
  all_reached σ (e ∷ es) ok reached = all_reached (store_after same key_of rules σ e) es ok.1 (event_reached σ e ok.0 reached)

  world_reached : (σ : Store C Key) → IsReachedStore same key_of hash_of rules Splits is_value σ → IsReached rules Splits is_value σ.world
  world_reached σ reached =
      subst (λ τ. IsReached rules Splits is_value τ.world) reached.is
      (all_reached reached.first reached.events reached.happened (record { first = reached.first.world; events = []; opened = reached.opened.world; happened = tt; is = refl }))

  answers : (σ : Store C Key) (s : ℕ) (c : C) → IsReachedStore same key_of hash_of rules Splits is_value σ → σ.held s ≡ Some c → (o : Option (Kept C))
      → MapOk key_of hash_of rules σ.world σ.held σ.numbers (key_of c) o → AnswersNoOlder same key_of hash_of rules Splits is_value σ (key_of c) s o
  answers σ s c reached held None map = λ between throttled t looked happened may. (
    (let old : (u : ℕ) × (s < u) × IsPast σ.world (hash_of (key_of c)) u = map s c held refl in
        let lt : s < old.0 = old.1 in
        let sound : IsSoundStore same key_of hash_of rules Splits is_value demands equal σ = reached_sound σ reached in
        let le : old.0 ≤ t.address.sequence = past_read rules Splits is_value demands (hash_of (key_of c)) old.0 (store_after_all same key_of rules σ between).world t looked throttled
        (all_sound σ between happened sound).known (all_past σ between (hash_of (key_of c)) old.0 happened sound old.2) may in omega arith),
    λ later result d age ended l happens ends at done.
        answers_newest_lem rules Splits is_value (store_after_all same key_of rules σ between).world (hash_of (key_of c)) throttled t looked later result d age ended l demands
        (all_reached σ between happened (world_reached σ reached)) happens ends at done,
  )
  answers σ s c reached held (Some kept) map = record { sequence = map.0; held = map.1; number = map.2; key = map.4; no_older = map.5 s c held refl }

pub queued_are_found_lem : {C Key : Type 0} (same : Key → Key → Bool) (key_of : C → Key) (hash_of : Key → ℕ) (rules : Rules C) (Splits : Splitting C) (is_value : C → Type 0) → QueuedAreFound same key_of hash_of rules Splits is_value
queued_are_found_lem same key_of hash_of rules Splits is_value σ s c demands equal reached held =
    answers same key_of hash_of rules Splits is_value demands equal σ s c reached held (σ.map (key_of c)) ((reached_sound same key_of hash_of rules Splits is_value demands equal σ reached).map (key_of c))
