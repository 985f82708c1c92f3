-- What is true of every store that is reached.
use Rattle.std.proofs.Common.{◌≡◌, ◌≢◌, ℕ, ◌+◌, ◌<◌, ◌≤◌, ◌==◌, Bool, true, false, if◌then◌else◌, List, [], ◌∷◌, ◌++◌, Option, Some, None, ◌⊎◌, inl, inr, refl, sym, ap, subst, ◌∙◌, arith}
use Rattle.std.proofs.lemmas.Bool.{eqb-true, eqb-false}
use Rattle.foyer_core_model.specs.Numbers.{put}
use Rattle.foyer_core_model.specs.State.{State}
use Rattle.foyer_core_model.specs.Rules.{Rules, flusher_of, Splitting}
use Rattle.foyer_core_model.specs.Step.{Age, Enqueue}
use Rattle.foyer_core_model.specs.Reply.{Queued}
use Rattle.foyer_core_model.specs.Event.{sequence_in, newest}
use Rattle.foyer_core_model.specs.World.{World, WorldEvent, Applies, after, MayHappen}
use Rattle.foyer_core_model.specs.Laws.{Demands}
use Rattle.foyer_format_layout.specs.Each.{Each}
use Rattle.foyer_format_layout.proofs.EachLaws.{each_join, each_weaker}
use Rattle.foyer_core_model.proofs.Basics.{put_at, put_same, put_other}
use Rattle.foyer_core_model.proofs.SoundKept.{IsKnown, known_keeps}
use Rattle.foyer_core_model.proofs.Traced.{SubmissionKnown}
use Rattle.foyer_core_store_runs.specs.StoreRun.{Kept, Store, StoreEvent, Happens, Releases, queued_by, back_after, put_key, without_number, first_released, CarriesHash, IsNumbered, store_after, MayHappenIn}
use Rattle.foyer_core_store_runs.specs.StoreLaw.{IsEquality}
use Rattle.foyer_core_store_runs.proofs.Lines.{IsIn, in_front, in_back, each_in, InLine, line_more, line_pushed, line_moved, each_moved, in_moved}
use Rattle.foyer_core_store_runs.proofs.Tracks.{AllKnown, IsQueuedKnown, known_stays}
use Rattle.foyer_core_store_runs.proofs.Flights.{flight, line_at, Overtakes, IsPushed, LineGoes, event_line, queued_line}
use Rattle.foyer_core_store_runs.proofs.Draws.{event_draws}
use Rattle.foyer_core_store_runs.proofs.Lids.{IsPast, past_stays}

-- maps by keys
module _ {Key X : Type 0} (same : Key → Key → Bool) (equal : IsEquality same) (P : X → Type 0) (m : Key → X) (k : Key) (v : X) where
  pub key_at : (q : Key) → (q ≡ k → P v) → ((q ≡ k → ⊥) → P (m q)) → P (put_key same m k v q)
  key_at q here elsewhere = go (same q k) refl
    where
      go : (t : Bool) → same q k ≡ t → P (if t then v else m q)
      go true e = here ((equal q k).0 e)
      go false e = elsewhere (λ at. absurd (let f : same q k ≡ true = (equal q k).1 at in cc))

module _ {C Key : Type 0} (key_of : C → Key) (hash_of : Key → ℕ) (rules : Rules C) where
  -- a hash is that of the content's key
  abbrev pub has_hash : ℕ → ℕ → C → Type 0
  has_hash q s c = q ≡ hash_of (key_of c)

  abbrev pub PieceIsPast : World C → ℕ × C → Type 0
  PieceIsPast w p = IsPast w (hash_of (key_of p.1)) p.0

  -- a piece in the line of its flusher
  pub record IsInOrder (w : World C) (queued held : ℕ → Option C) (f : ℕ) (p : ℕ × C) : Type 0 where
    pub drawn : p.0 < w.core.next
    pub was : queued p.0 ≡ Some p.1
    pub agrees : (c : C) → held p.0 ≡ Some c → c ≡ p.1
    pub at : flusher_of rules (hash_of (key_of p.1)) ≡ f

  abbrev pub MapOk : World C → (ℕ → Option C) → (ℕ → ℕ) → Key → Option (Kept C) → Type 0
  MapOk w held numbers k None = (s : ℕ) (c : C) → held s ≡ Some c → key_of c ≡ k → (u : ℕ) × (s < u) × IsPast w (hash_of k) u
  MapOk w held numbers k (Some e) =
      (top : ℕ) × (held top ≡ Some e.piece) × (numbers top ≡ e.number) × (e.number ≢ 0) × (key_of e.piece ≡ k)
      × ((s : ℕ) (c : C) → held s ≡ Some c → key_of c ≡ k → s ≤ top)

  abbrev pub line_in : World C → (ℕ → List (ℕ × C)) → ℕ → List (ℕ × C)
  line_in w back f = line_at back w.core.flushers f

  -- what is true of the pieces on their way
  pub record LinesOk (w : World C) (queued held : ℕ → Option C) (back : ℕ → List (ℕ × C)) : Type 0 where
    pub in_line : (f : ℕ) → InLine (PieceIsPast w) (line_in w back f)
    pub each : (f : ℕ) → Each (IsInOrder w queued held f) (line_in w back f)
    pub lies : (s : ℕ) (c : C) → held s ≡ Some c → IsIn (s, c) (line_in w back (flusher_of rules (hash_of (key_of c))))

module _ {C Key : Type 0} (same : Key → Key → Bool) (key_of : C → Key) (hash_of : Key → ℕ) (rules : Rules C) (Splits : Splitting C) (is_value : C → Type 0) (demands : Demands rules Splits is_value) (equal : IsEquality same) where
  pub record IsSoundStore (σ : Store C Key) : Type 0 where
    pub known : IsKnown rules Splits is_value demands σ.world
    pub hashes : AllKnown (has_hash key_of hash_of rules) σ.world
    pub lines : LinesOk key_of hash_of rules σ.world σ.queued σ.held σ.back
    pub own : (a b : ℕ) (c d : C) → σ.queued a ≡ Some c → σ.queued b ≡ Some d → key_of c ≡ key_of d → σ.numbers a ≡ σ.numbers b → a ≡ b
    pub map : (k : Key) → MapOk key_of hash_of rules σ.world σ.held σ.numbers k (σ.map k)

  -- an event of the world, before a piece that it queues is put into the map

  carries_known : (w : World C) (e : WorldEvent C) → CarriesHash key_of hash_of e → IsQueuedKnown (has_hash key_of hash_of rules) e
  carries_known w (Applies (Enqueue h n age c) (Queued s) new) carries = carries
  carries_known w e carries = tt

  pushed_draws : (w : World C) (h n : ℕ) (age : Age) (c : C) (s : ℕ) (new : State C) → MayHappen rules Splits is_value w (Applies (Enqueue h n age c) (Queued s) new) → (s ≡ w.core.next) × (new.next ≡ s + 1)
  pushed_draws w h n age c s new (fed, (few, turn, (done, changes, eq))) = (changes.0, ap (λ k. k.next) eq ∙ ap (λ k. k.next) changes.4)

  module _ (w : World C) (had held : ℕ → Option C) (back : ℕ → List (ℕ × C)) (e : WorldEvent C) (ok : MayHappen rules Splits is_value w e) (carries : CarriesHash key_of hash_of e)
      (known : IsKnown rules Splits is_value demands w) (hashes : AllKnown (has_hash key_of hash_of rules) w) (lines : LinesOk key_of hash_of rules w had held back) where
    abbrev v : World C
    v = after rules w e

    grown : w.core.next ≤ v.core.next
    grown = event_draws rules Splits is_value w e ok

    past_then : (p : ℕ × C) → PieceIsPast key_of hash_of rules w p → PieceIsPast key_of hash_of rules v p
    past_then p past = past_stays rules Splits is_value demands (hash_of (key_of p.1)) p.0 w e ok known past

    abbrev new_back : ℕ → List (ℕ × C)
    new_back = back_after w e back

    goes : (f : ℕ) → LineGoes rules w e f (line_in key_of hash_of rules w back f) (line_in key_of hash_of rules v new_back f)
    goes f = event_line rules Splits w back f is_value e ok

    -- with this held afterwards
    module _ (having holding : ℕ → Option C) (kept : (s : ℕ) → s < w.core.next → having s ≡ had s) (old : (s : ℕ) → s < w.core.next → holding s ≡ held s)
        (newly : (h n : ℕ) (age : Age) (s : ℕ) (c : C) (core : State C) → e ≡ Applies (Enqueue h n age c) (Queued s) core → having s ≡ Some c)
        (fresh : (h n : ℕ) (age : Age) (s : ℕ) (c : C) (core : State C) → e ≡ Applies (Enqueue h n age c) (Queued s) core → (d : C) → holding s ≡ Some d → d ≡ c)
        (found : (s : ℕ) (c : C) → holding s ≡ Some c → (s < w.core.next) ⊎ IsIn (s, c) (line_in key_of hash_of rules v new_back (flusher_of rules (hash_of (key_of c))))) where
      older : (f : ℕ) → Each (IsInOrder key_of hash_of rules v having holding f) (line_in key_of hash_of rules w back f)
      older f = each_weaker (IsInOrder key_of hash_of rules w had held f) (IsInOrder key_of hash_of rules v having holding f) (line_in key_of hash_of rules w back f)
          (λ p o. record {
            drawn = let lt : p.0 < w.core.next = o.drawn in let up : w.core.next ≤ v.core.next = grown in omega arith;
            was = kept p.0 o.drawn ∙ o.was;
            agrees = λ c is. o.agrees c (sym (old p.0 o.drawn) ∙ is);
            at = o.at;
          }) (lines.each f)

      still : (f : ℕ) → InLine (PieceIsPast key_of hash_of rules v) (line_in key_of hash_of rules w back f)
      still f = line_more (PieceIsPast key_of hash_of rules w) (PieceIsPast key_of hash_of rules v) (line_in key_of hash_of rules w back f) past_then (lines.in_line f)

      overtaking : (f : ℕ) (o : Overtakes w v.history f (line_in key_of hash_of rules w back f) (line_in key_of hash_of rules v new_back f)) → PieceIsPast key_of hash_of rules v (o.sequence, o.content)
      overtaking f o =
          let hash : o.hash ≡ hash_of (key_of o.content) = (subst (Each (SubmissionKnown (has_hash key_of hash_of rules))) o.front (hashes f).pieces).0 in
          let mine : IsInOrder key_of hash_of rules v having holding f (o.sequence, o.content) = each_in (IsInOrder key_of hash_of rules v having holding f) (o.sequence, o.content) (o.base ++ (o.over ++ (o.sequence, o.content) ∷ o.behind))
          (subst (Each (IsInOrder key_of hash_of rules v having holding f)) o.was (older f)) (in_back (o.sequence, o.content) o.base _ (in_back (o.sequence, o.content) o.over _ (inl refl))) in
          record { drawn = mine.drawn; above = inl (subst (λ k. o.sequence ≤ sequence_in (newest k v.history)) hash o.past) }

      pushing : (f : ℕ) (p : IsPushed rules e f (line_in key_of hash_of rules w back f) (line_in key_of hash_of rules v new_back f)) → (p.sequence ≡ w.core.next) × IsInOrder key_of hash_of rules v having holding f (p.sequence, p.content)
      pushing f p = (
        drawn.0,
        record {
          drawn = subst (λ k. p.sequence < (after rules w k).core.next) (sym p.event) (let one : (p.core).next ≡ p.sequence + 1 = drawn.1 in omega arith);
          was = newly p.hash p.size p.age p.sequence p.content p.core p.event;
          agrees = fresh p.hash p.size p.age p.sequence p.content p.core p.event;
          at = ap (flusher_of rules) (sym hash) ∙ p.at;
        },
      )
        where
          drawn : (p.sequence ≡ w.core.next) × ((p.core).next ≡ p.sequence + 1)
          drawn = pushed_draws w p.hash p.size p.age p.content p.sequence p.core (subst (MayHappen rules Splits is_value w) p.event ok)

          hash : p.hash ≡ hash_of (key_of p.content)
          hash = subst (CarriesHash key_of hash_of) p.event carries

      lines_then : LinesOk key_of hash_of rules v having holding new_back
      lines_then = record {
        in_line = λ f. elim (goes f) [
          | inl is ↦ subst (InLine (PieceIsPast key_of hash_of rules v)) (sym is) (still f)
          | inr (inl o) ↦ subst (InLine (PieceIsPast key_of hash_of rules v)) (sym o.is)
              (line_moved (PieceIsPast key_of hash_of rules v) o.base o.over o.behind (o.sequence, o.content) (subst (InLine (PieceIsPast key_of hash_of rules v)) o.was (still f)) (overtaking f o))
          | inr (inr p) ↦ subst (InLine (PieceIsPast key_of hash_of rules v)) (sym p.is)
              (line_pushed (PieceIsPast key_of hash_of rules v) (line_in key_of hash_of rules w back f) (p.sequence, p.content) (still f)
              (each_weaker (IsInOrder key_of hash_of rules w had held f) (λ r. r.0 < p.sequence) (line_in key_of hash_of rules w back f)
              (λ r o. let lt : r.0 < w.core.next = o.drawn in let e : p.sequence ≡ w.core.next = (pushing f p).0 in omega arith) (lines.each f)))
        ];
        each = λ f. elim (goes f) [
          | inl is ↦ subst (Each (IsInOrder key_of hash_of rules v having holding f)) (sym is) (older f)
          | inr (inl o) ↦ subst (Each (IsInOrder key_of hash_of rules v having holding f)) (sym o.is)
              (each_moved (IsInOrder key_of hash_of rules v having holding f) o.base o.over o.behind (o.sequence, o.content) (subst (Each (IsInOrder key_of hash_of rules v having holding f)) o.was (older f)))
          | inr (inr p) ↦ subst (Each (IsInOrder key_of hash_of rules v having holding f)) (sym p.is)
              (each_join (IsInOrder key_of hash_of rules v having holding f) (line_in key_of hash_of rules w back f) ((p.sequence, p.content) ∷ []) (older f) ((pushing f p).1, tt))
        ];
        lies = λ s c is. elim (found s c is) [
          | inl lt ↦ moved (s, c) (flusher_of rules (hash_of (key_of c))) (lines.lies s c (sym (old s lt) ∙ is))
          | inr here ↦ here
        ];
      }
        where
          moved : (x : ℕ × C) (f : ℕ) → IsIn x (line_in key_of hash_of rules w back f) → IsIn x (line_in key_of hash_of rules v new_back f)
          moved x f there =
              elim (goes f) [
                | inl is ↦ subst (IsIn x) (sym is) there
                | inr (inl o) ↦ subst (IsIn x) (sym o.is) (in_moved x o.base o.over o.behind (o.sequence, o.content) (subst (IsIn x) o.was there))
                | inr (inr p) ↦ subst (IsIn x) (sym p.is) (in_front x (line_in key_of hash_of rules w back f) ((p.sequence, p.content) ∷ []) there)
              ]

  -- an event that queues no piece

  map_goes : (w v : World C) (held : ℕ → Option C) (numbers : ℕ → ℕ) (k : Key) (o : Option (Kept C)) → ((u : ℕ) → IsPast w (hash_of k) u → IsPast v (hash_of k) u)
      → MapOk key_of hash_of rules w held numbers k o → MapOk key_of hash_of rules v held numbers k o
  map_goes w v held numbers k None past ok = λ s c is key. ((ok s c is key).0, (ok s c is key).1, past (ok s c is key).0 (ok s c is key).2)
  map_goes w v held numbers k (Some e) past ok = ok

  drawn_of : (σ : Store C Key) → IsSoundStore σ → (s : ℕ) (c : C) → σ.held s ≡ Some c → IsInOrder key_of hash_of rules σ.world σ.queued σ.held (flusher_of rules (hash_of (key_of c))) (s, c)
  drawn_of σ sound s c is =
      let f : ℕ = flusher_of rules (hash_of (key_of c)) in
      each_in (IsInOrder key_of hash_of rules σ.world σ.queued σ.held f) (s, c) (line_in key_of hash_of rules σ.world σ.back f) (sound.lines.each f) (sound.lines.lies s c is)

  other_event : (σ : Store C Key) (e : WorldEvent C) → queued_by e ≡ None → MayHappen rules Splits is_value σ.world e → CarriesHash key_of hash_of e → IsSoundStore σ
      → IsSoundStore (record σ { world = after rules σ.world e; back = back_after σ.world e σ.back })
  other_event σ e none ok carries sound = record {
    known = known_keeps rules Splits is_value demands σ.world e ok sound.known;
    hashes = known_stays rules Splits is_value demands (has_hash key_of hash_of rules) σ.world e ok sound.known (carries_known σ.world e carries) sound.hashes;
    lines = lines_then σ.world σ.queued σ.held σ.back e ok carries sound.known sound.hashes sound.lines σ.queued σ.held (λ s _. refl) (λ s _. refl)
        (λ h n age s c core is. absurd (let f : Some (s, c) ≡ None = sym (ap queued_by is) ∙ none in cc))
        (λ h n age s c core is d at. absurd (let f : Some (s, c) ≡ None = sym (ap queued_by is) ∙ none in cc))
        (λ s c is. inl (drawn_of σ sound s c is).drawn);
    own = sound.own;
    map = λ k. map_goes σ.world (after rules σ.world e) σ.held σ.numbers k (σ.map k) (λ u past. past_stays rules Splits is_value demands (hash_of k) u σ.world e ok sound.known past) (sound.map k);
  }

  -- a piece is queued and put into the map
  module _ (σ : Store C Key) (h n : ℕ) (age : Age) (c : C) (s : ℕ) (new : State C) (number : ℕ) (ok : MayHappen rules Splits is_value σ.world (Applies (Enqueue h n age c) (Queued s) new))
      (carries : h ≡ hash_of (key_of c)) (numbered : IsNumbered key_of σ.queued σ.numbers number (Some (s, c))) (sound : IsSoundStore σ) where
    abbrev e : WorldEvent C
    e = Applies (Enqueue h n age c) (Queued s) new

    abbrev queued_then : ℕ → Option C
    queued_then = put σ.queued s (Some c)

    abbrev held_then : ℕ → Option C
    held_then = put σ.held s (Some c)

    next_is : s ≡ σ.world.core.next
    next_is = (pushed_draws σ.world h n age c s new ok).0

    drawn_other : (r : ℕ) (d : C) → σ.held r ≡ Some d → r ≡ s → ⊥
    drawn_other r d is at = let lt : r < σ.world.core.next = (drawn_of σ sound r d is).drawn in let eq : s ≡ σ.world.core.next = next_is in absurd (omega arith)

    -- what is held was held before, or is the new piece
    was_held : (r : ℕ) (d : C) → held_then r ≡ Some d → ((r ≡ s) × (d ≡ c)) ⊎ ((r ≡ s → ⊥) × (σ.held r ≡ Some d))
    was_held r d is = go (r == s) refl is
      where
        go : (t : Bool) → (r == s) ≡ t → (if t then Some c else σ.held r) ≡ Some d → ((r ≡ s) × (d ≡ c)) ⊎ ((r ≡ s → ⊥) × (σ.held r ≡ Some d))
        go true at given = inl (eqb-true r s at, (let f : Some c ≡ Some d = given in cc))
        go false ne given = inr (eqb-false r s ne, given)

    numbers_then : ℕ → ℕ
    numbers_then = put σ.numbers s number

    queued_sound : IsSoundStore (store_after same key_of rules σ (Happens e number))
    queued_sound = record {
      known = known_keeps rules Splits is_value demands σ.world e ok sound.known;
      hashes = known_stays rules Splits is_value demands (has_hash key_of hash_of rules) σ.world e ok sound.known carries sound.hashes;
      lines = lines_then σ.world σ.queued σ.held σ.back e ok carries sound.known sound.hashes sound.lines queued_then held_then
          (λ r lt. put_other σ.queued s (Some c) r (λ at. let eq : s ≡ σ.world.core.next = next_is in absurd (omega arith)))
          (λ r lt. put_other σ.held s (Some c) r (λ at. let eq : s ≡ σ.world.core.next = next_is in absurd (omega arith)))
          (λ k m a r d core is.
          let f : Some (s, c) ≡ Some (r, d) = ap queued_by is in
          let fr : s ≡ r = ap (λ o. sequence_at o s) f in
          let fd : c ≡ d = ap (λ o. content_at o c) f in
          subst (λ q. put σ.queued s (Some c) q ≡ Some d) fr (put_same σ.queued s (Some c) ∙ ap (λ x. Some x) fd))
          (λ k m a r d core is x at.
          let f : Some (s, c) ≡ Some (r, d) = ap queued_by is in
          let fr : s ≡ r = ap (λ o. sequence_at o s) f in
          let fd : c ≡ d = ap (λ o. content_at o c) f in
          elim (was_held r x at) [ inl both ↦ both.1 ∙ fd | inr old ↦ absurd (old.0 (sym fr)) ])
          (λ r d is. elim (was_held r d is) [
            | inl both ↦ inr (subst (λ p. IsIn p (line_in key_of hash_of rules (after rules σ.world e) σ.back (flusher_of rules (hash_of (key_of p.1))))) (λ i. (sym both.0 i, sym both.1 i)) here)
            | inr old ↦ inl (drawn_of σ sound r d old.1).drawn
          ]);
      own = own_then;
      map = λ k. key_at same equal (MapOk key_of hash_of rules (after rules σ.world e) held_then (put σ.numbers s number) k) σ.map (key_of c) (Some (record { number = number; piece = c })) k
          (λ at. (
            s,
            put_same σ.held s (Some c),
            put_same σ.numbers s number,
            numbered.0,
            sym at,
            λ r d is key. elim (was_held r d is) [ inl both ↦ (let eq : r ≡ s = both.0 in omega arith) | inr old ↦ (let lt : r < σ.world.core.next = (drawn_of σ sound r d old.1).drawn in let eq : s ≡ σ.world.core.next = next_is in omega arith) ],
          ))
          (λ ne. other_key k ne (σ.map k) (sound.map k));
    }
      where
        sequence_at : Option (ℕ × C) → ℕ → ℕ
        sequence_at None r = r
        sequence_at (Some p) r = p.0

        content_at : Option (ℕ × C) → C → C
        content_at None d = d
        content_at (Some p) d = p.1

        here : IsIn (s, c) (line_in key_of hash_of rules (after rules σ.world e) σ.back (flusher_of rules (hash_of (key_of c))))
        here =
            let f : ℕ = flusher_of rules (hash_of (key_of c)) in
            subst (IsIn (s, c)) (sym (queued_line rules Splits σ.world σ.back f is_value h n age c s new ok (ap (flusher_of rules) carries)))
            (in_back (s, c) (line_in key_of hash_of rules σ.world σ.back f) ((s, c) ∷ []) (inl refl))

        own_then : (a b : ℕ) (x d : C) → queued_then a ≡ Some x → queued_then b ≡ Some d → key_of x ≡ key_of d → put σ.numbers s number a ≡ put σ.numbers s number b → a ≡ b
        own_then a b x d = go (a == s) (b == s) refl refl
          where
            go : (p q : Bool) → (a == s) ≡ p → (b == s) ≡ q → (if p then Some c else σ.queued a) ≡ Some x → (if q then Some c else σ.queued b) ≡ Some d → key_of x ≡ key_of d
                → (if p then number else σ.numbers a) ≡ (if q then number else σ.numbers b) → a ≡ b
            go true true at_a at_b is_x is_d key eq = eqb-true a s at_a ∙ sym (eqb-true b s at_b)
            go true false at_a at_b is_x is_d key eq = absurd (numbered.1 b d is_d (sym key ∙ ap key_of (let f : Some c ≡ Some x = is_x in let g : x ≡ c = cc in g)) (sym eq))
            go false true at_a at_b is_x is_d key eq = absurd (numbered.1 a x is_x (key ∙ ap key_of (let f : Some c ≡ Some d = is_d in let g : d ≡ c = cc in g)) eq)
            go false false at_a at_b is_x is_d key eq = sound.own a b x d is_x is_d key eq

        other_key : (k : Key) → (k ≡ key_of c → ⊥) → (o : Option (Kept C)) → MapOk key_of hash_of rules σ.world σ.held σ.numbers k o → MapOk key_of hash_of rules (after rules σ.world e) held_then (put σ.numbers s number) k o
        other_key k ne None map = λ r d is key. elim (was_held r d is) [
          | inl both ↦ absurd (ne (sym key ∙ ap key_of both.1))
          | inr old ↦ ((map r d old.1 key).0, (map r d old.1 key).1, past_stays rules Splits is_value demands (hash_of k) (map r d old.1 key).0 σ.world e ok sound.known (map r d old.1 key).2)
        ]
        other_key k ne (Some kept) (top, held, own, some, key, most) = (
          top,
          put_other σ.held s (Some c) top (drawn_other top kept.piece held) ∙ held,
          put_other σ.numbers s number top (drawn_other top kept.piece held) ∙ own,
          some,
          key,
          λ r d is at. elim (was_held r d is) [ inl both ↦ absurd (ne (sym at ∙ ap key_of both.1)) | inr old ↦ most r d old.1 at ],
        )

  -- the release of the piece that a flusher gave back first
  module _ (σ : Store C Key) (f : ℕ) (p : ℕ × C) (ps : List (ℕ × C)) (first : σ.back f ≡ p ∷ ps) (sound : IsSoundStore σ) where
    abbrev held_less : ℕ → Option C
    held_less = put σ.held p.0 None

    abbrev back_less : ℕ → List (ℕ × C)
    back_less = put σ.back f ps

    line_is : line_in key_of hash_of rules σ.world σ.back f ≡ p ∷ (ps ++ flight (σ.world.core.flushers f))
    line_is = ap (λ l. l ++ flight (σ.world.core.flushers f)) first

    still_held : (r : ℕ) (d : C) → held_less r ≡ Some d → (r ≡ p.0 → ⊥) × (σ.held r ≡ Some d)
    still_held r d is = go (r == p.0) refl is
      where
        go : (t : Bool) → (r == p.0) ≡ t → (if t then None else σ.held r) ≡ Some d → (r ≡ p.0 → ⊥) × (σ.held r ≡ Some d)
        go true at given = absurd (let g : None ≡ Some d = given in cc)
        go false ne given = (eqb-false r p.0 ne, given)

    -- of a property of lines that a shorter line has too
    shorter : (P : ℕ → List (ℕ × C) → Type 0) → (P f (p ∷ (ps ++ flight (σ.world.core.flushers f))) → P f (ps ++ flight (σ.world.core.flushers f)))
        → ((q : ℕ) → P q (line_in key_of hash_of rules σ.world σ.back q)) → (q : ℕ) → P q (line_in key_of hash_of rules σ.world back_less q)
    shorter P less all q = put_at (λ b. P q (b ++ flight (σ.world.core.flushers q))) σ.back f ps q
        (λ at. subst (λ k. P k (ps ++ flight (σ.world.core.flushers k))) (sym at) (less (subst (P f) line_is (all f))))
        (λ ne. all q)

    agreed : (d : C) → σ.held p.0 ≡ Some d → d ≡ p.1
    agreed d is = (subst (Each (IsInOrder key_of hash_of rules σ.world σ.queued σ.held f)) line_is (sound.lines.each f)).0.agrees d is

    mine : (d : C) (r : ℕ) → σ.held r ≡ Some d → (r ≡ p.0 → ⊥) → key_of d ≡ key_of p.1 → IsIn (r, d) (ps ++ flight (σ.world.core.flushers f))
    mine d r is ne key =
        let at : flusher_of rules (hash_of (key_of p.1)) ≡ f = (subst (Each (IsInOrder key_of hash_of rules σ.world σ.queued σ.held f)) line_is (sound.lines.each f)).0.at in
        let there : IsIn (r, d) (p ∷ (ps ++ flight (σ.world.core.flushers f))) =
        subst (IsIn (r, d)) line_is (subst (λ k. IsIn (r, d) (line_in key_of hash_of rules σ.world σ.back k)) (ap (λ k. flusher_of rules (hash_of k)) key ∙ at) (sound.lines.lies r d is)) in
        elim there [ inl same ↦ absurd (ne (ap (λ q. q.0) same)) | inr later ↦ later ]

    less_lines : LinesOk key_of hash_of rules σ.world σ.queued held_less back_less
    less_lines = record {
      in_line = shorter (λ q l. InLine (PieceIsPast key_of hash_of rules σ.world) l) (λ l. l.1) sound.lines.in_line;
      each = shorter (λ q l. Each (IsInOrder key_of hash_of rules σ.world σ.queued held_less q) l) (λ l. l.1)
          (λ q. each_weaker (IsInOrder key_of hash_of rules σ.world σ.queued σ.held q) (IsInOrder key_of hash_of rules σ.world σ.queued held_less q) (line_in key_of hash_of rules σ.world σ.back q)
          (λ r o. record { drawn = o.drawn; was = o.was; agrees = λ d is. o.agrees d (still_held r.0 d is).1; at = o.at }) (sound.lines.each q));
      lies = λ r d is. shorter (λ q l. q ≡ flusher_of rules (hash_of (key_of d)) → IsIn (r, d) l) (λ there at. elim (there at) [ inl same ↦ absurd ((still_held r d is).0 (ap (λ q. q.0) same)) | inr later ↦ later ])
          (λ q at. subst (λ k. IsIn (r, d) (line_in key_of hash_of rules σ.world σ.back k)) (sym at) (sound.lines.lies r d (still_held r d is).1))
          (flusher_of rules (hash_of (key_of d))) refl;
    }

    -- a key whose greatest piece isn't the released one
    keeps_key : (k : Key) (o : Option (Kept C)) → ((top : ℕ) (d : C) → σ.held top ≡ Some d → key_of d ≡ k → MapOk key_of hash_of rules σ.world σ.held σ.numbers k o → top ≡ p.0 → ⊥)
        → MapOk key_of hash_of rules σ.world σ.held σ.numbers k o → MapOk key_of hash_of rules σ.world held_less σ.numbers k o
    keeps_key k None apart map = λ r d is key. map r d (still_held r d is).1 key
    keeps_key k (Some kept) apart (top, held, own, some, key, most) = (
      top,
      put_other σ.held p.0 None top (apart top kept.piece held key (top, held, own, some, key, most)) ∙ held,
      own,
      some,
      key,
      λ r d is at. most r d (still_held r d is).1 at,
    )

    other_released : (k : Key) → (k ≡ key_of p.1 → ⊥) → (o : Option (Kept C)) → MapOk key_of hash_of rules σ.world σ.held σ.numbers k o → MapOk key_of hash_of rules σ.world held_less σ.numbers k o
    other_released k ne o map = keeps_key k o (λ top d is key _ at. ne (sym key ∙ ap key_of (agreed d (subst (λ r. σ.held r ≡ Some d) at is)))) map

    its_released : (o : Option (Kept C)) → MapOk key_of hash_of rules σ.world σ.held σ.numbers (key_of p.1) o → MapOk key_of hash_of rules σ.world held_less σ.numbers (key_of p.1) (without_number (σ.numbers p.0) o)
    its_released None map = λ r d is key. map r d (still_held r d is).1 key
    its_released (Some kept) map = go (kept.number == σ.numbers p.0) refl
      where
        go : (t : Bool) → (kept.number == σ.numbers p.0) ≡ t → MapOk key_of hash_of rules σ.world held_less σ.numbers (key_of p.1) (if t then None else Some kept)
        go false ne = (
          map.0,
          put_other σ.held p.0 None map.0 (λ at. eqb-false kept.number (σ.numbers p.0) ne (sym map.2 ∙ ap σ.numbers at)) ∙ map.1,
          map.2,
          map.3,
          map.4,
          λ r d is at. map.5 r d (still_held r d is).1 at,
        )
        go true is = λ r d held key.
            let same : map.0 ≡ p.0 = sound.own map.0 p.0 kept.piece p.1 (drawn_of σ sound map.0 kept.piece map.1).was (subst (Each (IsInOrder key_of hash_of rules σ.world σ.queued σ.held f)) line_is (sound.lines.each f)).0.was map.4
            (map.2 ∙ eqb-true kept.number (σ.numbers p.0) is) in
            let le : r ≤ map.0 = map.5 r d (still_held r d held).1 key in
            let ne : r ≡ p.0 → ⊥ = (still_held r d held).0 in
            let lt : r < p.0 = grind (arith, ne, le, same) in
            elim (subst (InLine (PieceIsPast key_of hash_of rules σ.world)) line_is (sound.lines.in_line f)).0 [
              | inl past ↦ (p.0, lt, past)
              | inr older ↦ absurd (let up : p.0 < r = each_in (λ q. p.0 < q.0) (r, d) (ps ++ flight (σ.world.core.flushers f)) older (mine d r (still_held r d held).1 ne key) in omega arith)
            ]

    released_sound : IsSoundStore (first_released same key_of f (p ∷ ps) σ)
    released_sound = record {
      known = sound.known;
      hashes = sound.hashes;
      lines = less_lines;
      own = sound.own;
      map = λ k. key_at same equal (MapOk key_of hash_of rules σ.world held_less σ.numbers k) σ.map (key_of p.1) (without_number (σ.numbers p.0) (σ.map (key_of p.1))) k
          (λ at. subst (λ q. MapOk key_of hash_of rules σ.world held_less σ.numbers q (without_number (σ.numbers p.0) (σ.map (key_of p.1)))) (sym at) (its_released (σ.map (key_of p.1)) (sound.map (key_of p.1))))
          (λ ne. other_released k ne (σ.map k) (sound.map k));
    }

  releases_sound : (σ : Store C Key) (f : ℕ) (line : List (ℕ × C)) → σ.back f ≡ line → IsSoundStore σ → IsSoundStore (first_released same key_of f line σ)
  releases_sound σ f [] is sound = sound
  releases_sound σ f (p ∷ ps) is sound = released_sound σ f p ps is sound

  happens_sound : (σ : Store C Key) (e : WorldEvent C) (number : ℕ) → MayHappen rules Splits is_value σ.world e → CarriesHash key_of hash_of e → IsNumbered key_of σ.queued σ.numbers number (queued_by e)
      → IsSoundStore σ → IsSoundStore (store_after same key_of rules σ (Happens e number))
  happens_sound σ (Applies (Enqueue h n age c) (Queued s) new) number ok carries numbered sound = queued_sound σ h n age c s new number ok carries numbered sound
  happens_sound σ e number ok carries numbered sound = other_event σ e refl ok carries sound

  pub event_sound : (σ : Store C Key) (e : StoreEvent C) → MayHappenIn same key_of hash_of rules Splits is_value σ e → IsSoundStore σ → IsSoundStore (store_after same key_of rules σ e)
  event_sound σ (Happens e number) ok sound = happens_sound σ e number ok.0 ok.1 ok.2 sound
  event_sound σ (Releases f) ok sound = releases_sound σ f (σ.back f) refl sound
