-- What the core's lock keeps of queued pieces goes on with the history.
use Rattle.std.proofs.Common.{◌≡◌, inl, inr, ℕ, suc, ◌+◌, ◌%◌, ◌<◌, ◌≤◌, if◌then◌else◌, true, false, true≢false, List, [], ◌∷◌, ◌++◌, length, Option, Some, None, IfSome, is_some, refl, sym, ap, ◌∙◌, subst, slice_index, append_assoc, append-nil, arith}
use Rattle.std.proofs.lemmas.Bool.{eq-eqb}
use Rattle.foyer_core_chronicle.specs.declared.View.{View}
use Rattle.foyer_core_laws.specs.Content.{Meaning}
use Rattle.foyer_core_laws.specs.Settings.{Settings}
use Rattle.foyer_core_steps.specs.StateOf.{IsStateOf}
use Rattle.foyer_core_steps.specs.declared.state.Core.{Core}
use Rattle.foyer_core_steps.specs.declared.reply.Reply.{Reply}
use Rattle.foyer_core_steps.specs.declared.reply.Reply.TheVariants as replies
use Rattle.foyer_core_steps.specs.declared.step.Step.{Step}
use Rattle.foyer_core_told.specs.declared.event.Told.{Told}
use Rattle.foyer_core_told.specs.declared.event.Told.TheVariants as told
use Rattle.foyer_core_told.specs.declared.queued.Moving.{Moving}
use Rattle.foyer_core_told.specs.declared.queued.Moving.TheVariants as moving
use Rattle.foyer_core_told.specs.ToldLoads.{tickets_in}
use Rattle.foyer_core_told.specs.ToldSteps.{AreAccesses, IsOpeningOf}
use Rattle.foyer_core_told.specs.ToldQueued.{AreUpTo, HasLeft, IsAllWritten, IsEnding, IsQueuing, is_ended, moving_of, passed_by, passed_in, queued_by, queued_in, returned_by, returned_in}
use Rattle.foyer_core_told.specs.Telling.{HasAdded, HasStepped, IsEventOf, StandsAt}
use Rattle.foyer_core_told.proofs.QueuedLemmas.{append_split, more_passed, more_queued, more_returned, none_passed, none_queued, none_queuing, none_returned, passed_one, queued_one, returned_one}
use Rattle.foyer_core_told.proofs.ToldStepLemmas.{leads_split, same_core}
use Rattle.foyer_core_told.proofs.WrittenLemmas.{left_is_written_lem}
use Rattle.foyer_core_threads.specs.Queued.{AreNone, AreNoted, AreOf, EndsBatch, HasNoted, HasSeenLeave, Noted, class_of}

none_added : (n : ℕ) → n ≡ n + 0
none_added n = omega arith

abbrev tail : {X : Type 0} → List X → List X
tail [] = []
tail (x ∷ xs) = xs

abbrev head_or : {X : Type 0} → X → List X → X
head_or d [] = d
head_or d (x ∷ xs) = x

abbrev but_last : {X : Type 0} → List X → List X
but_last [] = []
but_last (x ∷ []) = []
but_last (x ∷ (y ∷ ys)) = x ∷ but_last (y ∷ ys)

snoc_last : {X : Type 0} (xs : List X) (x : X) → but_last (xs ++ x ∷ []) ≡ xs
snoc_last [] x = refl
snoc_last (y ∷ []) x = refl
snoc_last (y ∷ (z ∷ zs)) x = ap (λ l. y ∷ l) (snoc_last (z ∷ zs) x)

-- what lies before the last member
pub before_last : {X : Type 0} (xs ys : List X) (x y : X) → xs ++ x ∷ [] ≡ ys ++ y ∷ [] → xs ≡ ys
before_last xs ys x y same = sym (snoc_last xs x) ∙ ap but_last same ∙ snoc_last ys y

nothing_behind : {X : Type 0} (xs ys : List X) (x : X) → [] ≡ xs ++ x ∷ ys → ⊥
nothing_behind [] ys x same = cc
nothing_behind (z ∷ xs) ys x same = cc

-- a list of one member is split at that member
only_one : {X : Type 0} (e x : X) (mid since : List X) → e ∷ [] ≡ mid ++ x ∷ since → (mid ≡ []) × (e ≡ x)
only_one e x [] since same = (refl, ap (head_or e) same)
only_one e x (z ∷ mid) since same = absurd (nothing_behind mid since x (ap tail same))

-- what is said of whatever an option has, if it has something
pub some_left : {X : Type 0} (o : Option X) (P : Type 0) → is_some o ≡ true → IfSome o (λ x. P) → P
some_left None P is holds = absurd (true≢false (sym is))
some_left (Some x) P is holds = holds

module _ {K V P A : Type 0} where
  -- a step that moves nothing, by what it is or by its reply
  pub noted_none : (old : Noted) (done : Moving) (answer : Reply K V P A) → ((F f : ℕ) → queued_by F f done answer ≡ 0) → ((f : ℕ) → returned_by f done answer ≡ 0) → ((f n : ℕ) → passed_by f done answer n ≡ n)
      → ((hash sequence : ℕ) → done ≡ moving.Queues hash → answer ≡ replies.Queued sequence → ⊥) → ((f : ℕ) → EndsBatch f done answer → ⊥) → HasNoted done answer old old
  noted_none old done answer queued returned passed never endless = record {
    kept = λ ok. ok;
    keeps = λ ok can. ok;
    flushers = refl;
    queued = λ ok f below. none_added (slice_index old.queued f) ∙ ap (λ n. slice_index old.queued f + n) (sym (queued (length old.queued) f));
    returned = λ ok f. none_added (slice_index old.returned f) ∙ ap (λ n. slice_index old.returned f + n) (sym (returned f));
    passed = λ ok f. sym (passed f (slice_index old.passed f));
    left = λ ok f. inl refl;
    reached = λ ok f ends. absurd (endless f ends);
    classes = refl;
    last = λ ok r. omega arith;
    placed = λ ok hash sequence is_hash is_queued. absurd (never hash sequence is_hash is_queued);
  }

module _ {K V P A : Type 0} where
  ends_of : (f : ℕ) (done : Moving) (answer : Reply K V P A) → EndsBatch f done answer → (done ≡ moving.Ends f) × (is_ended answer ≡ true)
  ends_of f (moving.Ends g) (replies.Ended pieces waits) is = (ap (λ n. moving.Ends n) is, refl)
  ends_of f done answer is = absurd is

  one_queued : (F hash sequence : ℕ) (done : Moving) (answer : Reply K V P A) → done ≡ moving.Queues hash → answer ≡ replies.Queued sequence → queued_by F (hash % F) done answer ≡ 1
  one_queued F hash sequence done answer is_hash is_queued =
      ap (λ (x : Moving × Reply K V P A). queued_by F (hash % F) x.0 x.1) (λ i. (is_hash i, is_queued i)) ∙ ap (λ b. if b then 1 else 0) (eq-eqb (hash % F) (hash % F) refl)

module _ {K V P A D : Type 0} where
  left_more : (f place : ℕ) (seen since : List (Told K V P A D)) → HasLeft f place seen → HasLeft f place (seen ++ since)
  left_more f place seen since left = record {
    before = left.before;
    event = left.event;
    since = left.since ++ since;
    split = ap (λ l. l ++ since) left.split ∙ append_assoc (left.before ++ left.event ∷ []) left.since since;
    ends = left.ends;
    enough = left.enough;
  }

  left_less : (f place less : ℕ) (log : List (Told K V P A D)) → less ≤ place → HasLeft f place log → HasLeft f less log
  left_less f place less log below left = record {
    before = left.before;
    event = left.event;
    since = left.since;
    split = left.split;
    ends = left.ends;
    enough = let more : place + passed_in f (left.before ++ left.event ∷ []) 0 ≤ returned_in f (left.before ++ left.event ∷ []) = left.enough in omega arith;
  }

  -- by accesses
  still : (noted : Noted) (seen since : List (Told K V P A D)) → AreOf noted seen → AreAccesses since → AreOf noted (seen ++ since)
  still noted seen since are all = record {
    queued = λ f below.
        let had : slice_index noted.queued f ≡ queued_in (length noted.queued) f seen = are.queued f below in
        let more : queued_in (length noted.queued) f (seen ++ since) ≡ queued_in (length noted.queued) f seen + queued_in (length noted.queued) f since = more_queued (length noted.queued) f seen since in
        let none : queued_in (length noted.queued) f since ≡ 0 = none_queued (length noted.queued) f since all in
        omega arith;
    returned = λ f.
        let had : slice_index noted.returned f ≡ returned_in f seen = are.returned f in
        let more : returned_in f (seen ++ since) ≡ returned_in f seen + returned_in f since = more_returned f seen since in
        let none : returned_in f since ≡ 0 = none_returned f since all in
        omega arith;
    passed = λ f. are.passed f ∙ sym (none_passed f since (passed_in f seen 0) all) ∙ sym (more_passed f seen since 0);
    up_to = λ hash before behind e sequence same queuing.
        elim (append_split seen since before behind e same) [
          | inl (mid, is, rest) ↦ are.up_to hash before mid e sequence is queuing
          | inr (mid, is, rest) ↦ absurd (none_queuing mid behind e hash sequence (subst AreAccesses rest all) queuing)
        ];
    left = λ f. elim (are.left f) [ inl none ↦ inl none | inr left ↦ inr (left_more f (slice_index noted.left f) seen since left) ];
  }

  pub noted_still : (noted : Noted) (seen since log : List (Told K V P A D)) → AreNoted noted seen → AreAccesses since → log ≡ seen ++ since → AreNoted noted log
  noted_still noted seen since log are all is ok = subst (AreOf noted) (sym is) (still noted seen since (are ok) all)

  ending_as : (f : ℕ) (e : Told K V P A D) (step : Step K V P A) (answer : Reply K V P A) (new : Core K V P A) → IsEventOf step answer new e → EndsBatch f (moving_of step) answer → IsEnding f e
  ending_as f (told.Steps made gave left) step answer new is ends =
      let of : (moving_of step ≡ moving.Ends f) × (is_ended answer ≡ true) = ends_of f (moving_of step) answer ends in
      (ap (λ (x : Step K V P A). moving_of x) is.0 ∙ of.0, ap is_ended is.1 ∙ of.1)
  ending_as f e step answer new is ends = absurd is

  queuing_as : (hash sequence : ℕ) (e : Told K V P A D) (step : Step K V P A) (answer : Reply K V P A) (new : Core K V P A) → IsEventOf step answer new e → IsQueuing hash sequence e
      → (moving_of step ≡ moving.Queues hash) × (answer ≡ replies.Queued sequence)
  queuing_as hash sequence (told.Steps made gave left) step answer new is queuing = (ap (λ (x : Step K V P A). moving_of x) (sym is.0) ∙ queuing.0, sym is.1 ∙ queuing.1)
  queuing_as hash sequence e step answer new is queuing = absurd is

  -- by a step that is noted, with its reply
  step_on : (old new : Noted) (log : List (Told K V P A D)) (e : Told K V P A D) (step : Step K V P A) (answer : Reply K V P A) (core : Core K V P A) → AreOf old log → IsEventOf step answer core e
      → HasNoted (moving_of step) answer old new → new.is_lost ≡ false → AreOf new (log ++ e ∷ [])
  step_on old new log e step answer core are is noted ok =
      let F = length old.queued in
      let same_class : (hash : ℕ) → class_of new hash ≡ class_of old hash = (λ hash. ap (λ n. hash % n) noted.classes) in
      let returned_new : (f : ℕ) → slice_index new.returned f ≡ returned_in f (log ++ e ∷ []) = (λ f.
      let had : slice_index old.returned f ≡ returned_in f log = are.returned f in
      let now : slice_index new.returned f ≡ slice_index old.returned f + returned_by f (moving_of step) answer = noted.returned ok f in
      let more : returned_in f (log ++ e ∷ []) ≡ returned_in f log + returned_in f (e ∷ []) = more_returned f log (e ∷ []) in
      let one : returned_in f (e ∷ []) ≡ returned_by f (moving_of step) answer = returned_one f e step answer core is in
      omega arith) in
      let passed_new : (f : ℕ) → slice_index new.passed f ≡ passed_in f (log ++ e ∷ []) 0 = (λ f.
      noted.passed ok f ∙ ap (passed_by f (moving_of step) answer) (are.passed f) ∙ sym (passed_one f (passed_in f log 0) e step answer core is) ∙ sym (more_passed f log (e ∷ []) 0)) in
      record {
        queued = λ f below.
            let low : f < F = subst (λ n. f < n) noted.flushers below in
            let had : slice_index old.queued f ≡ queued_in F f log = are.queued f low in
            let now : slice_index new.queued f ≡ slice_index old.queued f + queued_by F f (moving_of step) answer = noted.queued ok f low in
            let more : queued_in F f (log ++ e ∷ []) ≡ queued_in F f log + queued_in F f (e ∷ []) = more_queued F f log (e ∷ []) in
            let one : queued_in F f (e ∷ []) ≡ queued_by F f (moving_of step) answer = queued_one F f e step answer core is in
            let all : slice_index new.queued f ≡ queued_in F f (log ++ e ∷ []) = omega arith in
            subst (λ n. slice_index new.queued f ≡ queued_in n f (log ++ e ∷ [])) (sym noted.flushers) all;
        returned = returned_new;
        passed = passed_new;
        up_to = λ hash. subst (λ n. AreUpTo n hash (slice_index new.last (class_of new hash)) (log ++ e ∷ [])) (sym noted.flushers) (λ before behind x sequence same queuing.
            let lifts : slice_index old.last (class_of old hash) ≤ slice_index new.last (class_of new hash) =
            subst (λ r. slice_index old.last (class_of old hash) ≤ slice_index new.last r) (sym (same_class hash)) (noted.last ok (class_of old hash)) in
            elim (append_split log (e ∷ []) before behind x same) [
              | inl (mid, split, rest) ↦ (let low : suc (queued_in F (hash % F) before) ≤ slice_index old.last (class_of old hash) = are.up_to hash before mid x sequence split queuing in omega arith)
              | inr (mid, split, rest) ↦ (
                  let only = only_one e x mid behind rest in
                  let here : before ≡ log = split ∙ ap (λ l. log ++ l) only.0 ∙ append-nil log in
                  let of = queuing_as hash sequence e step answer core is (subst (IsQueuing hash sequence) (sym only.1) queuing) in
                  let put = noted.placed ok hash sequence of.0 of.1 in
                  let low : hash % F < F = put.0 in
                  let top : slice_index new.queued (hash % F) ≤ slice_index new.last (class_of new hash) = put.1 in
                  let had : slice_index old.queued (hash % F) ≡ queued_in F (hash % F) log = are.queued (hash % F) low in
                  let now : slice_index new.queued (hash % F) ≡ slice_index old.queued (hash % F) + queued_by F (hash % F) (moving_of step) answer = noted.queued ok (hash % F) low in
                  let one : queued_by F (hash % F) (moving_of step) answer ≡ 1 = one_queued F hash sequence (moving_of step) answer of.0 of.1 in
                  let before_is : queued_in F (hash % F) before ≡ queued_in F (hash % F) log = ap (queued_in F (hash % F)) here in
                  omega arith
                  )
            ]);
        left = λ f. elim (noted.left ok f) [
          | inl same ↦ elim (are.left f) [ inl none ↦ inl (same ∙ none) | inr left ↦ inr (left_more f (slice_index new.left f) log (e ∷ []) (subst (λ n. HasLeft f n log) (sym same) left)) ]
          | inr (ends, enough) ↦ inr (record {
            before = log;
            event = e;
            since = [];
            split = sym (append-nil (log ++ e ∷ []));
            ends = ending_as f e step answer core is ends;
            enough =
                let p : slice_index new.passed f ≡ passed_in f (log ++ e ∷ []) 0 = passed_new f in
                let r : slice_index new.returned f ≡ returned_in f (log ++ e ∷ []) = returned_new f in
                let q : slice_index new.left f + slice_index new.passed f ≤ slice_index new.returned f = enough in
                omega arith;
          })
        ];
      }

  pub noted_step : (old new : Noted) (own owns : View (Told K V P A D)) (step : Step K V P A) (done : Moving) (answer : Reply K V P A) (core : Core K V P A) → AreNoted old own.seen → HasAdded own owns step answer core
      → done ≡ moving_of step → HasNoted done answer old new → AreNoted new owns.seen
  noted_step old new own owns step done answer core are added is noted ok =
      let before : AreOf old (own.seen ++ added.since) = still old own.seen added.since (are (noted.kept ok)) added.accesses in
      subst (AreOf new) (sym added.seen) (step_on old new (own.seen ++ added.since) added.event step answer core before added.is (subst (λ d. HasNoted d answer old new) is noted) ok)

  -- by the opening
  opening_moves : (e : Told K V P A D) (core : Core K V P A) (disk : D) → IsOpeningOf core disk e
      → ((F f : ℕ) → queued_in F f (e ∷ []) ≡ 0) × ((f : ℕ) → returned_in f (e ∷ []) ≡ 0) × ((f : ℕ) → passed_in f (e ∷ []) 0 ≡ 0) × ((hash sequence : ℕ) → IsQueuing hash sequence e → ⊥) × (tickets_in (e ∷ []) ≡ 0)
  opening_moves (told.Opened opened over) core disk is = ((λ F f. refl), (λ f. refl), (λ f. refl), (λ hash sequence queuing. queuing), refl)
  opening_moves e core disk is = absurd is

  pub opening_fresh : (log : List (Told K V P A D)) (e : Told K V P A D) (core : Core K V P A) (disk : D) → IsOpeningOf core disk e → log ≡ e ∷ [] → tickets_in log ≡ 0
  opening_fresh log e core disk is same = ap tickets_in same ∙ (opening_moves e core disk is).4

  pub noted_first : (noted : Noted) (log : List (Told K V P A D)) (e : Told K V P A D) (core : Core K V P A) (disk : D) → AreNone noted → IsOpeningOf core disk e → log ≡ e ∷ [] → AreNoted noted log
  noted_first noted log e core disk none is same ok =
      let of = opening_moves e core disk is in
      subst (AreOf noted) (sym same) (record {
        queued = λ f below. none.queued f ∙ sym (of.0 (length noted.queued) f);
        returned = λ f. none.returned f ∙ sym (of.1 f);
        passed = λ f. none.passed f ∙ sym (of.2 f);
        up_to = λ hash before behind x sequence split queuing. absurd (of.3 hash sequence (subst (IsQueuing hash sequence) (sym (only_one e x before behind split).1) queuing));
        left = λ f. inl (none.left f);
      })

module _ {K V P A D : Type 0} (m : Meaning K V P) (byte_at : D → ℕ → ℕ → ℕ) where
  -- accesses leave the core as it was
  pub stands_still : (seen since : List (Told K V P A D)) (core : Core K V P A) → StandsAt m byte_at seen core → AreAccesses since → StandsAt m byte_at (seen ++ since) core
  stands_still [] since core stands all = absurd (stands.0 refl)
  stands_still (x ∷ seen) since core stands all = (
    (λ same. cc),
    λ s sound u run.
        let parts = leads_split m s sound byte_at run.0 seen since u run.2 in
        subst (IsStateOf m s core) (sym (same_core m s sound byte_at parts.0 since u all parts.2)) (stands.1 s sound parts.0 (run.0, run.1, parts.1)),
  )

  -- what has left its flusher is written
  pub seen_written : (noted : Noted) (hash : ℕ) (log : List (Told K V P A D)) (core : Core K V P A) → AreNoted noted log → StandsAt m byte_at log core → HasSeenLeave noted core.settings.flushers hash → IsAllWritten m byte_at hash log
  seen_written noted hash log core are stands leave s sound u run =
      let of : AreOf noted log = are leave.kept in
      let state : IsStateOf m s core u.core = stands.1 s sound u run in
      let flushers : length noted.queued ≡ s.flushers = leave.flushers_are ∙ ap (λ (x : Settings). x.flushers) state.sizes in
      let f = hash % s.flushers in
      let place = slice_index noted.last (class_of noted hash) in
      let below : place ≤ slice_index noted.left f = subst (λ n. place ≤ slice_index noted.left (hash % n)) (ap (λ (x : Settings). x.flushers) state.sizes) leave.left in
      left_is_written_lem m s sound byte_at hash log u run (
        place,
        subst (λ n. AreUpTo n hash place log) flushers (of.up_to hash),
        elim (of.left f) [
          | inl none ↦ inl (omega (arith, below, none))
          | inr left ↦ inr (left_less f (slice_index noted.left f) place log below left)
        ],
      )

  -- what had left its flusher under the lock is written when a step of that hold is told
  pub looked_written : (noted : Noted) (hash : ℕ) (own mine owns after : View (Told K V P A D)) (step : Step K V P A) (answer : Reply K V P A) (old new : Core K V P A) (n : ℕ) → AreNoted noted own.seen → StandsAt m byte_at own.seen old
      → HasSeenLeave noted old.settings.flushers hash → HasAdded own owns step answer new → owns.seen ≡ after.seen → (stepped : HasStepped m byte_at mine after step answer n) → IsAllWritten m byte_at hash stepped.gone.log
  looked_written noted hash own mine owns after step answer old new n are stands leave added both stepped =
      subst (IsAllWritten m byte_at hash) (before_last (own.seen ++ added.since) stepped.gone.log added.event stepped.gone.event (sym added.seen ∙ both ∙ stepped.gone.seen))
      (seen_written noted hash (own.seen ++ added.since) old (noted_still noted own.seen added.since (own.seen ++ added.since) are added.accesses refl) (stands_still own.seen added.since old stands added.accesses) leave)

-- a look-up moves nothing
pub noted_other : {K V P A : Type 0} (noted : Noted) (answer : Reply K V P A) → HasNoted moving.Other answer noted noted
noted_other noted answer = noted_none noted moving.Other answer (λ F f. refl) (λ f. refl) (λ f n. refl) (λ hash sequence same queued. cc) (λ f ends. ends)
