-- Histories grow by a step.
use Rattle.std.proofs.Common.{◌≡◌, ℕ, ◌+◌, Bool, true, false, List, [], ◌∷◌, ◌++◌, map, Option, None, Some, refl, sym, ap, subst, ◌∙◌, arith}
use Rattle.std.proofs.lemmas.List.{map-append}
use Rattle.std.proofs.Math.Logic.{∥∥₁_map, ∥∥₁_elim}
use Rattle.std.specs.Option.{is_some}
use Rattle.std.specs.Coded.{Coded-set, coded_ℕ, coded_bool}
use Rattle.foyer_core_steps.proofs.OpenedLemmas.{opened_stands}
use Rattle.foyer_core_steps.specs.Opened.{IsOpenedFrom}
use Rattle.foyer_core_steps.specs.declared.reply.Reply.{Reply}
use Rattle.foyer_core_steps.specs.declared.state.Core.{Core}
use Rattle.foyer_core_steps.specs.declared.step.Step.{Step}
use Rattle.foyer_core_steps.specs.declared.step.Step.TheVariants as step
use Rattle.foyer_core_steps.specs.Asked.{known_age, step_of, ticket_of}
use Rattle.foyer_core_steps.specs.Refines.{Refines}
use Rattle.foyer_core_steps.specs.Replied.{IsReply}
use Rattle.foyer_core_steps.specs.StateOf.{IsStateOf}
use Rattle.foyer_core_model.specs.Follows.{Follows}
use Rattle.foyer_core_model.specs.Reply as model_reply
use Rattle.foyer_core_model.specs.State.{State}
use Rattle.foyer_core_steps.specs.Begins.{opened_state}
use Rattle.foyer_core_steps.specs.Content.{Content, Meaning, content_of}
use Rattle.foyer_core_steps.specs.CoreRules.{layout, machine}
use Rattle.foyer_core_steps.specs.Sizes.{AreValid}
use Rattle.foyer_core_steps.specs.Settings.{Settings}
use Rattle.foyer_block_recover.specs.declared.block.recover.RecoverMode.{RecoverMode}
use Rattle.foyer_core_shared.specs.Briefs.{brief_of}
use Rattle.foyer_core_shared.specs.Kinds.{kind_of, one_if, count_of, tallied}
use Rattle.foyer_core_tally.specs.Tally.{none, grown}
use Rattle.foyer_core_tally.specs.declared.kinds.Counts.{Counts}
use Rattle.foyer_core_tally.specs.declared.kinds.StepKind.{StepKind}
use Rattle.foyer_core_tally.specs.declared.kinds.StepKind.TheVariants.{Queued, Dropped, Deleted, Read, LookUpMiss, Entry, EndMiss, Other}
use Rattle.foyer_core_shared.specs.Noted.{AreNotesOf, IsNoted, and_note, noted, notes_at_first}
use Rattle.foyer_core_shared.specs.declared.brief.Brief.{Brief}
use Rattle.foyer_core_shared.specs.History.{BeginAlike, BeginsWith, IsLegal, LeadsTo, Made}
use Rattle.foyer_core_shared.specs.Replies.{may_reply}
use Rattle.foyer_core_shared.proofs.ReplyLemmas.{delete_replied, end_replied, enqueue_replied, look_up_replied, other_replied, question_replied}

-- one note more of a kind
count_more : (kind : StepKind) (notes : List Brief) (note : Brief) → count_of kind (notes ++ note ∷ []) ≡ count_of kind notes + one_if kind (kind_of note)
count_more kind [] note = refl
count_more kind (x ∷ xs) note = let rec : count_of kind (xs ++ note ∷ []) ≡ count_of kind xs + one_if kind (kind_of note) = count_more kind xs note in omega arith

plus_none : (n : ℕ) → n + 0 ≡ n
plus_none n = omega arith

-- the numbers with one more of a kind
with_one : (kind : StepKind) (c : Counts) → ◌≡◌ {A = Counts} (record { queued = c.queued + one_if Queued kind; dropped = c.dropped + one_if Dropped kind; deleted = c.deleted + one_if Deleted kind; read = c.read + one_if Read kind; look_up_miss = c.look_up_miss + one_if LookUpMiss kind; entry = c.entry + one_if Entry kind; end_miss = c.end_miss + one_if EndMiss kind; other = c.other + one_if Other kind }) (grown kind c)
with_one Queued c = λ i. record { queued = c.queued + 1; dropped = plus_none c.dropped i; deleted = plus_none c.deleted i; read = plus_none c.read i; look_up_miss = plus_none c.look_up_miss i; entry = plus_none c.entry i; end_miss = plus_none c.end_miss i; other = plus_none c.other i }
with_one Dropped c = λ i. record { queued = plus_none c.queued i; dropped = c.dropped + 1; deleted = plus_none c.deleted i; read = plus_none c.read i; look_up_miss = plus_none c.look_up_miss i; entry = plus_none c.entry i; end_miss = plus_none c.end_miss i; other = plus_none c.other i }
with_one Deleted c = λ i. record { queued = plus_none c.queued i; dropped = plus_none c.dropped i; deleted = c.deleted + 1; read = plus_none c.read i; look_up_miss = plus_none c.look_up_miss i; entry = plus_none c.entry i; end_miss = plus_none c.end_miss i; other = plus_none c.other i }
with_one Read c = λ i. record { queued = plus_none c.queued i; dropped = plus_none c.dropped i; deleted = plus_none c.deleted i; read = c.read + 1; look_up_miss = plus_none c.look_up_miss i; entry = plus_none c.entry i; end_miss = plus_none c.end_miss i; other = plus_none c.other i }
with_one LookUpMiss c = λ i. record { queued = plus_none c.queued i; dropped = plus_none c.dropped i; deleted = plus_none c.deleted i; read = plus_none c.read i; look_up_miss = c.look_up_miss + 1; entry = plus_none c.entry i; end_miss = plus_none c.end_miss i; other = plus_none c.other i }
with_one Entry c = λ i. record { queued = plus_none c.queued i; dropped = plus_none c.dropped i; deleted = plus_none c.deleted i; read = plus_none c.read i; look_up_miss = plus_none c.look_up_miss i; entry = c.entry + 1; end_miss = plus_none c.end_miss i; other = plus_none c.other i }
with_one EndMiss c = λ i. record { queued = plus_none c.queued i; dropped = plus_none c.dropped i; deleted = plus_none c.deleted i; read = plus_none c.read i; look_up_miss = plus_none c.look_up_miss i; entry = plus_none c.entry i; end_miss = c.end_miss + 1; other = plus_none c.other i }
with_one Other c = λ i. record { queued = plus_none c.queued i; dropped = plus_none c.dropped i; deleted = plus_none c.deleted i; read = plus_none c.read i; look_up_miss = plus_none c.look_up_miss i; entry = plus_none c.entry i; end_miss = plus_none c.end_miss i; other = c.other + 1 }

pub tallied_more : (notes : List Brief) (note : Brief) → tallied (notes ++ note ∷ []) ≡ grown (kind_of note) (tallied notes)
tallied_more notes note = (λ i. record { queued = count_more Queued notes note i; dropped = count_more Dropped notes note i; deleted = count_more Deleted notes note i; read = count_more Read notes note i; look_up_miss = count_more LookUpMiss notes note i; entry = count_more Entry notes note i; end_miss = count_more EndMiss notes note i; other = count_more Other notes note i }) ∙ with_one (kind_of note) (tallied notes)

-- notes are there before the first step if they are kept, and stay there with each further note
pub some_first : (keeps : Bool) → is_some (notes_at_first keeps) ≡ keeps
some_first false = refl
some_first true = refl

pub some_note : (note : Brief) (notes : Option (List Brief)) → is_some (and_note note notes) ≡ is_some notes
some_note note None = refl
some_note note (Some ns) = refl

first_notes : (K V P A : Type 0) (keeps : Bool) → AreNotesOf {K = K} {V = V} {P = P} {A = A} [] (notes_at_first keeps)
first_notes K V P A false = tt
first_notes K V P A true = refl

module _ {K V P A : Type 0} (m : Meaning K V P) where
  leads_on : (s : Settings) (sound : AreValid s) (old middle new : State Content) (xs : List (Made K V P A)) (x : Made K V P A) (it : model_reply.Reply Content)
      → LeadsTo m s sound old xs middle → IsReply m x.reply it → Follows (machine m s sound) (layout s) middle (step_of m x.step) it new
      → LeadsTo m s sound old (xs ++ x ∷ []) new
  leads_on s sound old middle new [] x it led replied follows =
      (new, it, replied, subst (λ state. Follows (machine m s sound) (layout s) state (step_of m x.step) it new) led follows, refl)
  leads_on s sound old middle new (y ∷ ys) x it led replied follows =
      (led.0, led.1, led.2, led.3, leads_on s sound led.0 middle new ys x it led.4 replied follows)

  -- a history is one of a step more after it
  pub is_longer : (xs : List (Made K V P A)) (x : Made K V P A) (old new : Core K V P A) → Refines m x.step x.reply old new → IsLegal m xs old → IsLegal m (xs ++ x ∷ []) new
  is_longer xs x old new refines legal =
      let it = refines legal.settings legal.sound legal.state legal.stands in
      record {
        settings = legal.settings;
        sound = legal.sound;
        marks = legal.marks;
        found = legal.found;
        state = it.after;
        opening = legal.opening;
        led = leads_on legal.settings legal.sound (opened_state (machine m legal.settings legal.sound) legal.found) legal.state it.after xs x it.it legal.led it.reply it.follows;
        stands = it.stands;
      }

  -- and begins with the same opening
  pub goes_on : (xs : List (Made K V P A)) (x : Made K V P A) (held old new : Core K V P A) → held ≡ old → Refines m x.step x.reply old new
      → (legal : IsLegal m xs held) → (after : IsLegal m (xs ++ x ∷ []) new) × BeginAlike m xs (xs ++ x ∷ []) held new legal after
  goes_on xs x held old new is refines legal =
      let it = refines legal.settings legal.sound legal.state (subst (λ c. IsStateOf m legal.settings c legal.state) is legal.stands) in (
        record {
          settings = legal.settings;
          sound = legal.sound;
          marks = legal.marks;
          found = legal.found;
          state = it.after;
          opening = legal.opening;
          led = leads_on legal.settings legal.sound (opened_state (machine m legal.settings legal.sound) legal.found) legal.state it.after xs x it.it legal.led it.reply it.follows;
          stands = it.stands;
        },
        record { settings = refl; marks = refl; found = refl },
      )

  notes_longer : (xs : List (Made K V P A)) (x : Made K V P A) (notes : Option (List Brief)) → AreNotesOf xs notes → AreNotesOf (xs ++ x ∷ []) (and_note (noted x) notes)
  notes_longer xs x None are = tt
  notes_longer xs x (Some ns) are = ap (λ l. l ++ noted x ∷ []) are ∙ sym (map-append noted xs (x ∷ []))

  -- and so is what is noted and counted of it
  noted_more : (given : Step K V P A) (answer : Reply K V P A) (old new : Core K V P A) (notes : Option (List Brief)) (n : Counts) → Refines m given answer old new
      → IsNoted m old notes n → IsNoted m new (and_note (brief_of given answer) notes) (grown (kind_of (brief_of given answer)) n)
  noted_more given answer old new notes n refines is =
      let x : Made K V P A = record { step = given; reply = answer } in
      record {
        run = is.run ++ x ∷ [];
        legal = is_longer is.run x old new refines is.legal;
        count = ap (grown (kind_of (noted x))) is.count ∙ sym (tallied_more (map noted is.run) (noted x)) ∙ sym (ap tallied (map-append noted is.run (x ∷ [])));
        kept = notes_longer is.run x notes is.kept;
      }

  pub noted_on : (given : Step K V P A) (answer : Reply K V P A) (old new : Core K V P A) (before notes : Option (List Brief)) (n calls : Counts) → Refines m given answer old new
      → notes ≡ and_note (brief_of given answer) before → calls ≡ grown (kind_of (brief_of given answer)) n → ∥ IsNoted m old before n ∥₁ → ∥ IsNoted m new notes calls ∥₁
  noted_on given answer old new before notes n calls refines is_noted is_counted is =
      subst (λ c. ∥ IsNoted m new notes c ∥₁) (sym is_counted)
      (subst (λ ns. ∥ IsNoted m new ns (grown (kind_of (brief_of given answer)) n) ∥₁) (sym is_noted) (∥∥₁_map is (noted_more given answer old new before n refines)))

  -- a core that was opened has the empty history
  pub noted_first : (s : Settings) (bytes : ℕ → ℕ → ℕ) (surely_has : ℕ → ℕ → ℕ → Type 0) (mode : RecoverMode) (marks : List (ℕ × ℕ)) (is_seen : Type 0) (core : Core K V P A)
      (keeps : Bool) (notes : Option (List Brief)) (calls : Counts) → AreValid s → IsOpenedFrom s bytes surely_has mode marks is_seen core
      → notes ≡ notes_at_first keeps → calls ≡ none → ∥ IsNoted m core notes calls ∥₁
  noted_first s bytes surely_has mode marks is_seen core keeps notes calls sound from first none =
      ∣ record {
        run = [];
        legal = record {
          settings = s;
          sound = sound;
          marks = marks;
          found = from.found;
          state = opened_state (machine m s sound) from.found;
          opening = from.opening;
          led = refl;
          stands = opened_stands m s sound marks from.found core from.opening from.opened;
        };
        count = none;
        kept = subst (AreNotesOf {K = K} {V = V} {P = P} {A = A} []) (sym first) (first_notes K V P A keeps);
      } ∣₁

  -- the empty history of a core that was opened begins with its opening
  pub begins_with : (s : Settings) (bytes : ℕ → ℕ → ℕ) (surely_has : ℕ → ℕ → ℕ → Type 0) (mode : RecoverMode) (marks : List (ℕ × ℕ)) (is_seen : Type 0) (core : Core K V P A)
      → AreValid s → IsOpenedFrom s bytes surely_has mode marks is_seen core → BeginsWith m s bytes surely_has mode marks is_seen core
  begins_with s bytes surely_has mode marks is_seen core sound from = record {
    first = record {
      settings = s;
      sound = sound;
      marks = marks;
      found = from.found;
      state = opened_state (machine m s sound) from.found;
      opening = from.opening;
      led = refl;
      stands = opened_stands m s sound marks from.found core from.opening from.opened;
    };
    sizes = refl;
    deleted = refl;
    recovered = from.recovered;
  }

  notes_tallied : (core : Core K V P A) (notes : List Brief) (calls : Counts) → IsNoted m core (Some notes) calls → tallied notes ≡ calls
  notes_tallied core notes calls is = ap tallied is.kept ∙ sym is.count

  -- the book's numbers are those of the notes, if notes are kept
  pub noted_tallies : (core : Core K V P A) (kept : Option (List Brief)) (calls : Counts) → ∥ IsNoted m core kept calls ∥₁ → (notes : List Brief) → kept ≡ Some notes → tallied notes ≡ calls
  noted_tallies core kept calls noted notes is = λ i. record { queued = same (λ c. c.queued) i; dropped = same (λ c. c.dropped) i; deleted = same (λ c. c.deleted) i; read = same (λ c. c.read) i; look_up_miss = same (λ c. c.look_up_miss) i; entry = same (λ c. c.entry) i; end_miss = same (λ c. c.end_miss) i; other = same (λ c. c.other) i }
    where
      whole : ∥ IsNoted m core (Some notes) calls ∥₁
      whole = subst (λ k. ∥ IsNoted m core k calls ∥₁) is noted

      same : (f : Counts → ℕ) → f (tallied notes) ≡ f calls
      same f = ∥∥₁_elim whole (Coded-set coded_ℕ _ _) (λ k. ap f (notes_tallied core notes calls k))

  -- a caller's step is replied as it may be, whatever history led to the core
  pub replied : (given : Step K V P A) (answer : Reply K V P A) (old new : Core K V P A) (notes : Option (List Brief)) (calls : Counts)
      → ∥ IsNoted m old notes calls ∥₁ → Refines m given answer old new → may_reply given answer ≡ true
  replied (step.Enqueue piece size) answer old new notes calls noted refines =
      ∥∥₁_elim noted (Coded-set coded_bool _ _) (λ (n : IsNoted m old notes calls).
      let it = refines n.legal.settings n.legal.sound n.legal.state n.legal.stands in
      enqueue_replied (machine m n.legal.settings n.legal.sound) (layout n.legal.settings) n.legal.state m piece.piece.hash size (known_age (m.age_of piece.piece.properties)) (content_of m piece) it.after answer it.it it.reply it.follows)
  replied (step.Delete hash) answer old new notes calls noted refines =
      ∥∥₁_elim noted (Coded-set coded_bool _ _) (λ (n : IsNoted m old notes calls).
      let it = refines n.legal.settings n.legal.sound n.legal.state n.legal.stands in
      delete_replied (machine m n.legal.settings n.legal.sound) (layout n.legal.settings) n.legal.state m hash it.after answer it.it it.reply it.follows)
  replied (step.MayContains hash) answer old new notes calls noted refines =
      ∥∥₁_elim noted (Coded-set coded_bool _ _) (λ (n : IsNoted m old notes calls).
      let it = refines n.legal.settings n.legal.sound n.legal.state n.legal.stands in
      question_replied (machine m n.legal.settings n.legal.sound) (layout n.legal.settings) n.legal.state m hash it.after answer it.it it.reply it.follows)
  replied (step.LoadBegin hash throttled) answer old new notes calls noted refines =
      ∥∥₁_elim noted (Coded-set coded_bool _ _) (λ (n : IsNoted m old notes calls).
      let it = refines n.legal.settings n.legal.sound n.legal.state n.legal.stands in
      look_up_replied (machine m n.legal.settings n.legal.sound) (layout n.legal.settings) n.legal.state m hash throttled it.after answer it.it it.reply it.follows)
  replied (step.LoadEnd ticket outcome) answer old new notes calls noted refines =
      ∥∥₁_elim noted (Coded-set coded_bool _ _) (λ (n : IsNoted m old notes calls).
      let it = refines n.legal.settings n.legal.sound n.legal.state n.legal.stands in
      end_replied (machine m n.legal.settings n.legal.sound) (layout n.legal.settings) n.legal.state m (ticket_of ticket) outcome it.after answer it.it it.reply it.follows)
  replied (step.Wait flusher id) answer old new notes calls noted refines =
      ∥∥₁_elim noted (Coded-set coded_bool _ _) (λ (n : IsNoted m old notes calls).
      let it = refines n.legal.settings n.legal.sound n.legal.state n.legal.stands in
      other_replied (machine m n.legal.settings n.legal.sound) (layout n.legal.settings) n.legal.state m (step_of {A = A} m (step.Wait flusher id)) (λ no. no) (λ no. no) (λ no. no) it.after answer it.it it.reply it.follows)
  replied (step.Receive flusher) answer old new notes calls noted refines =
      ∥∥₁_elim noted (Coded-set coded_bool _ _) (λ (n : IsNoted m old notes calls).
      let it = refines n.legal.settings n.legal.sound n.legal.state n.legal.stands in
      other_replied (machine m n.legal.settings n.legal.sound) (layout n.legal.settings) n.legal.state m (step_of {A = A} m (step.Receive flusher)) (λ no. no) (λ no. no) (λ no. no) it.after answer it.it it.reply it.follows)
  replied (step.FlushBegin flusher) answer old new notes calls noted refines =
      ∥∥₁_elim noted (Coded-set coded_bool _ _) (λ (n : IsNoted m old notes calls).
      let it = refines n.legal.settings n.legal.sound n.legal.state n.legal.stands in
      other_replied (machine m n.legal.settings n.legal.sound) (layout n.legal.settings) n.legal.state m (step_of {A = A} m (step.FlushBegin flusher)) (λ no. no) (λ no. no) (λ no. no) it.after answer it.it it.reply it.follows)
  replied (step.FlushBlock flusher) answer old new notes calls noted refines =
      ∥∥₁_elim noted (Coded-set coded_bool _ _) (λ (n : IsNoted m old notes calls).
      let it = refines n.legal.settings n.legal.sound n.legal.state n.legal.stands in
      other_replied (machine m n.legal.settings n.legal.sound) (layout n.legal.settings) n.legal.state m (step_of {A = A} m (step.FlushBlock flusher)) (λ no. no) (λ no. no) (λ no. no) it.after answer it.it it.reply it.follows)
  replied (step.FlushWrote flusher outcome) answer old new notes calls noted refines =
      ∥∥₁_elim noted (Coded-set coded_bool _ _) (λ (n : IsNoted m old notes calls).
      let it = refines n.legal.settings n.legal.sound n.legal.state n.legal.stands in
      other_replied (machine m n.legal.settings n.legal.sound) (layout n.legal.settings) n.legal.state m (step_of {A = A} m (step.FlushWrote flusher outcome)) (λ no. no) (λ no. no) (λ no. no) it.after answer it.it it.reply it.follows)
  replied (step.LogWrote flusher outcome) answer old new notes calls noted refines =
      ∥∥₁_elim noted (Coded-set coded_bool _ _) (λ (n : IsNoted m old notes calls).
      let it = refines n.legal.settings n.legal.sound n.legal.state n.legal.stands in
      other_replied (machine m n.legal.settings n.legal.sound) (layout n.legal.settings) n.legal.state m (step_of {A = A} m (step.LogWrote flusher outcome)) (λ no. no) (λ no. no) (λ no. no) it.after answer it.it it.reply it.follows)
  replied (step.FlushEnd flusher) answer old new notes calls noted refines =
      ∥∥₁_elim noted (Coded-set coded_bool _ _) (λ (n : IsNoted m old notes calls).
      let it = refines n.legal.settings n.legal.sound n.legal.state n.legal.stands in
      other_replied (machine m n.legal.settings n.legal.sound) (layout n.legal.settings) n.legal.state m (step_of {A = A} m (step.FlushEnd flusher)) (λ no. no) (λ no. no) (λ no. no) it.after answer it.it it.reply it.follows)
  replied step.ReclaimBegin answer old new notes calls noted refines =
      ∥∥₁_elim noted (Coded-set coded_bool _ _) (λ (n : IsNoted m old notes calls).
      let it = refines n.legal.settings n.legal.sound n.legal.state n.legal.stands in
      other_replied (machine m n.legal.settings n.legal.sound) (layout n.legal.settings) n.legal.state m (step_of {A = A} m step.ReclaimBegin) (λ no. no) (λ no. no) (λ no. no) it.after answer it.it it.reply it.follows)
  replied (step.ReclaimRead block outcome) answer old new notes calls noted refines =
      ∥∥₁_elim noted (Coded-set coded_bool _ _) (λ (n : IsNoted m old notes calls).
      let it = refines n.legal.settings n.legal.sound n.legal.state n.legal.stands in
      other_replied (machine m n.legal.settings n.legal.sound) (layout n.legal.settings) n.legal.state m (step_of {A = A} m (step.ReclaimRead block outcome)) (λ no. no) (λ no. no) (λ no. no) it.after answer it.it it.reply it.follows)
  replied (step.ReclaimForget block) answer old new notes calls noted refines =
      ∥∥₁_elim noted (Coded-set coded_bool _ _) (λ (n : IsNoted m old notes calls).
      let it = refines n.legal.settings n.legal.sound n.legal.state n.legal.stands in
      other_replied (machine m n.legal.settings n.legal.sound) (layout n.legal.settings) n.legal.state m (step_of {A = A} m (step.ReclaimForget block)) (λ no. no) (λ no. no) (λ no. no) it.after answer it.it it.reply it.follows)
  replied (step.ReclaimCleaned block outcome) answer old new notes calls noted refines =
      ∥∥₁_elim noted (Coded-set coded_bool _ _) (λ (n : IsNoted m old notes calls).
      let it = refines n.legal.settings n.legal.sound n.legal.state n.legal.stands in
      other_replied (machine m n.legal.settings n.legal.sound) (layout n.legal.settings) n.legal.state m (step_of {A = A} m (step.ReclaimCleaned block outcome)) (λ no. no) (λ no. no) (λ no. no) it.after answer it.it it.reply it.follows)
  replied step.ReclaimIdle answer old new notes calls noted refines =
      ∥∥₁_elim noted (Coded-set coded_bool _ _) (λ (n : IsNoted m old notes calls).
      let it = refines n.legal.settings n.legal.sound n.legal.state n.legal.stands in
      other_replied (machine m n.legal.settings n.legal.sound) (layout n.legal.settings) n.legal.state m (step_of {A = A} m step.ReclaimIdle) (λ no. no) (λ no. no) (λ no. no) it.after answer it.it it.reply it.follows)
  replied step.DestroyBegin answer old new notes calls noted refines =
      ∥∥₁_elim noted (Coded-set coded_bool _ _) (λ (n : IsNoted m old notes calls).
      let it = refines n.legal.settings n.legal.sound n.legal.state n.legal.stands in
      other_replied (machine m n.legal.settings n.legal.sound) (layout n.legal.settings) n.legal.state m (step_of {A = A} m step.DestroyBegin) (λ no. no) (λ no. no) (λ no. no) it.after answer it.it it.reply it.follows)
  replied step.DestroyClear answer old new notes calls noted refines =
      ∥∥₁_elim noted (Coded-set coded_bool _ _) (λ (n : IsNoted m old notes calls).
      let it = refines n.legal.settings n.legal.sound n.legal.state n.legal.stands in
      other_replied (machine m n.legal.settings n.legal.sound) (layout n.legal.settings) n.legal.state m (step_of {A = A} m step.DestroyClear) (λ no. no) (λ no. no) (λ no. no) it.after answer it.it it.reply it.follows)
  replied (step.DestroyCleaned block outcome) answer old new notes calls noted refines =
      ∥∥₁_elim noted (Coded-set coded_bool _ _) (λ (n : IsNoted m old notes calls).
      let it = refines n.legal.settings n.legal.sound n.legal.state n.legal.stands in
      other_replied (machine m n.legal.settings n.legal.sound) (layout n.legal.settings) n.legal.state m (step_of {A = A} m (step.DestroyCleaned block outcome)) (λ no. no) (λ no. no) (λ no. no) it.after answer it.it it.reply it.follows)
  replied step.Close answer old new notes calls noted refines =
      ∥∥₁_elim noted (Coded-set coded_bool _ _) (λ (n : IsNoted m old notes calls).
      let it = refines n.legal.settings n.legal.sound n.legal.state n.legal.stands in
      other_replied (machine m n.legal.settings n.legal.sound) (layout n.legal.settings) n.legal.state m (step_of {A = A} m step.Close) (λ no. no) (λ no. no) (λ no. no) it.after answer it.it it.reply it.follows)
