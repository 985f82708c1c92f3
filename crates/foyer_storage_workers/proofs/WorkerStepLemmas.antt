-- What a flusher did of a block's writes, and what a reply's brief asks.
use Rattle.std.proofs.Common.{◌≡◌, ◌+◌, ◌<◌, ◌∙◌, ℕ, true, false, List, [], ◌∷◌, None, Some, Result, Ok, Err, OnOk, length, get_or, drop, inl, inr, refl, sym, subst, ap, arith}
use Rattle.std.proofs.lemmas.List.{at_drop_more}
use Rattle.foyer_core_shared.specs.Briefs.{outcome_of, reply_brief}
use Rattle.foyer_core_shared.specs.Reply.{Reply}
use Rattle.foyer_core_shared.specs.Reply.TheVariants as reply
use Rattle.foyer_core_shared.specs.Sessions.{SessionState}
use Rattle.foyer_core_shared.specs.declared.brief.ReplyBrief.{ReplyBrief}
use Rattle.foyer_core_shared.specs.declared.brief.ReplyBrief.TheVariants as replied
use Rattle.foyer_core_shared.specs.declared.brief.StepBrief.TheVariants as asked
use Rattle.foyer_device_page.specs.declared.error.Error.{Error}
use Rattle.foyer_io_disk.specs.Disk.{IsWritten}
use Rattle.foyer_storage_workers.specs.WorkerSteps.{AreWritten, AreWrittenBehind, AsksForNext, IsDoneAs, ReportsWrite, is_next, names_block, wants_next}

module _ {K V P A : Type 0} where
  -- a reply that isn't Next has another brief
  pub not_next : (answer : Reply K V P A) → (answer ≡ reply.Next → ⊥) → is_next (reply_brief answer) ≡ false
  not_next reply.Next isnt = absurd (isnt refl)
  not_next (reply.Received None) isnt = refl
  not_next (reply.Received (Some back)) isnt = refl
  not_next answer isnt = refl

  -- nor does the brief name a block if the reply doesn't
  pub names_none : (answer : Reply K V P A) → ((block : ℕ) (writes : _) → answer ≡ reply.Write block writes → ⊥) → (answer ≡ reply.NoBlock → ⊥)
      → names_block (reply_brief answer) ≡ false
  names_none (reply.Write block writes) isnt none = absurd (isnt block writes refl)
  names_none reply.NoBlock isnt none = absurd (none refl)
  names_none (reply.Received None) isnt none = refl
  names_none (reply.Received (Some back)) isnt none = refl
  names_none answer isnt none = refl

  -- and nothing is done then
  pub does_none : (answer : Reply K V P A) (flusher : ℕ) (session : SessionState) (bytes : ℕ → ℕ → ℕ)
      → ((block : ℕ) (writes : _) → answer ≡ reply.Write block writes → ⊥) → IsDoneAs answer flusher session bytes bytes
  does_none (reply.Write block writes) flusher session bytes isnt = absurd (isnt block writes refl)
  does_none answer flusher session bytes isnt = refl

went_on : (outcome : Result (Unit {0}) Error) (answer : ReplyBrief) → true ≡ wants_next outcome answer → (outcome ≡ Ok tt) × (answer ≡ replied.Next)
went_on (Ok done) replied.Next goes = (refl, refl)
went_on (Err e) replied.Next goes = absurd cc
went_on outcome answer goes = absurd cc

-- what the newest step is once i writes were done
abbrev pub ReportsSoMany : (flusher i : ℕ) → SessionState → Type 0
ReportsSoMany flusher i session = 0 < i → AsksForNext flusher session

module _ {W : Type 0} (offset_of : W → ℕ) (bytes_of : W → List ℕ) (flusher block : ℕ) where
  -- less may be given
  less_given : (session : SessionState) (more less : Type 0) (ws : List W) (old new : ℕ → ℕ → ℕ) → (more → less)
      → AreWrittenBehind offset_of bytes_of flusher block session more ws old new → AreWrittenBehind offset_of bytes_of flusher block session less ws old new
  less_given session more less [] old new weaker none = (none.0, weaker none.1)
  less_given session more less (w ∷ ws) old new weaker some = some

  -- whatever becomes of the writes behind the first i, it becomes of all
  abbrev pub GoesOn : (items : List W) (i : ℕ) → (start now : ℕ → ℕ → ℕ) → Type 0
  GoesOn items i start now =
      (final : SessionState) (new : ℕ → ℕ → ℕ)
      → AreWrittenBehind offset_of bytes_of flusher block final (ReportsSoMany flusher i final) (drop i items) now new
      → AreWritten items offset_of bytes_of flusher block final start new

  -- the write at an index, and those behind it
  pub write_at : (items : List W) (i : ℕ) (w : W) → i < length items → w ≡ get_or items i w → drop i items ≡ w ∷ drop (i + 1) items
  write_at items i w below is = at_drop_more (λ ws. ws) items i w below ∙ ap (λ x. x ∷ drop (i + 1) items) (sym is)

  pub written_none : (items : List W) (session : SessionState) (bytes : ℕ → ℕ → ℕ) → items ≡ [] → AreWritten items offset_of bytes_of flusher block session bytes bytes
  written_none items session bytes none = subst (λ ws. AreWritten ws offset_of bytes_of flusher block session bytes bytes) (sym none) (refl, tt)

  pub goes_first : (items : List W) (bytes : ℕ → ℕ → ℕ) → drop 0 items ≡ items → GoesOn items 0 bytes bytes
  goes_first items bytes all = λ final new later.
      less_given final (ReportsSoMany flusher 0 final) (Unit {0}) items bytes new (λ _. tt)
      (subst (λ ws. AreWrittenBehind offset_of bytes_of flusher block final (ReportsSoMany flusher 0 final) ws bytes new) all later)

  pub written_all : (items : List W) (i : ℕ) (session : SessionState) (start now : ℕ → ℕ → ℕ) → drop i items ≡ [] → ReportsSoMany flusher i session → GoesOn items i start now
      → AreWritten items offset_of bytes_of flusher block session start now
  written_all items i session start now none reported so_far =
      so_far session now (subst (λ ws. AreWrittenBehind offset_of bytes_of flusher block session (ReportsSoMany flusher i session) ws now now) (sym none) (refl, reported))

  -- one more was done, and reported
  pub reported_on : (i : ℕ) (w : W) (now middle : ℕ → ℕ → ℕ) (came : Type 0) (session : SessionState)
      → ReportsWrite flusher block (offset_of w) (bytes_of w) now middle came session true → ReportsSoMany flusher (i + 1) session
  reported_on i w now middle came session r = λ _.
      let went = went_on r.outcome r.answer r.goes in
      r.newest ∙ ap (λ o. Some (record { step = asked.FlushWrote flusher (outcome_of o); reply = r.answer })) went.0
      ∙ ap (λ a. Some (record { step = asked.FlushWrote flusher (Ok tt); reply = a })) went.1

  pub written_on : (items : List W) (i : ℕ) (w : W) (start now middle : ℕ → ℕ → ℕ) (came : Type 0) (session : SessionState) → drop i items ≡ w ∷ drop (i + 1) items
      → ReportsWrite flusher block (offset_of w) (bytes_of w) now middle came session true → GoesOn items i start now → GoesOn items (i + 1) start middle
  written_on items i w start now middle came session at r so_far = λ final new later.
      let went = went_on r.outcome r.answer r.goes in
      let wrote = subst (λ o. OnOk o (IsWritten now block (offset_of w) (bytes_of w) middle)) went.0 r.wrote in
      so_far final new (subst (λ ws. AreWrittenBehind offset_of bytes_of flusher block final (ReportsSoMany flusher i final) ws now new) (sym at)
      (inl (middle, wrote, less_given final (ReportsSoMany flusher (i + 1) final) (AsksForNext flusher final) (drop (i + 1) items) middle new (λ reported. reported (omega arith)) later)))

  -- or it was the last
  pub written_left : (items : List W) (i : ℕ) (w : W) (start now middle : ℕ → ℕ → ℕ) (came : Type 0) (session : SessionState) → drop i items ≡ w ∷ drop (i + 1) items
      → ReportsWrite flusher block (offset_of w) (bytes_of w) now middle came session false → GoesOn items i start now
      → AreWritten items offset_of bytes_of flusher block session start middle
  written_left items i w start now middle came session at r so_far =
      so_far session middle (subst (λ ws. AreWrittenBehind offset_of bytes_of flusher block session (ReportsSoMany flusher i session) ws now middle) (sym at)
      (inr (record { outcome = r.outcome; answer = r.answer; newest = r.newest; wrote = r.wrote; torn = r.torn; left = sym r.goes })))
