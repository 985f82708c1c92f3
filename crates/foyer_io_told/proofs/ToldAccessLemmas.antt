-- An access under the lock of a disk: it may come, and what is known then.
use Rattle.std.proofs.Common.{◌≡◌, inl, inr, ℕ, ◌+◌, ◌<◌, ◌==◌, ◌||◌, Bool, false, List, [], ◌∷◌, ◌++◌, refl, sym, ◌∙◌, subst, arith}
use Rattle.std.proofs.lemmas.Bool.{eqb-true}
use Rattle.foyer_format_layout.specs.BlockBytes.{Write}
use Rattle.foyer_core_chronicle.specs.Rights.{times}
use Rattle.foyer_core_chronicle.specs.SharedHistory.{Continues, joined, GoesOnWith, HasRights}
use Rattle.foyer_core_chronicle.specs.declared.View.{View}
use Rattle.foyer_core_chronicle.proofs.RightLemmas.{times_append}
use Rattle.foyer_core_access.specs.declared.reclaims.Part.{Part}
use Rattle.foyer_core_model.specs.Access.{CleanIssued, ReadIssued}
use Rattle.foyer_core_model.specs.World.{World, MayAllHappen}
use Rattle.foyer_core_rights.specs.Deeds.{Deed, events_in, after_deed}
use Rattle.foyer_core_laws.specs.Content.{Content, Meaning}
use Rattle.foyer_core_laws.specs.CoreRules.{layout, machine, IsEncoded}
use Rattle.foyer_core_laws.specs.Sizes.{AreValid}
use Rattle.foyer_core_laws.specs.Settings.{Settings}
use Rattle.foyer_core_steps.specs.Asked.{ticket_of}
use Rattle.foyer_core_steps.specs.declared.step.Ticket.{Ticket}
use Rattle.foyer_core_told.specs.declared.event.Told.{Told}
use Rattle.foyer_core_told.specs.ToldRuns.{Tells, IsRun, IsTold, Knows}
use Rattle.foyer_core_told.specs.ToldLoads.{makes_ticket}
use Rattle.foyer_core_told.specs.ToldRights.{disk_right, writes_right, clean_right, scan_right, rights_count, ticket_right, takes, RightsKeep}
use Rattle.foyer_core_told.proofs.ToldStepLemmas.{leads_split, run_join}
use Rattle.foyer_core_told.proofs.ToldRightLemmas.{kept_by_rights}
use Rattle.foyer_core_told.proofs.TellingLemmas.{or_case, not_empty, seen_some}
use Rattle.foyer_core_told.specs.Telling.{HasGoneOn}
use Rattle.foyer_io_told.specs.ToldAccess.{LiesAt, HasTicket, HasScan, HasWrites, HasClean}

-- it takes the right of the disk and this one
abbrev pub IsOfRight : {K V P A D : Type 0} → Told K V P A D → ℕ → Type 0
IsOfRight e k = ((j : ℕ) → takes e j ≡ (j == disk_right) || (j == k)) × (makes_ticket e ≡ false)

module _ {K V P A D : Type 0} where
  -- the lock has the disk's right, and the caller the other
  pub access_rights : (own mine : View (Told K V P A D)) (e : Told K V P A D) (k : ℕ) → 0 < times disk_right own.has → 0 < times k mine.has → IsOfRight e k → HasRights takes (joined own mine) e
  access_rights own mine e k right has event j taken =
      let all : times j (mine.has ++ own.has) ≡ times j mine.has + times j own.has = times_append j mine.has own.has in
      elim (or_case (j == disk_right) (j == k) (sym (event.0 j) ∙ taken)) [
        | inl of_disk ↦ (let owns : 0 < times j own.has = subst (λ i. 0 < times i own.has) (sym (eqb-true j disk_right of_disk)) right in omega arith)
        | inr of_mine ↦ (let brings : 0 < times j mine.has = subst (λ i. 0 < times i mine.has) (sym (eqb-true j k of_mine)) has in omega arith)
      ]

  module _ (m : Meaning K V P) (byte_at : D → ℕ → ℕ → ℕ) where
    -- what is known stays known while the right for it is held
    pub known_on : (seen : List (Told K V P A D)) (has : List ℕ) (IsSo : Settings → World Content → Type 0) (log : List (Told K V P A D)) → Knows m byte_at seen IsSo → (k : Continues takes log seen has)
        → ((s : Settings) (w u : World Content) → RightsKeep w k.0 u → IsSo s w → IsSo s u) → Knows m byte_at log IsSo
    known_on seen has IsSo log knows k keeps = (
      (λ none. seen_some seen k.0 (sym k.1 ∙ none) knows.0),
      λ s sound u run.
          let kept = kept_by_rights m s sound byte_at seen k.0 u knows.0 (subst (λ l. IsRun m s sound byte_at l u) k.1 run) in
          keeps s kept.0 u kept.2 (knows.1 s sound kept.0 kept.1),
    )

    -- the history may go on by an event that tells of a deed that may happen in each run
    pub on_may : (log : List (Told K V P A D)) (e : Told K V P A D) → IsTold m byte_at log → (log ≡ [] → ⊥)
        → ((s : Settings) (sound : AreValid s) (u : World Content) → IsRun m s sound byte_at log u
        → (d : Deed Content) × Tells m s sound byte_at u e d × MayAllHappen (machine m s sound) (layout s) (IsEncoded m.is_key m.is_value) u (events_in d))
        → IsTold m byte_at (log ++ e ∷ [])
    on_may log e legal some deed =
        elim legal [
          | inl none ↦ absurd (some none)
          | inr run ↦ inr (
              let s = run.0 in
              let sound = run.1 in
              let u = run.2.0 in
              let d = deed s sound u run.2.1 in
              let v : World Content = after_deed (machine m s sound) u d.0 in
              (s, sound, (v, run_join m s sound byte_at log (e ∷ []) u v run.2.1 (d.0, d.1, d.2, refl)))
              )
        ]

    -- the last event of a run
    pub last_of : (s : Settings) (sound : AreValid s) (log : List (Told K V P A D)) (e : Told K V P A D) (u : World Content) → (log ≡ [] → ⊥) → IsRun m s sound byte_at (log ++ e ∷ []) u
        → (w : World Content) × IsRun m s sound byte_at log w × ((d : Deed Content) × Tells m s sound byte_at w e d × (u ≡ after_deed (machine m s sound) w d))
    last_of s sound [] e u some run = absurd (some refl)
    last_of s sound (x ∷ log) e u some run =
        let parts = leads_split m s sound byte_at run.0 log (e ∷ []) u run.2 in
        (parts.0, (run.0, run.1, parts.1), (parts.2.0, parts.2.1, parts.2.3))

    -- what is known before an event, and what it makes of it
    pub known_after : (log : List (Told K V P A D)) (e : Told K V P A D) (IsSo Becomes : Settings → World Content → Type 0) → Knows m byte_at log IsSo
        → ((s : Settings) (sound : AreValid s) (w : World Content) (d : Deed Content) → Tells m s sound byte_at w e d → IsSo s w → Becomes s (after_deed (machine m s sound) w d)) → Knows m byte_at (log ++ e ∷ []) Becomes
    known_after log e IsSo Becomes knows makes = (
      not_empty log e,
      λ s sound u run.
          let last = last_of s sound log e u knows.0 run in
          subst (Becomes s) (sym (last.2).2) (makes s sound last.0 (last.2).0 (last.2).1 (knows.1 s sound last.0 last.1)),
    )

    pub disk_on : (log seen : List (Told K V P A D)) (has : List ℕ) (now : D) → 0 < times disk_right has → LiesAt m byte_at seen now → Continues takes log seen has → LiesAt m byte_at log now
    disk_on log seen has now right at k = known_on seen has _ log at k (λ s w u keeps h. keeps.disk (k.2 disk_right right) ∙ h)

    pub ticket_on : (log seen : List (Told K V P A D)) (has : List ℕ) (n : ℕ) (ticket : Ticket) → 0 < times (ticket_right n) has → HasTicket m byte_at seen n ticket ReadIssued → Continues takes log seen has
        → HasTicket m byte_at log n ticket ReadIssued
    ticket_on log seen has n ticket enough knows k =
        known_on seen has _ log knows k (λ s w u keeps h. (h.0, keeps.loads n (ticket_of ticket) h.0 ReadIssued tt (k.2 (ticket_right n) enough) h.1))

    pub scan_on : (log seen : List (Told K V P A D)) (has : List ℕ) (b : ℕ) (part : Part) → 0 < times (scan_right b) has → HasScan m byte_at seen b part ReadIssued → Continues takes log seen has → HasScan m byte_at log b part ReadIssued
    scan_on log seen has b part enough knows k = known_on seen has _ log knows k (λ s w u keeps h. keeps.scans b _ tt (k.2 (scan_right b) enough) h)

    pub writes_on : (log seen : List (Told K V P A D)) (has : List ℕ) (f b : ℕ) (results : List Bool) (writes : List Write) → 0 < times (writes_right f) has → HasWrites m byte_at seen f b results writes → Continues takes log seen has
        → HasWrites m byte_at log f b results writes
    writes_on log seen has f b results writes enough knows k = known_on seen has _ log knows k (λ s w u keeps h. keeps.writes f (k.2 (writes_right f) enough) ∙ h)

    pub clean_on : (log seen : List (Told K V P A D)) (has : List ℕ) (b : ℕ) → 0 < times (clean_right b) has → HasClean m byte_at seen b CleanIssued → Continues takes log seen has → HasClean m byte_at log b CleanIssued
    clean_on log seen has b enough knows k = known_on seen has _ log knows k (λ s w u keeps h. keeps.cleans b (k.2 (clean_right b) enough) h)

    -- what the caller has seen then
    pub accessed : (own mine owns has : View (Told K V P A D)) (e : Told K V P A D) (Is : Told K V P A D → Type 0) → GoesOnWith (IsTold m byte_at) takes makes_ticket rights_count disk_right own mine e owns has → Is e
        → HasGoneOn m byte_at mine has Is
    accessed own mine owns has e Is added so =
        record { log = added.log; event = e; kept = added.kept; seen = added.seen; rights = λ k above. added.rights k (λ same. absurd (omega (arith, same, above))); is = so; goes_on = added.goes_on }
