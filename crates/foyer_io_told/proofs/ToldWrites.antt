-- A write or a clean under the lock of a disk.
use Rattle.std.proofs.Common.{◌≡◌, ℕ, ◌<◌, ◌==◌, ◌||◌, if◌then◌else◌, Bool, List, [], ◌∷◌, ◌++◌, refl, sym, ap, ◌∙◌, subst}
use Rattle.foyer_format_layout.specs.BlockBytes.{Write, laid}
use Rattle.foyer_core_chronicle.specs.Rights.{times}
use Rattle.foyer_core_chronicle.specs.SharedHistory.{joined, GoesOnWith, MayCome}
use Rattle.foyer_core_chronicle.specs.declared.View.{View}
use Rattle.foyer_core_model.specs.Access.{Issued, CleanIssued, CleanDone, cleaned_page}
use Rattle.foyer_core_model.specs.Numbers.{put}
use Rattle.foyer_core_model.specs.World.{World}
use Rattle.foyer_core_rights.specs.Deeds as deeds
use Rattle.foyer_core_rights.specs.Deeds.{Deed, events_in, after_deed}
use Rattle.foyer_core_rights.proofs.ServingLemmas as serving
use Rattle.foyer_core_laws.specs.Content.{Content, Meaning}
use Rattle.foyer_core_laws.specs.CoreRules.{layout, machine, IsEncoded}
use Rattle.foyer_core_laws.specs.Sizes.{AreValid}
use Rattle.foyer_core_laws.specs.Settings.{Settings}
use Rattle.foyer_core_told.specs.declared.event.Told.{Told}
use Rattle.foyer_core_told.specs.declared.event.Told.TheVariants as told
use Rattle.foyer_core_told.specs.ToldRuns.{Tells, IsTold}
use Rattle.foyer_core_told.specs.ToldSteps.{IsDiskLeft}
use Rattle.foyer_core_told.specs.ToldLoads.{makes_ticket}
use Rattle.foyer_core_told.specs.ToldRights.{disk_right, writes_right, clean_right, rights_count, takes}
use Rattle.foyer_core_told.proofs.ToldStepLemmas.{leaves_disk}
use Rattle.foyer_core_told.proofs.TellingLemmas.{not_empty}
use Rattle.foyer_io_told.specs.ToldAccess.{IsWriteOf, IsCleanOf, LiesAt, HasWrites, HasClean, HasWritten}
use Rattle.foyer_io_told.proofs.ToldAccessLemmas.{IsOfRight, on_may, known_after, disk_on, writes_on, clean_on}
use Rattle.foyer_io_told.proofs.ToldBytes.{IsDone, torn_is, left_at, IsCleanDone, clean_torn, clean_left_at}

pub of_write : {K V P A D : Type 0} (e : Told K V P A D) (f : ℕ) (ok : Bool) (new : D) → IsWriteOf e f ok new → IsOfRight e (writes_right f)
of_write (told.Writes g went left) f ok new is = ((λ j. ap (λ i. (j == disk_right) || (j == writes_right i)) is.0), refl)
of_write e f ok new is = absurd is

pub of_clean : {K V P A D : Type 0} (e : Told K V P A D) (b : ℕ) (ok : Bool) (new : D) → IsCleanOf e b ok new → IsOfRight e (clean_right b)
of_clean (told.Cleans c went left) b ok new is = ((λ j. ap (λ i. (j == disk_right) || (j == clean_right i)) is.0), refl)
of_clean e b ok new is = absurd is

pub write_left : {K V P A D : Type 0} (e : Told K V P A D) (f : ℕ) (ok : Bool) (new : D) → IsWriteOf e f ok new → IsDiskLeft e new
write_left (told.Writes g went left) f ok new is = is.2
write_left e f ok new is = absurd is

pub clean_left : {K V P A D : Type 0} (e : Told K V P A D) (b : ℕ) (ok : Bool) (new : D) → IsCleanOf e b ok new → IsDiskLeft e new
clean_left (told.Cleans c went left) b ok new is = is.2
clean_left e b ok new is = absurd is

module _ {K V P A D : Type 0} (m : Meaning K V P) (byte_at : D → ℕ → ℕ → ℕ) where
  module _ (s : Settings) (sound : AreValid s) where
    write_tells : (u : World Content) (e : Told K V P A D) (f : ℕ) (ok : Bool) (torn : ℕ → ℕ) (new : D) → IsWriteOf e f ok new → (after_deed (machine m s sound) u (deeds.WritesAt f ok torn)).bytes ≡ byte_at new
        → Tells m s sound byte_at u e (deeds.WritesAt f ok torn)
    write_tells u (told.Writes g went left) f ok torn new is bytes = (sym is.0, sym is.1, bytes ∙ ap byte_at (sym is.2))
    write_tells u e f ok torn new is bytes = absurd is

    clean_tells : (u : World Content) (e : Told K V P A D) (b : ℕ) (ok : Bool) (torn : ℕ → ℕ) (new : D) → IsCleanOf e b ok new → (after_deed (machine m s sound) u (deeds.CleansAt b ok torn)).bytes ≡ byte_at new
        → Tells m s sound byte_at u e (deeds.CleansAt b ok torn)
    clean_tells u (told.Cleans c went left) b ok torn new is bytes = (sym is.0, sym is.1, bytes ∙ ap byte_at (sym is.2))
    clean_tells u e b ok torn new is bytes = absurd is

    wrote_at : (w : World Content) (e : Told K V P A D) (d : Deed Content) (f b : ℕ) (results : List Bool) (write : Write) (left : List Write) (ok : Bool) (new : D) → IsWriteOf e f ok new → Tells m s sound byte_at w e d
        → w.block_writes f ≡ Issued b results (write ∷ left) → (after_deed (machine m s sound) w d).block_writes f ≡ Issued b (results ++ ok ∷ []) (if ok then left else [])
    wrote_at w (told.Writes g went leaves) (deeds.WritesAt h done torn) f b results write left ok new is tells pending =
        subst (λ (x : ℕ × Bool). (after_deed (machine m s sound) w (deeds.WritesAt x.0 x.1 torn)).block_writes f ≡ Issued b (results ++ ok ∷ []) (if ok then left else []))
        (λ i. (sym (tells.0 ∙ is.0) i, sym (tells.1 ∙ is.1) i))
        (serving.wrote (machine m s sound) (layout s) (IsEncoded m.is_key m.is_value) w f b results write left ok torn pending)
    wrote_at w (told.Writes g went leaves) d f b results write left ok new is tells pending = absurd tells
    wrote_at w e d f b results write left ok new is tells pending = absurd is

    cleaned_at : (w : World Content) (e : Told K V P A D) (d : Deed Content) (b : ℕ) (ok : Bool) (new : D) → IsCleanOf e b ok new → Tells m s sound byte_at w e d → w.clean_states b ≡ CleanIssued
        → (after_deed (machine m s sound) w d).clean_states b ≡ CleanDone ok
    cleaned_at w (told.Cleans c went leaves) (deeds.CleansAt h done torn) b ok new is tells pending =
        subst (λ (x : ℕ × Bool). (after_deed (machine m s sound) w (deeds.CleansAt x.0 x.1 torn)).clean_states b ≡ CleanDone ok)
        (λ i. (sym (tells.0 ∙ is.0) i, sym (tells.1 ∙ is.1) i))
        (serving.cleaned (machine m s sound) (layout s) (IsEncoded m.is_key m.is_value) w b ok torn pending)
    cleaned_at w (told.Cleans c went leaves) d b ok new is tells pending = absurd tells
    cleaned_at w e d b ok new is tells pending = absurd is

  pub write_may : (own mine : View (Told K V P A D)) (old new : D) (e : Told K V P A D) (f b : ℕ) (w : Write) (ok : Bool) → 0 < times disk_right own.has → LiesAt m byte_at own.seen old
      → 0 < times (writes_right f) mine.has → (results : List Bool) (left : List Write) → HasWrites m byte_at mine.seen f b results (w ∷ left) → IsWriteOf e f ok new → IsDone (byte_at old) (byte_at new) b w ok
      → MayCome (IsTold m byte_at) takes (joined own mine) e
  write_may own mine old new e f b w ok right at has results left knows event did log legal fits =
      let lies : LiesAt m byte_at log old = disk_on m byte_at log own.seen own.has old right at fits.0 in
      let issued : HasWrites m byte_at log f b results (w ∷ left) = writes_on m byte_at log mine.seen mine.has f b results (w ∷ left) has knows fits.1 in
      let torn : ℕ → ℕ = byte_at new b in
      on_may m byte_at log e legal lies.0
      (λ s sound u run.
      let bytes : u.bytes ≡ byte_at old = lies.1 s sound u run in
      let serves = serving.writes (machine m s sound) (layout s) (IsEncoded m.is_key m.is_value) u f b results w left ok torn (issued.1 s sound u run)
      (λ o out. torn_is (byte_at old) (byte_at new) b w ok did o out ∙ sym (ap (λ (h : ℕ → ℕ → ℕ). h b o) bytes)) in
      let leaves : put u.bytes b (if ok then laid w (u.bytes b) else torn) ≡ byte_at new =
      (λ i q o. left_at u.bytes (byte_at old) (byte_at new) b w ok (λ q o. ap (λ (h : ℕ → ℕ → ℕ). h q o) bytes) did q o i) in
      (deeds.WritesAt f ok torn, write_tells s sound u e f ok torn new event (serves.2 ∙ leaves), serves.0))

  pub clean_may : (own mine : View (Told K V P A D)) (old new : D) (e : Told K V P A D) (b : ℕ) (ok : Bool) → 0 < times disk_right own.has → LiesAt m byte_at own.seen old
      → 0 < times (clean_right b) mine.has → HasClean m byte_at mine.seen b CleanIssued → IsCleanOf e b ok new → IsCleanDone (byte_at old) (byte_at new) b ok
      → MayCome (IsTold m byte_at) takes (joined own mine) e
  clean_may own mine old new e b ok right at has knows event did log legal fits =
      let lies : LiesAt m byte_at log old = disk_on m byte_at log own.seen own.has old right at fits.0 in
      let issued : HasClean m byte_at log b CleanIssued = clean_on m byte_at log mine.seen mine.has b has knows fits.1 in
      let torn : ℕ → ℕ = byte_at new b in
      on_may m byte_at log e legal lies.0
      (λ s sound u run.
      let bytes : u.bytes ≡ byte_at old = lies.1 s sound u run in
      let serves = serving.cleans (machine m s sound) (layout s) (IsEncoded m.is_key m.is_value) u b ok torn (issued.1 s sound u run)
      (λ o out. clean_torn (byte_at old) (byte_at new) b ok did o out ∙ sym (ap (λ (h : ℕ → ℕ → ℕ). h b o) bytes)) in
      let leaves : put u.bytes b (if ok then cleaned_page (u.bytes b) else torn) ≡ byte_at new =
      (λ i q o. clean_left_at u.bytes (byte_at old) (byte_at new) b ok (λ q o. ap (λ (h : ℕ → ℕ → ℕ). h q o) bytes) did q o i) in
      (deeds.CleansAt b ok torn, clean_tells s sound u e b ok torn new event (serves.2 ∙ leaves), serves.0))

  -- what the lock keeps
  pub left_lies : (own mine owns after : View (Told K V P A D)) (e : Told K V P A D) (new : D) → GoesOnWith (IsTold m byte_at) takes makes_ticket rights_count disk_right own mine e owns after → IsDiskLeft e new → LiesAt m byte_at owns.seen new
  left_lies own mine owns after e new added left =
      subst (λ l. LiesAt m byte_at l new) (sym added.own_seen) (not_empty added.log e, λ s sound u run. leaves_disk m s sound byte_at added.log e new left u run)

  -- what the caller knows
  pub write_known : (own mine owns after : View (Told K V P A D)) (e : Told K V P A D) (f b : ℕ) (write : Write) (ok : Bool) (new : D) → 0 < times (writes_right f) mine.has
      → GoesOnWith (IsTold m byte_at) takes makes_ticket rights_count disk_right own mine e owns after → IsWriteOf e f ok new → HasWritten m byte_at mine after f b write ok
  write_known own mine owns after e f b write ok new has added event results left knows =
      let issued : HasWrites m byte_at added.log f b results (write ∷ left) = writes_on m byte_at added.log mine.seen mine.has f b results (write ∷ left) has knows added.kept in
      subst (λ l. HasWrites m byte_at l f b (results ++ ok ∷ []) (if ok then left else [])) (sym added.seen)
      (known_after m byte_at added.log e (λ s u. u.block_writes f ≡ Issued b results (write ∷ left)) (λ s u. u.block_writes f ≡ Issued b (results ++ ok ∷ []) (if ok then left else [])) issued
      (λ s sound u d tells h. wrote_at s sound u e d f b results write left ok new event tells h))

  pub clean_known : (own mine owns after : View (Told K V P A D)) (e : Told K V P A D) (b : ℕ) (ok : Bool) (new : D) → 0 < times (clean_right b) mine.has → HasClean m byte_at mine.seen b CleanIssued
      → GoesOnWith (IsTold m byte_at) takes makes_ticket rights_count disk_right own mine e owns after → IsCleanOf e b ok new → HasClean m byte_at after.seen b (CleanDone ok)
  clean_known own mine owns after e b ok new has knows added event =
      let issued : HasClean m byte_at added.log b CleanIssued = clean_on m byte_at added.log mine.seen mine.has b has knows added.kept in
      subst (λ l. HasClean m byte_at l b (CleanDone ok)) (sym added.seen)
      (known_after m byte_at added.log e (λ s u. u.clean_states b ≡ CleanIssued) (λ s u. u.clean_states b ≡ CleanDone ok) issued (λ s sound u d tells h. cleaned_at s sound u e d b ok new event tells h))
