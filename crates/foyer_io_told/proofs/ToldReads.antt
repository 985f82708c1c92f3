-- A read of a ticket, or for a reclaim, under the lock of a disk.
use Rattle.std.proofs.Common.{◌≡◌, ℕ, ◌+◌, ◌<◌, ◌==◌, ◌||◌, Option, Some, Result, Ok, Err, refl, sym, ap, ◌∙◌, subst, arith}
use Rattle.std.specs.Prelude.{IfOk, vec_len}
use Rattle.std.specs.declared.vec.Vec.{Vec}
use Rattle.foyer_device_page.specs.declared.error.Error.{Error}
use Rattle.foyer_core_chronicle.specs.Rights.{times}
use Rattle.foyer_core_chronicle.specs.SharedHistory.{joined, GoesOnWith, MayCome}
use Rattle.foyer_core_chronicle.specs.declared.View.{View}
use Rattle.foyer_io_disk.specs.Disk as disk
use Rattle.foyer_core_access.specs.declared.reclaims.Part.{Part}
use Rattle.foyer_core_model.specs.Access.{ReadIssued, ReadDone, Scan}
use Rattle.foyer_core_model.specs.Event.{Event}
use Rattle.foyer_core_model.specs.Step as model_step
use Rattle.foyer_core_model.specs.World.{World, MayAllHappen}
use Rattle.foyer_core_rights.specs.Deeds as deeds
use Rattle.foyer_core_rights.specs.Deeds.{Deed, events_in, after_deed}
use Rattle.foyer_core_rights.specs.Frames.{HasLoad}
use Rattle.foyer_core_rights.proofs.ServingLemmas as serving
use Rattle.foyer_core_laws.specs.Content.{Content, Meaning}
use Rattle.foyer_core_laws.specs.CoreRules.{layout, machine, IsEncoded}
use Rattle.foyer_core_laws.specs.Sizes.{AreValid}
use Rattle.foyer_core_laws.specs.Settings.{Settings}
use Rattle.foyer_core_steps.specs.Asked.{ticket_of, came_of}
use Rattle.foyer_core_steps.specs.declared.step.Ticket.{Ticket}
use Rattle.foyer_core_told.specs.declared.event.Told.{Told}
use Rattle.foyer_core_told.specs.declared.event.Told.TheVariants as told
use Rattle.foyer_core_told.specs.ToldRuns.{Tells, IsTold}
use Rattle.foyer_core_told.specs.ToldLoads.{makes_ticket, IsReadOf}
use Rattle.foyer_core_told.specs.ToldRights.{disk_right, scan_right, rights_count, ticket_right, takes}
use Rattle.foyer_core_told.proofs.ToldLoadLemmas.{read_at}
use Rattle.foyer_io_told.specs.ToldAccess.{IsScanOf, LiesAt, HasTicket, HasScan}
use Rattle.foyer_io_told.proofs.ToldAccessLemmas.{IsOfRight, on_may, known_after, disk_on, ticket_on, scan_on}

pub of_read : {K V P A D : Type 0} (e : Told K V P A D) (n : ℕ) (outcome : Result (Vec ℕ A) Error) → IsReadOf e n outcome → IsOfRight e (ticket_right n)
of_read (told.Reads k c) n outcome is = ((λ j. ap (λ i. (j == disk_right) || (j == ticket_right i)) is.0), refl)
of_read e n outcome is = absurd is

pub of_scan : {K V P A D : Type 0} (e : Told K V P A D) (b : ℕ) (outcome : Result (Vec ℕ A) Error) → IsScanOf e b outcome → IsOfRight e (scan_right b)
of_scan (told.Scans k c) b outcome is = ((λ j. ap (λ i. (j == disk_right) || (j == scan_right i)) is.0), refl)
of_scan e b outcome is = absurd is

module _ {K V P A D : Type 0} (m : Meaning K V P) (byte_at : D → ℕ → ℕ → ℕ) where
  module _ (s : Settings) (sound : AreValid s) where
    read_tells : (u : World Content) (e : Told K V P A D) (n : ℕ) (outcome : Result (Vec ℕ A) Error) → IsReadOf e n outcome → Tells m s sound byte_at u e (deeds.ReadsAt n (came_of outcome))
    read_tells u (told.Reads k c) n outcome is = (sym is.0, ap came_of (sym is.1))
    read_tells u e n outcome is = absurd is

    scan_tells : (u : World Content) (e : Told K V P A D) (b : ℕ) (outcome : Result (Vec ℕ A) Error) → IsScanOf e b outcome → Tells m s sound byte_at u e (deeds.ScansAt b (came_of outcome))
    scan_tells u (told.Scans k c) b outcome is = (sym is.0, ap came_of (sym is.1))
    scan_tells u e b outcome is = absurd is

    read_happens : (u : World Content) (n : ℕ) (ticket : Ticket) (promise : Option (Event Content)) (outcome : Result (Vec ℕ A) Error) (bytes : ℕ → ℕ → ℕ) → HasLoad u n (ticket_of ticket) promise ReadIssued → u.bytes ≡ bytes
        → IfOk outcome (λ b. disk.IsRead bytes ticket.address.block ticket.address.offset b.items) → IfOk outcome (λ b. vec_len b ≡ ticket.address.len)
        → MayAllHappen (machine m s sound) (layout s) (IsEncoded m.is_key m.is_value) u (events_in (deeds.ReadsAt n (came_of outcome)))
    read_happens u n ticket promise (Ok b) bytes h same read len =
        (serving.reads (machine m s sound) (layout s) (IsEncoded m.is_key m.is_value) u n (ticket_of ticket) promise b.items h (omega (arith, len, b.ok))
        (λ i below. read i below ∙ sym (ap (λ (f : ℕ → ℕ → ℕ). f ticket.address.block (ticket.address.offset + i)) same))).0
    read_happens u n ticket promise (Err x) bytes h same read len = (serving.faults (machine m s sound) (layout s) (IsEncoded m.is_key m.is_value) u n (ticket_of ticket) promise h).0

    scan_happens : (u : World Content) (b : ℕ) (part : Part) (outcome : Result (Vec ℕ A) Error) (bytes : ℕ → ℕ → ℕ) → u.scans b ≡ Some (record { offset = part.offset; len = part.len; read_state = ReadIssued }) → u.bytes ≡ bytes
        → IfOk outcome (λ v. disk.IsRead bytes b part.offset v.items) → IfOk outcome (λ v. vec_len v ≡ part.len)
        → MayAllHappen (machine m s sound) (layout s) (IsEncoded m.is_key m.is_value) u (events_in (deeds.ScansAt b (came_of outcome)))
    scan_happens u b part (Ok v) bytes h same read len =
        (serving.scans (machine m s sound) (layout s) (IsEncoded m.is_key m.is_value) u b _ v.items h refl (omega (arith, len, v.ok))
        (λ i below. read i below ∙ sym (ap (λ (f : ℕ → ℕ → ℕ). f b (part.offset + i)) same))).0
    scan_happens u b part (Err x) bytes h same read len = (serving.scan_faults (machine m s sound) (layout s) (IsEncoded m.is_key m.is_value) u b _ h refl).0

    read_bytes : (w : World Content) (e : Told K V P A D) (d : Deed Content) (n : ℕ) (outcome : Result (Vec ℕ A) Error) → IsReadOf e n outcome → Tells m s sound byte_at w e d → (after_deed (machine m s sound) w d).bytes ≡ w.bytes
    read_bytes w (told.Reads k c) (deeds.ReadsAt j result) n outcome is tells = refl
    read_bytes w (told.Reads k c) d n outcome is tells = absurd tells
    read_bytes w e d n outcome is tells = absurd is

    scan_bytes : (w : World Content) (e : Told K V P A D) (d : Deed Content) (b : ℕ) (outcome : Result (Vec ℕ A) Error) → IsScanOf e b outcome → Tells m s sound byte_at w e d → (after_deed (machine m s sound) w d).bytes ≡ w.bytes
    scan_bytes w (told.Scans k c) (deeds.ScansAt j result) b outcome is tells = refl
    scan_bytes w (told.Scans k c) d b outcome is tells = absurd tells
    scan_bytes w e d b outcome is tells = absurd is

    scan_at : (w : World Content) (e : Told K V P A D) (d : Deed Content) (b : ℕ) (scan : Scan) (outcome : Result (Vec ℕ A) Error) → IsScanOf e b outcome → Tells m s sound byte_at w e d → w.scans b ≡ Some scan → scan.read_state ≡ ReadIssued
        → (after_deed (machine m s sound) w d).scans b ≡ Some (record scan { read_state = ReadDone (came_of outcome) })
    scan_at w (told.Scans k c) (deeds.ScansAt j result) b scan outcome is tells h issued =
        subst (λ (x : ℕ × model_step.ReadResult). (after_deed (machine m s sound) w (deeds.ScansAt x.0 x.1)).scans b ≡ Some (record scan { read_state = ReadDone (came_of outcome) }))
        (λ i. (sym (tells.0 ∙ is.0) i, sym (tells.1 ∙ ap came_of is.1) i))
        (serving.scan_done (machine m s sound) (layout s) (IsEncoded m.is_key m.is_value) w b scan (came_of outcome) h issued)
    scan_at w (told.Scans k c) d b scan outcome is tells h issued = absurd tells
    scan_at w e d b scan outcome is tells h issued = absurd is

  pub read_may : (own mine : View (Told K V P A D)) (now : D) (e : Told K V P A D) (n : ℕ) (ticket : Ticket) (outcome : Result (Vec ℕ A) Error) → 0 < times disk_right own.has
      → LiesAt m byte_at own.seen now → 0 < times (ticket_right n) mine.has → HasTicket m byte_at mine.seen n ticket ReadIssued → IsReadOf e n outcome
      → IfOk outcome (λ b. disk.IsRead (byte_at now) ticket.address.block ticket.address.offset b.items) → IfOk outcome (λ b. vec_len b ≡ ticket.address.len)
      → MayCome (IsTold m byte_at) takes (joined own mine) e
  read_may own mine now e n ticket outcome right at has knows event read len log legal fits =
      let lies : LiesAt m byte_at log now = disk_on m byte_at log own.seen own.has now right at fits.0 in
      let issued : HasTicket m byte_at log n ticket ReadIssued = ticket_on m byte_at log mine.seen mine.has n ticket has knows fits.1 in
      on_may m byte_at log e legal lies.0
      (λ s sound u run. let h = issued.1 s sound u run in
      (deeds.ReadsAt n (came_of outcome), read_tells s sound u e n outcome event, read_happens s sound u n ticket h.0 outcome (byte_at now) h.1 (lies.1 s sound u run) read len))

  pub scan_may : (own mine : View (Told K V P A D)) (now : D) (e : Told K V P A D) (b : ℕ) (part : Part) (outcome : Result (Vec ℕ A) Error) → 0 < times disk_right own.has
      → LiesAt m byte_at own.seen now → 0 < times (scan_right b) mine.has → HasScan m byte_at mine.seen b part ReadIssued → IsScanOf e b outcome
      → IfOk outcome (λ v. disk.IsRead (byte_at now) b part.offset v.items) → IfOk outcome (λ v. vec_len v ≡ part.len)
      → MayCome (IsTold m byte_at) takes (joined own mine) e
  scan_may own mine now e b part outcome right at has knows event read len log legal fits =
      let lies : LiesAt m byte_at log now = disk_on m byte_at log own.seen own.has now right at fits.0 in
      let issued : HasScan m byte_at log b part ReadIssued = scan_on m byte_at log mine.seen mine.has b part has knows fits.1 in
      on_may m byte_at log e legal lies.0
      (λ s sound u run. (deeds.ScansAt b (came_of outcome), scan_tells s sound u e b outcome event, scan_happens s sound u b part outcome (byte_at now) (issued.1 s sound u run) (lies.1 s sound u run) read len))

  -- what the lock keeps
  pub read_lies : (own mine owns after : View (Told K V P A D)) (e : Told K V P A D) (old new : D) (n : ℕ) (outcome : Result (Vec ℕ A) Error) → 0 < times disk_right own.has → LiesAt m byte_at own.seen old
      → GoesOnWith (IsTold m byte_at) takes makes_ticket rights_count disk_right own mine e owns after → IsReadOf e n outcome → byte_at new ≡ byte_at old → LiesAt m byte_at owns.seen new
  read_lies own mine owns after e old new n outcome right at added event same =
      let lies : LiesAt m byte_at added.log old = disk_on m byte_at added.log own.seen own.has old right at added.fits in
      subst (λ l. LiesAt m byte_at l new) (sym added.own_seen)
      (known_after m byte_at added.log e (λ s u. u.bytes ≡ byte_at old) (λ s u. u.bytes ≡ byte_at new) lies (λ s sound u d tells h. read_bytes s sound u e d n outcome event tells ∙ h ∙ sym same))

  pub scan_lies : (own mine owns after : View (Told K V P A D)) (e : Told K V P A D) (old new : D) (b : ℕ) (outcome : Result (Vec ℕ A) Error) → 0 < times disk_right own.has → LiesAt m byte_at own.seen old
      → GoesOnWith (IsTold m byte_at) takes makes_ticket rights_count disk_right own mine e owns after → IsScanOf e b outcome → byte_at new ≡ byte_at old → LiesAt m byte_at owns.seen new
  scan_lies own mine owns after e old new b outcome right at added event same =
      let lies : LiesAt m byte_at added.log old = disk_on m byte_at added.log own.seen own.has old right at added.fits in
      subst (λ l. LiesAt m byte_at l new) (sym added.own_seen)
      (known_after m byte_at added.log e (λ s u. u.bytes ≡ byte_at old) (λ s u. u.bytes ≡ byte_at new) lies (λ s sound u d tells h. scan_bytes s sound u e d b outcome event tells ∙ h ∙ sym same))

  -- what the caller knows
  pub read_known : (own mine owns after : View (Told K V P A D)) (e : Told K V P A D) (n : ℕ) (ticket : Ticket) (outcome : Result (Vec ℕ A) Error) → 0 < times (ticket_right n) mine.has
      → HasTicket m byte_at mine.seen n ticket ReadIssued → GoesOnWith (IsTold m byte_at) takes makes_ticket rights_count disk_right own mine e owns after → IsReadOf e n outcome → HasTicket m byte_at after.seen n ticket (ReadDone (came_of outcome))
  read_known own mine owns after e n ticket outcome has knows added event =
      let issued : HasTicket m byte_at added.log n ticket ReadIssued = ticket_on m byte_at added.log mine.seen mine.has n ticket has knows added.kept in
      subst (λ l. HasTicket m byte_at l n ticket (ReadDone (came_of outcome))) (sym added.seen)
      (known_after m byte_at added.log e (λ s u. (promise : Option (Event Content)) × HasLoad u n (ticket_of ticket) promise ReadIssued)
      (λ s u. (promise : Option (Event Content)) × HasLoad u n (ticket_of ticket) promise (ReadDone (came_of outcome))) issued
      (λ s sound u d tells h. (h.0, read_at m s sound byte_at u e d n outcome (ticket_of ticket) h.0 event tells h.1)))

  pub scan_known : (own mine owns after : View (Told K V P A D)) (e : Told K V P A D) (b : ℕ) (part : Part) (outcome : Result (Vec ℕ A) Error) → 0 < times (scan_right b) mine.has
      → HasScan m byte_at mine.seen b part ReadIssued → GoesOnWith (IsTold m byte_at) takes makes_ticket rights_count disk_right own mine e owns after → IsScanOf e b outcome → HasScan m byte_at after.seen b part (ReadDone (came_of outcome))
  scan_known own mine owns after e b part outcome has knows added event =
      let issued : HasScan m byte_at added.log b part ReadIssued = scan_on m byte_at added.log mine.seen mine.has b part has knows added.kept in
      subst (λ l. HasScan m byte_at l b part (ReadDone (came_of outcome))) (sym added.seen)
      (known_after m byte_at added.log e (λ s u. u.scans b ≡ Some (record { offset = part.offset; len = part.len; read_state = ReadIssued }))
      (λ s u. u.scans b ≡ Some (record { offset = part.offset; len = part.len; read_state = ReadDone (came_of outcome) })) issued
      (λ s sound u d tells h. scan_at s sound u e d b _ outcome event tells h refl))
