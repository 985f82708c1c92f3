-- How a session goes on: what it had seen, its rights, and the sizes that it knows.
use Rattle.std.proofs.Common.{◌≡◌, ◌⊎◌, inl, inr, ℕ, ◌<◌, Bool, [], ◌∷◌, ◌++◌, Result, sym, ap, ◌∙◌, subst, append_assoc, append-nil}
use Rattle.std.specs.declared.vec.Vec.{Vec}
use Rattle.foyer_device_page.specs.declared.error.Error.{Error}
use Rattle.foyer_core_chronicle.specs.Rights.{times}
use Rattle.foyer_core_chronicle.specs.declared.View.{View}
use Rattle.foyer_core_model.specs.World.{World}
use Rattle.foyer_core_laws.specs.Content.{Content, Meaning}
use Rattle.foyer_core_laws.specs.Sizes.{AreValid}
use Rattle.foyer_core_laws.specs.Settings.{Settings}
use Rattle.foyer_core_steps.specs.declared.reply.Reply.{Reply}
use Rattle.foyer_core_steps.specs.declared.step.Step.{Step}
use Rattle.foyer_core_told.specs.declared.event.Told.{Told}
use Rattle.foyer_core_told.specs.declared.event.Told.TheVariants as told
use Rattle.foyer_core_told.specs.ToldLoads.{IsReadOf}
use Rattle.foyer_core_told.specs.ToldRuns.{Opens}
use Rattle.foyer_core_told.specs.Telling.{IsStep, HasGoneOn, HasStepped}
use Rattle.foyer_io_told.specs.ToldAccess.{IsCleanOf, IsScanOf, IsWriteOf}
use Rattle.foyer_core_threads.specs.Asking.{HasSizes}
use Rattle.foyer_io_told.proofs.ToldAccessLemmas.{known_on}
use Rattle.foyer_core_threads.specs.Going.{GoesOn}
use Rattle.foyer_core_threads.specs.Sessions.{HasJoined}
use Rattle.foyer_core_threads.proofs.LoadLemmas.{opens_no_step}
use Rattle.foyer_core_threads.proofs.ReclaimLemmas.{sizes_stay}

module _ {K V P A D : Type 0} (m : Meaning K V P) (byte_at : D → ℕ → ℕ → ℕ) where
  pub same_on : (mine after : View (Told K V P A D)) → after ≡ mine → GoesOn m byte_at mine after
  same_on mine after same = record {
    more = [];
    seen = ap (λ v. v.seen) same ∙ sym (append-nil mine.seen);
    rights = λ k above had. subst (λ (v : View (Told K V P A D)). 0 < times k v.has) (sym same) had;
    sizes = λ sizes knows. subst (λ (v : View (Told K V P A D)). HasSizes m byte_at v.seen sizes) (sym same) knows;
  }

  pub on_on : (mine then after : View (Told K V P A D)) → GoesOn m byte_at mine then → GoesOn m byte_at then after → GoesOn m byte_at mine after
  on_on mine then after first next = record {
    more = first.more ++ next.more;
    seen = next.seen ∙ ap (λ l. l ++ next.more) first.seen ∙ append_assoc mine.seen first.more next.more;
    rights = λ k above had. next.rights k above (first.rights k above had);
    sizes = λ sizes knows. next.sizes sizes (first.sizes sizes knows);
  }

  -- by an event of its own that is no opening
  pub gone_on : (mine after : View (Told K V P A D)) (Is : Told K V P A D → Type 0) → HasGoneOn m byte_at mine after Is
      → ((s : Settings) (sound : AreValid s) (e : Told K V P A D) (w : World Content) → Is e → Opens m s sound byte_at e w → ⊥) → GoesOn m byte_at mine after
  gone_on mine after Is gone none = record {
    more = gone.kept.0 ++ gone.event ∷ [];
    seen = gone.seen ∙ ap (λ l. l ++ gone.event ∷ []) gone.kept.1 ∙ append_assoc mine.seen gone.kept.0 (gone.event ∷ []);
    rights = gone.rights;
    sizes = λ sizes knows. sizes_stay m byte_at mine after Is sizes gone none knows;
  }

  pub stepped_on : (mine after : View (Told K V P A D)) (step : Step K V P A) (answer : Reply K V P A) (n : ℕ) → HasStepped m byte_at mine after step answer n → GoesOn m byte_at mine after
  stepped_on mine after step answer n stepped =
      gone_on mine after (IsStep step answer) stepped.gone (λ s sound e w is. opens_no_step m byte_at s sound step answer e w is)

  -- or by none, if no memory was found for its note
  pub asked_on : {X Y : Type 0} (mine after : View (Told K V P A D)) (step : Step K V P A) (answer : Reply K V P A) (n : ℕ) (Same : Type 0) → (Same → after ≡ mine)
      → HasStepped m byte_at mine after step answer n ⊎ (X × Y × Same) → GoesOn m byte_at mine after
  asked_on mine after step answer n Same seen (inl stepped) = stepped_on mine after step answer n stepped
  asked_on mine after step answer n Same seen (inr none) = same_on mine after (seen none.2)

  -- by an access
  write_opens : (s : Settings) (sound : AreValid s) (f : ℕ) (ok : Bool) (disk : D) (e : Told K V P A D) (w : World Content) → IsWriteOf e f ok disk → Opens m s sound byte_at e w → ⊥
  write_opens s sound f ok disk (told.Writes flusher well left) w is opens = opens
  write_opens s sound f ok disk e w is opens = is

  clean_opens : (s : Settings) (sound : AreValid s) (b : ℕ) (ok : Bool) (disk : D) (e : Told K V P A D) (w : World Content) → IsCleanOf e b ok disk → Opens m s sound byte_at e w → ⊥
  clean_opens s sound b ok disk (told.Cleans block well left) w is opens = opens
  clean_opens s sound b ok disk e w is opens = is

  scan_opens : (s : Settings) (sound : AreValid s) (b : ℕ) (outcome : Result (Vec ℕ A) Error) (e : Told K V P A D) (w : World Content) → IsScanOf e b outcome → Opens m s sound byte_at e w → ⊥
  scan_opens s sound b outcome (told.Scans block gave) w is opens = opens
  scan_opens s sound b outcome e w is opens = is

  read_opens : (s : Settings) (sound : AreValid s) (n : ℕ) (outcome : Result (Vec ℕ A) Error) (e : Told K V P A D) (w : World Content) → IsReadOf e n outcome → Opens m s sound byte_at e w → ⊥
  read_opens s sound n outcome (told.Reads number gave) w is opens = opens
  read_opens s sound n outcome e w is opens = is

  pub write_on : (mine after : View (Told K V P A D)) (f : ℕ) (ok : Bool) (disk : D) → HasGoneOn m byte_at mine after (λ e. IsWriteOf e f ok disk) → GoesOn m byte_at mine after
  write_on mine after f ok disk gone = gone_on mine after (λ e. IsWriteOf e f ok disk) gone (λ s sound e w is. write_opens s sound f ok disk e w is)

  pub clean_on : (mine after : View (Told K V P A D)) (b : ℕ) (ok : Bool) (disk : D) → HasGoneOn m byte_at mine after (λ e. IsCleanOf e b ok disk) → GoesOn m byte_at mine after
  clean_on mine after b ok disk gone = gone_on mine after (λ e. IsCleanOf e b ok disk) gone (λ s sound e w is. clean_opens s sound b ok disk e w is)

  pub scan_on : (mine after : View (Told K V P A D)) (b : ℕ) (outcome : Result (Vec ℕ A) Error) → HasGoneOn m byte_at mine after (λ e. IsScanOf e b outcome) → GoesOn m byte_at mine after
  scan_on mine after b outcome gone = gone_on mine after (λ e. IsScanOf e b outcome) gone (λ s sound e w is. scan_opens s sound b outcome e w is)

  pub read_on : (mine after : View (Told K V P A D)) (n : ℕ) (outcome : Result (Vec ℕ A) Error) → HasGoneOn m byte_at mine after (λ e. IsReadOf e n outcome) → GoesOn m byte_at mine after
  read_on mine after n outcome gone = gone_on mine after (λ e. IsReadOf e n outcome) gone (λ s sound e w is. read_opens s sound n outcome e w is)

  -- by what another session had seen
  pub joined_on : (mine other after : View (Told K V P A D)) → HasJoined m byte_at mine other after → GoesOn m byte_at mine after
  joined_on mine other after joins = record {
    more = joins.kept.0;
    seen = joins.kept.1;
    rights = λ k above had. joins.rights k had;
    sizes = λ sizes knows. known_on m byte_at mine.seen mine.has (λ s w. s ≡ sizes) after.seen knows joins.kept (λ s w u keeps h. h);
  }
