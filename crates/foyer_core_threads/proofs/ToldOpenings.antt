-- What is known once an opening is told.
use Rattle.std.proofs.Common.{◌≡◌, ℕ, ◌+◌, ◌<◌, List, [], ◌∷◌, refl, sym, ap, ◌∙◌, subst, arith}
use Rattle.foyer_block_recover.specs.Opening.{Opened}
use Rattle.foyer_block_recover.specs.Placed.{IsOpening}
use Rattle.foyer_block_recover.specs.declared.block.recover.RecoverMode.{RecoverMode}
use Rattle.foyer_core_chronicle.specs.Rights.{times, only, without}
use Rattle.foyer_core_chronicle.specs.SharedHistory.{newcomer, rights_of, with_only, with_others}
use Rattle.foyer_core_chronicle.specs.declared.View.{View}
use Rattle.foyer_core_chronicle.proofs.RightLemmas.{cut_out, cut_free, cut_whole}
use Rattle.foyer_core_model.specs.Ids.{ids}
use Rattle.foyer_core_laws.specs.Sizes.{AreValid, sizes_in}
use Rattle.foyer_core_laws.specs.Settings.{Settings}
use Rattle.foyer_core_steps.specs.Opened.{IsOpened, IsOpenedFrom}
use Rattle.foyer_core_laws.specs.Content.{Meaning}
use Rattle.foyer_core_steps.specs.declared.state.Core.{Core}
use Rattle.foyer_core_told.specs.declared.event.Told.{Told}
use Rattle.foyer_core_told.specs.declared.event.Told.TheVariants as told
use Rattle.foyer_core_told.specs.ToldSteps.{IsOpeningOf, IsLeft, IsDiskLeft}
use Rattle.foyer_core_told.specs.ToldLoads.{tickets_in}
use Rattle.foyer_core_told.specs.ToldRights.{core_right, disk_right, rights_count}
use Rattle.foyer_core_told.specs.Telling.{IsNew, WasOpened, HasOpened, StandsAt}
use Rattle.foyer_core_told.proofs.ToldRightLemmas.{rights_there}
use Rattle.foyer_core_told.proofs.ToldStepLemmas.{leaves, leaves_disk}
use Rattle.foyer_core_told.proofs.TellingLemmas.{not_empty}
use Rattle.foyer_io_told.specs.ToldAccess.{LiesAt}
use Rattle.foyer_core_threads.proofs.HistoryJoins.{ids_there}

only_there : (n : ℕ) (xs : List ℕ) → 0 < times n xs → 0 < times n (only n xs)
only_there n xs enough =
    let all : times n (only n xs) + times n (without n xs) ≡ times n xs = cut_out n n xs in let none : times n (without n xs) ≡ 0 = cut_whole n xs in omega arith

without_there : (n k : ℕ) (xs : List ℕ) → (k ≡ n → ⊥) → 0 < times k xs → 0 < times k (without n xs)
without_there n k xs apart enough =
    let all : times k (only n xs) + times k (without n xs) ≡ times k xs = cut_out n k xs in let none : times k (only n xs) ≡ 0 = cut_free n k xs apart in omega arith

-- a witness of nothing that has all rights is new
pub all_new : {K V P A D : Type 0} (v : View (Told K V P A D)) → v ≡ newcomer (ids rights_count) → IsNew v
all_new {K} {V} {P} {A} {D} v is =
    subst (λ (x : View (Told K V P A D)). IsNew x) (sym is) (refl, ids_there rights_count core_right rights_there.core, ids_there rights_count disk_right rights_there.disk)

-- What each has once the core's lock and the disk's have their rights.
pub record AreParted {E : Type 0} (w own of_disk rest : View E) : Type 0 where
  pub core : 0 < times core_right own.has
  pub disk : 0 < times disk_right of_disk.has
  pub others : (k : ℕ) → disk_right < k → k < rights_count → 0 < times k rest.has
  pub own_seen : own.seen ≡ w.seen
  pub disk_seen : of_disk.seen ≡ w.seen
  pub rest_seen : rest.seen ≡ w.seen

pub rights_parted : {E : Type 0} (w own between of_disk rest : View E) → w.has ≡ ids rights_count → own ≡ with_only core_right w → between ≡ with_others core_right w → of_disk ≡ with_only disk_right between
    → rest ≡ with_others disk_right between → AreParted w own of_disk rest
rights_parted {E} w own between of_disk rest all own_is between_is disk_is rest_is =
    let has : (k : ℕ) → k < rights_count → 0 < times k w.has = (λ k below. subst (λ l. 0 < times k l) (sym all) (ids_there rights_count k below)) in
    let left : (k : ℕ) → (k ≡ core_right → ⊥) → k < rights_count → 0 < times k between.has =
    (λ k apart below. subst (λ (v : View E). 0 < times k v.has) (sym between_is) (without_there core_right k w.has apart (has k below))) in
    let seen : between.seen ≡ w.seen = ap (λ (v : View E). v.seen) between_is in
    record {
      core = subst (λ (v : View E). 0 < times core_right v.has) (sym own_is) (only_there core_right w.has (has core_right rights_there.core));
      disk = subst (λ (v : View E). 0 < times disk_right v.has) (sym disk_is) (only_there disk_right between.has (left disk_right (λ same. absurd (omega (arith, same))) rights_there.disk));
      others = λ k above below.
          subst (λ (v : View E). 0 < times k v.has) (sym rest_is) (without_there disk_right k between.has (λ same. absurd (omega (arith, same, above))) (left k (λ same. absurd (omega (arith, same, above))) below));
      own_seen = ap (λ (v : View E). v.seen) own_is;
      disk_seen = ap (λ (v : View E). v.seen) disk_is ∙ seen;
      rest_seen = ap (λ (v : View E). v.seen) rest_is ∙ seen;
    }

-- a core that was opened from some bytes
pub was_opened : {K V P A : Type 0} (settings : Settings) (bytes : ℕ → ℕ → ℕ) (surely : ℕ → ℕ → ℕ → Type 0) (mode : RecoverMode) (marks : List (ℕ × ℕ)) (is_seen : Type 0) (core : Core K V P A) → AreValid settings
    → IsOpenedFrom settings bytes surely mode marks is_seen core → WasOpened core
was_opened settings bytes surely mode marks is_seen core sound from =
    subst (λ (s : Settings). AreValid s × ((ms : List (ℕ × ℕ)) × (o : Opened) × IsOpening (sizes_in s) s.blocks ms o × IsOpened s o core)) (sym from.opened.sizes) (sound, (marks, from.found, from.opening, from.opened))

module _ {K V P A D : Type 0} where
  pub opened_has : (v w : View (Told K V P A D)) (core : Core K V P A) (disk : D) → v ≡ newcomer (ids rights_count) → HasOpened v core disk w → w.has ≡ ids rights_count
  opened_has v w core disk is opened = ap (λ (x : View (Told K V P A D)). x.has) opened.2 ∙ ap (λ (x : View (Told K V P A D)). rights_of x) is

module _ {K V P A D : Type 0} (m : Meaning K V P) (byte_at : D → ℕ → ℕ → ℕ) where
  core_left : (e : Told K V P A D) (core : Core K V P A) (disk : D) → IsOpeningOf core disk e → IsLeft e core
  core_left (told.Opened opened over) core disk is = is.0
  core_left e core disk is = absurd is

  disk_left : (e : Told K V P A D) (core : Core K V P A) (disk : D) → IsOpeningOf core disk e → IsDiskLeft e disk
  disk_left (told.Opened opened over) core disk is = is.1
  disk_left e core disk is = absurd is

  no_ticket : (e : Told K V P A D) (core : Core K V P A) (disk : D) → IsOpeningOf core disk e → tickets_in (e ∷ []) ≡ 0
  no_ticket (told.Opened opened over) core disk is = refl
  no_ticket e core disk is = absurd is

  pub opened_seen : (v w : View (Told K V P A D)) (core : Core K V P A) (disk : D) → (opened : HasOpened v core disk w) → w.seen ≡ opened.0 ∷ []
  opened_seen v w core disk opened = ap (λ (x : View (Told K V P A D)). x.seen) opened.2

  pub opened_stands : (v w : View (Told K V P A D)) (core : Core K V P A) (disk : D) → HasOpened v core disk w → StandsAt m byte_at w.seen core
  opened_stands v w core disk opened =
      let seen = opened_seen v w core disk opened in
      subst (λ l. StandsAt m byte_at l core) (sym seen) (not_empty [] opened.0, λ s sound. leaves m s sound byte_at [] opened.0 core (core_left opened.0 core disk opened.1))

  pub opened_lies : (v w : View (Told K V P A D)) (core : Core K V P A) (disk : D) → HasOpened v core disk w → LiesAt m byte_at w.seen disk
  opened_lies v w core disk opened =
      let seen = opened_seen v w core disk opened in
      subst (λ l. LiesAt m byte_at l disk) (sym seen) (not_empty [] opened.0, λ s sound u run. leaves_disk m s sound byte_at [] opened.0 disk (disk_left opened.0 core disk opened.1) u run)

  pub opened_fresh : (v w : View (Told K V P A D)) (core : Core K V P A) (disk : D) → HasOpened v core disk w → tickets_in w.seen ≡ 0
  opened_fresh v w core disk opened = ap tickets_in (opened_seen v w core disk opened) ∙ no_ticket opened.0 core disk opened.1
