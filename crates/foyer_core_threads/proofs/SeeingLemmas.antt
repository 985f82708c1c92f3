-- The core's lock and a session see the whole history as it is, and no event is added.
use Rattle.std.proofs.Common.{◌≡◌, ℕ, ◌+◌, ◌<◌, List, ◌++◌, sym, ap, ◌∙◌, subst, arith}
use Rattle.foyer_core_chronicle.specs.Rights.{times, only, without}
use Rattle.foyer_core_chronicle.specs.SharedHistory.{Continues, Fits, SeesAll, joined, rights_of, with_only, with_others, with_rights}
use Rattle.foyer_core_chronicle.specs.declared.View.{View}
use Rattle.foyer_core_chronicle.proofs.RightLemmas.{times_append, cut_out, cut_free, cut_whole}
use Rattle.foyer_core_laws.specs.Content.{Meaning}
use Rattle.foyer_core_steps.specs.StateOf.{IsStateOf}
use Rattle.foyer_core_steps.specs.declared.state.Core.{Core}
use Rattle.foyer_core_told.specs.declared.event.Told.{Told}
use Rattle.foyer_core_told.specs.ToldLoads.{tickets_in}
use Rattle.foyer_core_told.specs.ToldRights.{core_right, takes}
use Rattle.foyer_core_told.specs.ToldRuns.{IsTold}
use Rattle.foyer_core_told.specs.ToldSteps.{AreAccesses}
use Rattle.foyer_core_told.specs.Telling.{KeepsRights, StandsAt}
use Rattle.foyer_core_told.proofs.TellingLemmas.{tickets_still}
use Rattle.foyer_core_told.proofs.ToldRightLemmas.{excluded}
use Rattle.foyer_io_told.proofs.ToldAccessLemmas.{known_on}
use Rattle.foyer_core_threads.specs.Asking.{HasSizes}
use Rattle.foyer_core_threads.specs.Going.{GoesOn}
use Rattle.foyer_core_threads.specs.Queued.{AreNoted, Noted}
use Rattle.foyer_core_threads.proofs.NotedLemmas.{noted_still}

module _ {K V P A D : Type 0} (m : Meaning K V P) (byte_at : D → ℕ → ℕ → ℕ) where
  -- What both have seen then, and that each has the rights that it had.
  pub record HaveSeen (own mine owns has : View (Told K V P A D)) : Type 0 where
    pub log : List (Told K V P A D)
    pub fits : Continues takes log own.seen own.has
    pub kept : Continues takes log mine.seen mine.has
    pub own_seen : owns.seen ≡ log
    pub seen : has.seen ≡ log
    pub right : 0 < times core_right own.has → 0 < times core_right owns.has
    pub rights : KeepsRights mine.has has.has

  pub have_seen : (own mine both all owns has : View (Told K V P A D)) → both ≡ joined own (with_rights mine) → SeesAll (IsTold m byte_at) takes both all → owns ≡ with_only core_right all → has ≡ with_others core_right all
      → HaveSeen own mine owns has
  have_seen own mine both all owns has is sees owns_is has_is =
      let fits : Fits takes sees.log (joined own (with_rights mine)) = subst (Fits takes sees.log) is sees.fits in
      let seen : all.seen ≡ sees.log = ap (λ (v : View (Told K V P A D)). v.seen) sees.is in
      let whole : all.has ≡ mine.has ++ own.has = ap (λ (v : View (Told K V P A D)). v.has) sees.is ∙ ap (λ (v : View (Told K V P A D)). rights_of v) is in
      let count : (k : ℕ) → times k all.has ≡ times k mine.has + times k own.has = (λ k. ap (times k) whole ∙ times_append k mine.has own.has) in
      record {
        log = sees.log;
        fits = fits.0;
        kept = fits.1;
        own_seen = ap (λ (v : View (Told K V P A D)). v.seen) owns_is ∙ seen;
        seen = ap (λ (v : View (Told K V P A D)). v.seen) has_is ∙ seen;
        right = λ enough.
            let c = count core_right in
            let out : times core_right (only core_right all.has) + times core_right (without core_right all.has) ≡ times core_right all.has = cut_out core_right core_right all.has in
            let none : times core_right (without core_right all.has) ≡ 0 = cut_whole core_right all.has in
            subst (λ (v : View (Told K V P A D)). 0 < times core_right v.has) (sym owns_is) (omega arith);
        rights = λ k above enough.
            let c = count k in
            let out : times k (only core_right all.has) + times k (without core_right all.has) ≡ times k all.has = cut_out core_right k all.has in
            let none : times k (only core_right all.has) ≡ 0 = cut_free core_right k all.has (λ same. absurd (omega (arith, same, above))) in
            subst (λ (v : View (Told K V P A D)). 0 < times k v.has) (sym has_is) (omega arith);
      }

  module _ (own mine owns has : View (Told K V P A D)) (seen : HaveSeen own mine owns has) where
    -- the session goes on
    pub sees_on : GoesOn m byte_at mine has
    sees_on = record {
      more = seen.kept.0;
      seen = seen.seen ∙ seen.kept.1;
      rights = seen.rights;
      sizes = λ sizes knows. subst (λ l. HasSizes m byte_at l sizes) (sym seen.seen) (known_on m byte_at mine.seen mine.has (λ s w. s ≡ sizes) seen.log knows seen.kept (λ s w u keeps h. h));
    }

    -- and the core stands for what its lock has seen
    pub sees_core : (core : Core K V P A) → 0 < times core_right own.has → StandsAt m byte_at own.seen core → StandsAt m byte_at owns.seen core
    sees_core core right stands =
        subst (λ l. StandsAt m byte_at l core) (sym seen.own_seen)
        (known_on m byte_at own.seen own.has (λ s u. IsStateOf m s core u.core) seen.log stands seen.fits (λ s w u keeps h. subst (IsStateOf m s core) (sym (keeps.core (seen.fits.2 core_right right))) h))

    only_accesses : 0 < times core_right own.has → AreAccesses seen.fits.0
    only_accesses right = (excluded seen.fits.0).accesses (seen.fits.2 core_right right)

    pub sees_tickets : 0 < times core_right own.has → tickets_in owns.seen ≡ tickets_in own.seen
    sees_tickets right = ap tickets_in (seen.own_seen ∙ seen.fits.1) ∙ tickets_still m byte_at own.seen seen.fits.0 (only_accesses right)

    pub sees_noted : (noted : Noted) → 0 < times core_right own.has → AreNoted noted own.seen → AreNoted noted owns.seen
    sees_noted noted right are = noted_still noted own.seen seen.fits.0 owns.seen are (only_accesses right) (seen.own_seen ∙ seen.fits.1)
