-- Pages into which marks are put, one after the other.
use Rattle.std.proofs.Common.{◌≡◌, ◌≢◌, ℕ, ◌+◌, ◌-◌, ◌*◌, ◌/◌, ◌%◌, ◌<◌, ◌≤◌, ◌⊎◌, inl, inr, List, length, refl, sym, ap, ◌∙◌, subst, arith, Option, Some}
use Rattle.std.proofs.Math.Nat.{mod-lt, mod-eq_of_lt, add-mod_right, add-mod-mod, mod-add-mod}
use Rattle.std.proofs.lemmas.List.{append-nil}
use Rattle.std.specs.Prelude.{slice_get}
use Rattle.foyer_block_index.specs.declared.tombstone.Tombstone.{Tombstone}
use Rattle.foyer_io_engine.specs.Disk.{Disk, Becomes}
use Rattle.foyer_block_tombstone.specs.Pages.{Place, AreApart}
use Rattle.foyer_block_tombstone.specs.PageBytes.{ChangesPages, ring_on}
use Rattle.foyer_block_tombstone.specs.Ring.{IsPut, IsPutAt, IsTouched, IsRead, GoesOnAt, no_mark}
use Rattle.foyer_block_tombstone.proofs.RoundLemmas.{le_or_lt, page_of_slot, reach_page, round_other}
use Rattle.foyer_block_tombstone.proofs.RingLemmas.{put_as}
use Rattle.foyer_block_tombstone.proofs.PageLemmas.{ring_kept}

-- the number of the page that is written as the j-th
abbrev pub page_number : (pages start j : ℕ) → ℕ
page_number pages start j = (start / 256 + j) % pages

-- the first j pages were written
pub record Stage (ps : List Place) (pages start : ℕ) (marks : List Tombstone) (j : ℕ) (d e : Disk) : Type 0 where
  pub changes : ChangesPages d ps (IsTouched (256 * pages) start (length marks)) e
  pub done : AreApart ps → (k : ℕ) → k < j → (i : ℕ) → i < 256 → IsPutAt (256 * pages) start marks (256 * page_number pages start k + i)
      (ring_on d ps (256 * page_number pages start k + i)) (ring_on e ps (256 * page_number pages start k + i))
  pub kept : AreApart ps → (i : ℕ) → ((k : ℕ) → k < j → page_number pages start k ≢ i / 256) → ring_on e ps i ≡ ring_on d ps i

pub stage_start : (ps : List Place) (pages start : ℕ) (marks : List Tombstone) (d : Disk) → Stage ps pages start marks 0 d d
stage_start ps pages start marks d = record {
  changes = record { len = λ f. refl; byte = λ f o outside. refl };
  done = λ apart k lt i li. absurd (omega arith);
  kept = λ apart i none. refl;
}

pub changes_more : {d e f : Disk} {ps : List Place} {n : ℕ} (T : ℕ → Type 0) → ChangesPages d ps T e → ChangesPages e ps (λ m. m ≡ n) f → T n → ChangesPages d ps T f
changes_more {d} {e} {f} {ps} {n} T first then touched = record {
  len = λ x. then.len x ∙ first.len x;
  byte = λ x o outside. then.byte x o (λ m is. let P : ℕ → Type 0 = λ k. T k in outside m (subst P (sym is) touched)) ∙ first.byte x o outside;
}

-- a page into which marks are put is one that they come into
pub touches : (pages start count j : ℕ) → 0 < pages → 0 < count → 256 * j < start % 256 + count → IsTouched (256 * pages) start count (page_number pages start j)
touches pages start count j some marks within =
    let k : ℕ = 256 * j - start % 256 in
    let is : (start + k) / 256 ≡ start / 256 + j = omega arith in
    (k, omega arith, page_of_slot (start + k) pages some ∙ ap (λ (n : ℕ). n % pages) is)

pub stage_next : (ps : List Place) (pages start : ℕ) (marks : List Tombstone) (j : ℕ) (d e f : Disk) → Stage ps pages start marks j d e → j < pages
    → IsTouched (256 * pages) start (length marks) (page_number pages start j)
    → ChangesPages e ps (λ m. m ≡ page_number pages start j) f
    → ((i : ℕ) → i < 256 → IsPutAt (256 * pages) start marks (256 * page_number pages start j + i)
    (ring_on e ps (256 * page_number pages start j + i)) (ring_on f ps (256 * page_number pages start j + i)))
    → Stage ps pages start marks (j + 1) d f
stage_next ps pages start marks j d e f s within touched changes put = record {
  changes = changes_more (IsTouched (256 * pages) start (length marks)) s.changes changes touched;
  done = λ apart k lt i li.
      elim (le_or_lt j k) [
        | inl le ↦
            let is : j ≡ k = omega arith in
            let n : ℕ = page_number pages start j in
            let page : (256 * n + i) / 256 ≡ n = omega arith in
            let kept : ring_on e ps (256 * n + i) ≡ ring_on d ps (256 * n + i) =
            s.kept apart (256 * n + i) (λ m lm same. round_other (start / 256) m j pages lm within (same ∙ page)) in
            let P : ℕ → Type 0 = λ m. IsPutAt (256 * pages) start marks (256 * page_number pages start m + i)
            (ring_on d ps (256 * page_number pages start m + i)) (ring_on f ps (256 * page_number pages start m + i)) in
            subst P is (put_as kept refl (put i li))
        | inr less ↦
            let n : ℕ = page_number pages start k in
            let page : (256 * n + i) / 256 ≡ n = omega arith in
            let kept : ring_on f ps (256 * n + i) ≡ ring_on e ps (256 * n + i) =
            ring_kept apart changes (256 * n + i) (λ same. round_other (start / 256) k j pages less within (sym page ∙ same)) in
            put_as refl (sym kept) (s.done apart k less i li)
      ];
  kept = λ apart i none.
      ring_kept apart changes i (λ same. none j (omega arith) (sym same)) ∙ s.kept apart i (λ k lt. none k (omega arith));
}

-- the page of a mark is among those that are written
pub page_of_mark : (pages start count touched k : ℕ) → 0 < pages → touched ≤ pages → (touched ≡ pages) ⊎ (start % 256 + count ≤ 256 * touched) → k < count
    → (m : ℕ) × (m < touched) × (page_number pages start m ≡ (start + k) % (256 * pages) / 256)
page_of_mark pages start count touched k some few reach lt =
    let m : ℕ = (start % 256 + k) / 256 in
    let is : (start + k) / 256 ≡ start / 256 + m = omega arith in
    let low : m % pages < touched =
    elim reach [
      | inl all ↦ let r : m % pages < pages = mod-lt m some in omega arith
      | inr far ↦ let l : m < touched = omega arith in let same : m % pages ≡ m = mod-eq_of_lt (omega arith) in omega arith
    ] in
    (m % pages, low, add-mod-mod (start / 256) m pages ∙ ap (λ (n : ℕ). n % pages) (sym is) ∙ sym (page_of_slot (start + k) pages some))

-- all marks are put once all these pages are written
pub stage_end : (ps : List Place) (pages start touched : ℕ) (marks : List Tombstone) (d e : Disk) → Stage ps pages start marks touched d e
    → 0 < pages → start < 256 * pages → touched ≤ pages → (touched ≡ pages) ⊎ (start % 256 + length marks ≤ 256 * touched)
    → AreApart ps → IsPut (256 * pages) (ring_on d ps) start marks (ring_on e ps)
stage_end ps pages start touched marks d e s some begin few reach apart = record {
  last = λ k lt later.
      let i : ℕ = (start + k) % (256 * pages) in
      let near : length marks ≤ k + 256 * pages =
      elim (le_or_lt (length marks) (k + 256 * pages)) [
        | inl le ↦ le
        | inr less ↦
            let is : start + (k + 256 * pages) ≡ start + k + 256 * pages = omega arith in
            absurd (later (k + 256 * pages) (omega arith) less (ap (λ (n : ℕ). n % (256 * pages)) is ∙ add-mod_right (start + k) (256 * pages)))
      ] in
      let found = page_of_mark pages start (length marks) touched k some few reach lt in
      let slot : 256 * page_number pages start found.0 + i % 256 ≡ i = omega (arith, found.2) in
      let put : IsPutAt (256 * pages) start marks i (ring_on d ps i) (ring_on e ps i) = rw slot at (s.done apart found.0 found.1 (i % 256) (omega arith)) in
      put.last k lt refl near;
  kept = λ i li none.
      let first : start / 256 < pages = omega arith in
      let page : i / 256 < pages = omega arith in
      let found = reach_page (start / 256) (i / 256) pages first page in
      elim (le_or_lt touched found.0) [
        | inl le ↦ s.kept apart i (λ k lt same. round_other (start / 256) k found.0 pages (omega arith) found.1 (same ∙ sym found.2))
        | inr lt ↦
            let slot : 256 * page_number pages start found.0 + i % 256 ≡ i = omega (arith, found.2) in
            let put : IsPutAt (256 * pages) start marks i (ring_on d ps i) (ring_on e ps i) = rw slot at (s.done apart found.0 lt (i % 256) (omega arith)) in
            put.kept none
      ];
}

-- the same of the disks that an engine shows before and after a page
pub stage_more : (ps : List Place) (pages start : ℕ) (marks : List Tombstone) (j : ℕ) (D C N : Option Disk) → j < pages
    → IsTouched (256 * pages) start (length marks) (page_number pages start j)
    → Becomes D C (λ d e. Stage ps pages start marks j d e)
    → Becomes C N (λ e f. ChangesPages e ps (λ m. m ≡ page_number pages start j) f)
    → Becomes C N (λ e f. (i : ℕ) → i < 256 → IsPutAt (256 * pages) start marks (256 * page_number pages start j + i)
    (ring_on e ps (256 * page_number pages start j + i)) (ring_on f ps (256 * page_number pages start j + i)))
    → Becomes D N (λ d f. Stage ps pages start marks (j + 1) d f)
stage_more ps pages start marks j D C N within touched stage changes put = λ d known.
    let s = stage d known in
    let w = changes s.0 s.1 in
    let p = put s.0 s.1 in
    let both : Some p.0 ≡ Some w.0 = sym p.1 ∙ w.1 in
    let same : p.0 ≡ w.0 = cc in
    let P : Disk → Type 0 = λ f. (i : ℕ) → i < 256 → IsPutAt (256 * pages) start marks (256 * page_number pages start j + i)
    (ring_on s.0 ps (256 * page_number pages start j + i)) (ring_on f ps (256 * page_number pages start j + i)) in
    (w.0, w.1, stage_next ps pages start marks j d s.0 w.0 s.2 within touched w.2 (subst P same p.2))

-- if the last page failed
pub stage_fault : (ps : List Place) (pages start : ℕ) (marks : List Tombstone) (j : ℕ) (D C N : Option Disk)
    → IsTouched (256 * pages) start (length marks) (page_number pages start j)
    → Becomes D C (λ d e. Stage ps pages start marks j d e)
    → Becomes C N (λ e f. ChangesPages e ps (λ m. m ≡ page_number pages start j) f)
    → Becomes D N (λ d f. ChangesPages d ps (IsTouched (256 * pages) start (length marks)) f)
stage_fault ps pages start marks j D C N touched stage changes = λ d known.
    let s = stage d known in
    let w = changes s.0 s.1 in
    (w.0, w.1, changes_more (IsTouched (256 * pages) start (length marks)) s.2.changes w.2 touched)

-- the slot at which marks begin counts modulo the slots
pub put_from : {slots : ℕ} {old : ℕ → Tombstone} {marks : List Tombstone} {new : ℕ → Tombstone} (start : ℕ)
    → IsPut slots old (start % slots) marks new → IsPut slots old start marks new
put_from {slots} {old} {marks} {new} start put = record {
  last = λ k lt later.
      let is : (start % slots + k) % slots ≡ (start + k) % slots = mod-add-mod start slots k in
      let P : ℕ → Type 0 = λ n. slice_get marks k ≡ Some (new n) in
      subst P is (put.last k lt (λ j after within same. later j after within (sym (mod-add-mod start slots j) ∙ same ∙ is)));
  kept = λ i within none. put.kept i within (λ k lt same. none k lt (sym (mod-add-mod start slots k) ∙ same));
}

pub touched_from : {d e : Disk} {ps : List Place} (slots start count : ℕ) → ChangesPages d ps (IsTouched slots (start % slots) count) e → ChangesPages d ps (IsTouched slots start count) e
touched_from {d} {e} {ps} slots start count changes = record {
  len = changes.len;
  byte = λ f o outside. changes.byte f o (λ n touched.
      outside n (touched.0, touched.1, ap (λ (m : ℕ). m / 256) (sym (mod-add-mod start slots touched.0)) ∙ touched.2));
}

-- where a log continues after all its slots were read
pub goes_on : (ring : ℕ → Tombstone) (n : ℕ) (base marks : List Tombstone) (newest : Tombstone) (slot : ℕ) → IsRead ring n base marks newest slot → GoesOnAt ring n slot newest
goes_on ring n base marks newest slot read =
    elim read.next [
      | inl none ↦
          let zero_is : newest.sequence ≡ 0 = ap (λ (m : Tombstone). m.sequence) none.0 in
          inl (λ i within. let le : (ring i).sequence ≤ newest.sequence = read.greatest i within in omega (arith, zero_is, le), none.1, none.0)
      | inr some ↦
          let is : (ring some.0).sequence ≡ newest.sequence = ap (λ (m : Tombstone). m.sequence) some.4 in
          inr (
            some.0,
            record {
              within = some.1;
              filled = omega (arith, some.3, is);
              before = λ j within. let le : (ring j).sequence ≤ newest.sequence = read.greatest j within in omega (arith, le, is);
              behind = λ j after within. let lt : (ring j).sequence < newest.sequence = some.5 j after within in omega (arith, lt, is);
            },
            some.2,
            some.4,
          )
    ]

-- before any slot was read
pub read_none : (ring : ℕ → Tombstone) (base : List Tombstone) → IsRead ring 0 base base no_mark 1
read_none ring base = record {
  listed = sym (append-nil base);
  greatest = λ j within. absurd (omega arith);
  next = inl (refl, refl);
}
