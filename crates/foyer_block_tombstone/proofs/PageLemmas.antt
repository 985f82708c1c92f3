-- The marks in the pages of a disk.
use Rattle.std.proofs.Common.{◌≡◌, ◌≢◌, ℕ, ◌+◌, ◌*◌, ◌/◌, ◌%◌, ◌<◌, ◌≤◌, inl, inr, List, length, slice_index, refl, sym, ap, ◌∙◌, subst, arith, Option, Some, None, Result, Ok, Err, OnOk, MatchResult}
use Rattle.foyer_block_index.specs.declared.tombstone.Tombstone.{Tombstone}
use Rattle.foyer_io_engine.specs.Disk.{Disk, IsOutside, IfKnown, Becomes}
use Rattle.foyer_block_tombstone.specs.Mark.{mark_at}
use Rattle.foyer_block_tombstone.specs.Pages.{Place, PageAt, locate, start_of, AreApart}
use Rattle.foyer_block_tombstone.specs.PageBytes.{HasPage, HoldsPage, IsPageWritten, IsOutsidePage, ChangesPages, mark_in, ring_on}
use Rattle.foyer_block_tombstone.specs.Ring.{IsPutAt}
use Rattle.foyer_block_tombstone.proofs.LocateLemmas.{PagesApart, pages_apart}
use Rattle.foyer_block_tombstone.proofs.NumberLemmas.{mark_same, mark_moved}
use Rattle.foyer_block_tombstone.proofs.RingLemmas.{put_as}

-- a page that was written holds what was written
pub written_holds : {d e : Disk} {ps : List Place} {n : ℕ} {bytes : List ℕ} → IsPageWritten d ps n bytes e → HoldsPage e ps n bytes
written_holds {d} {e} {ps} {n} {bytes} w = record {
  at = w.at;
  located = w.located;
  read = ((w.write.0.0, rw (w.write.1.1.0 w.at.extent.file) (w.write.0.1)), w.write.1.0);
}

-- and no other changed
pub written_changes : {d e : Disk} {ps : List Place} {n : ℕ} {bytes : List ℕ} → length bytes ≡ 4096 → IsPageWritten d ps n bytes e → ChangesPages d ps (λ m. m ≡ n) e
written_changes {d} {e} {ps} {n} {bytes} size w = record {
  len = w.write.1.1.0;
  byte = λ f o outside.
      let out : IsOutside w.at.extent.file (start_of w.at) 4096 f o = rw w.located at (outside n refl) in
      w.write.1.1.1 f o (rw size out);
}

-- the marks of a page whose bytes are known
pub ring_page : {d : Disk} {ps : List Place} {n : ℕ} {bytes : List ℕ} → HoldsPage d ps n bytes → length bytes ≡ 4096
    → (j : ℕ) → j < 256 → ring_on d ps (256 * n + j) ≡ mark_at (slice_index bytes) (16 * j)
unfolding ring_on
ring_page {d} {ps} {n} {bytes} h size j lt =
    let page : (256 * n + j) / 256 ≡ n = omega arith in
    let slot : (256 * n + j) % 256 ≡ j = omega arith in
    let start : ℕ = start_of h.at in
    let moved : mark_at (slice_index bytes) (16 * j) ≡ mark_at (d.byte h.at.extent.file) (start + 16 * j) =
    mark_moved (slice_index bytes) (d.byte h.at.extent.file) (16 * j) (start + 16 * j) (λ o low.
    let is : start + (16 * j + o) ≡ start + 16 * j + o = omega arith in
    h.read.1 (16 * j + o) (omega arith) ∙ ap (d.byte h.at.extent.file) is) in
    rw (page, slot, h.located) (sym moved)

-- marks depend on the bytes of their page alone
same_mark : (d e : Disk) (p : Option PageAt) (j : ℕ) → j < 256
    → ((at : PageAt) → p ≡ Some at → (o : ℕ) → start_of at ≤ o → o < start_of at + 4096 → e.byte at.extent.file o ≡ d.byte at.extent.file o)
    → mark_in e p j ≡ mark_in d p j
same_mark d e None j lt same = refl
same_mark d e (Some at) j lt same =
    mark_same (e.byte at.extent.file) (d.byte at.extent.file) (start_of at + 16 * j)
    (λ o low high. same at refl o (omega arith) (omega arith))

outside_of : (p : Option PageAt) (a : PageAt) (o : ℕ) → ((b : PageAt) → p ≡ Some b → PagesApart a b) → start_of a ≤ o → o < start_of a + 4096
    → IsOutsidePage p a.extent.file o
outside_of None a o apart low high = tt
outside_of (Some b) a o apart low high =
    elim (apart b refl) [
      | inl files ↦ inl files
      | inr (inl before) ↦ inr (inl (omega arith))
      | inr (inr behind) ↦ inr (inr (omega arith))
    ]

-- the marks of other pages stay
pub ring_kept : {d e : Disk} {ps : List Place} {n : ℕ} → AreApart ps → ChangesPages d ps (λ m. m ≡ n) e
    → (i : ℕ) → i / 256 ≢ n → ring_on e ps i ≡ ring_on d ps i
unfolding ring_on
ring_kept {d} {e} {ps} {n} apart changes i other =
    let slot : i % 256 < 256 = omega arith in
    same_mark d e (locate ps (i / 256)) (i % 256) slot (λ a here o low high.
    changes.byte a.extent.file o (λ m is.
    outside_of (locate ps m) a o (λ b there. pages_apart ps (i / 256) m a b apart.whole apart.disjoint here there (λ same. other (same ∙ is))) low high))

-- a page whose marks were put in memory, and that was written
pub page_put : {slots start : ℕ} {marks : List Tombstone} {d e : Disk} {ps : List Place} {n : ℕ} {old new : List ℕ}
    → HoldsPage d ps n old → length old ≡ 4096 → IsPageWritten d ps n new e → length new ≡ 4096
    → ((j : ℕ) → j < 256 → IsPutAt slots start marks (256 * n + j) (mark_at (slice_index old) (16 * j)) (mark_at (slice_index new) (16 * j)))
    → (j : ℕ) → j < 256 → IsPutAt slots start marks (256 * n + j) (ring_on d ps (256 * n + j)) (ring_on e ps (256 * n + j))
page_put {slots} {start} {marks} {d} {e} {ps} {n} {old} {new} before size written same put j lt =
    put_as (sym (ring_page before size j lt)) (sym (ring_page (written_holds written) same j lt)) (put j lt)

-- the same for a call that answers, if it answers Ok
pub put_written : {A X : Type 0} (slots start : ℕ) (marks : List Tombstone) (ps : List Place) (n : ℕ) (old new : List ℕ) (r : Result A X) (D E : Option Disk)
    → IfKnown D (λ d. HoldsPage d ps n old) → length old ≡ 4096 → length new ≡ 4096
    → Becomes D E (λ d e. MatchResult r (λ a. IsPageWritten d ps n new e) (λ x. ChangesPages d ps (λ m. m ≡ n) e))
    → ((j : ℕ) → j < 256 → IsPutAt slots start marks (256 * n + j) (mark_at (slice_index old) (16 * j)) (mark_at (slice_index new) (16 * j)))
    → OnOk r (Becomes D E (λ d e. (j : ℕ) → j < 256 → IsPutAt slots start marks (256 * n + j) (ring_on d ps (256 * n + j)) (ring_on e ps (256 * n + j))))
put_written slots start marks ps n old new (Err x) D E before size same written put = tt
put_written slots start marks ps n old new (Ok a) D E before size same written put = λ d known.
    let w = written d known in
    (w.0, w.1, page_put (before d known) size w.2 same put)

-- what is loaded then stands on the disk, if one is shown
pub written_fresh : {A X : Type 0} (ps : List Place) (n : ℕ) (new : List ℕ) (r : Result A X) (D E : Option Disk)
    → (D ≡ None → E ≡ None) → Becomes D E (λ d e. MatchResult r (λ a. IsPageWritten d ps n new e) (λ x. ChangesPages d ps (λ m. m ≡ n) e))
    → OnOk r (IfKnown E (λ e. HoldsPage e ps n new))
written_fresh ps n new (Err x) D E hidden written = tt
written_fresh ps n new (Ok a) None E hidden written = λ e known. let none : E ≡ None = hidden refl in let no : None ≡ Some e = sym none ∙ known in cc
written_fresh ps n new (Ok a) (Some d) E hidden written = λ e known.
    let w = written d refl in
    let both : Some w.0 ≡ Some e = sym w.1 ∙ known in
    let same : w.0 ≡ e = cc in
    let P : Disk → Type 0 = λ x. HoldsPage x ps n new in
    subst P same (written_holds w.2)

-- and no other page changed, whatever it answers
pub written_else : {A X : Type 0} (ps : List Place) (n : ℕ) (new : List ℕ) (r : Result A X) (D E : Option Disk) → length new ≡ 4096
    → Becomes D E (λ d e. MatchResult r (λ a. IsPageWritten d ps n new e) (λ x. ChangesPages d ps (λ m. m ≡ n) e))
    → Becomes D E (λ d e. ChangesPages d ps (λ m. m ≡ n) e)
written_else ps n new (Err x) D E size written = written
written_else ps n new (Ok a) D E size written = λ d known. let w = written d known in (w.0, w.1, written_changes size w.2)

-- a page that is there stays
pub has_later : {d e : Disk} {ps : List Place} {n : ℕ} {T : ℕ → Type 0} → ChangesPages d ps T e → HasPage d ps n → HasPage e ps n
has_later {d} {e} {ps} {n} {T} changes has = record {
  at = has.at;
  located = has.located;
  access = (has.access.0, rw (changes.len has.at.extent.file) (has.access.1));
}
