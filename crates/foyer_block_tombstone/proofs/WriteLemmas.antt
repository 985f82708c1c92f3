-- How many pages are written.
use Rattle.std.proofs.Common.{◌≡◌, ℕ, zero, suc, ◌+◌, ◌*◌, ◌/◌, ◌%◌, ◌^◌, ◌<◌, ◌≤◌, ◌⊎◌, inl, inr, refl, sym, ap, ◌∙◌, arith}
use Rattle.std.specs.Prelude.{min}
use Rattle.std.proofs.Math.Nat.{mod-add-mod, mod-mod_of_dvd, dvd-mul_right}
use Rattle.foyer_block_tombstone.specs.Ring.{IsTouched, touched}
use Rattle.foyer_block_tombstone.specs.Writes.{HasWritten, HasWrittenAtMost, AreSoMany}
use Rattle.foyer_block_tombstone.proofs.RoundLemmas.{le_or_lt, round_other}
use Rattle.foyer_block_tombstone.proofs.StageLemmas.{page_number, page_of_mark, touches}

-- as it is reckoned: all of them, or up to the last mark's
pub touched_all : (start count pages : ℕ) → 0 < pages → pages * 256 ≤ count → pages ≡ touched start count pages
unfolding touched
touched_all start zero pages some far = omega arith
touched_all start (suc n) pages some far = omega arith

pub touched_is : (start count pages : ℕ) → 0 < count → min pages ((start % 256 + count + 255) / 256) ≡ touched start count pages
unfolding touched
touched_is start zero pages some = omega arith
touched_is start (suc n) pages some = omega arith

pub touched_none : (start pages : ℕ) → touched start 0 pages ≡ 0
unfolding touched
touched_none start pages = refl

touched_few : (start count pages : ℕ) → touched start count pages ≤ pages
unfolding touched
touched_few start zero pages = omega arith
touched_few start (suc n) pages = omega arith

touched_reach : (start count pages : ℕ) → 0 < count → (touched start count pages ≡ pages) ⊎ (start % 256 + count ≤ 256 * touched start count pages)
unfolding touched
touched_reach start zero pages some = absurd (omega arith)
touched_reach start (suc n) pages some =
    elim (le_or_lt pages ((start % 256 + n) / 256 + 1)) [ inl le ↦ inl (omega arith) | inr lt ↦ inr (omega arith) ]

touched_each : (start count pages j : ℕ) → j < touched start count pages → (0 < count) × (256 * j < start % 256 + count)
unfolding touched
touched_each start zero pages j within = omega arith
touched_each start (suc n) pages j within = (omega arith, omega arith)

pub touched_many : (start count pages : ℕ) → 0 < pages → AreSoMany (IsTouched (256 * pages) start count) (touched start count pages)
touched_many start count pages some = record {
  nth = page_number pages start;
  each = λ j within. let e = touched_each start count pages j within in touches pages start count j some e.0 e.1;
  apart = λ i j less within. round_other (start / 256) i j pages less (omega (arith, within, touched_few start count pages));
  all = λ n is.
      let some_mark : 0 < count = omega (arith, is.1) in
      let m = page_of_mark pages start count (touched start count pages) is.0 some (touched_few start count pages)
      (touched_reach start count pages some_mark) is.1 in
      (m.0, m.1, m.2 ∙ is.2);
}

-- the slot at which marks begin counts modulo the slots
pub touched_modulo : (start count pages : ℕ) → touched (start % (256 * pages)) count pages ≡ touched start count pages
unfolding touched
touched_modulo start zero pages = refl
touched_modulo start (suc n) pages =
    let is : start % (256 * pages) % 256 ≡ start % 256 = mod-mod_of_dvd 256 start (dvd-mul_right 256 pages) in
    rw is refl

-- a page more
pub written_more : (old j now new : ℕ) → HasWritten old j now → HasWritten now 1 new → HasWritten old (j + 1) new
written_more old j now new first then =
    let is : old + (j + 1) ≡ old + j + 1 = omega arith in
    then ∙ ap (λ (n : ℕ). (n + 1) % 2 ^ 64) first ∙ mod-add-mod (old + j) (2 ^ 64) 1 ∙ ap (λ (n : ℕ). n % 2 ^ 64) (sym is)

pub written_none : (old : ℕ) → old < 2 ^ 64 → HasWritten old 0 old
written_none old few = omega arith

-- if the last page was refused
pub written_fault : (old j most now new : ℕ) → j < most → HasWritten old j now → (new ≡ now) ⊎ HasWritten now 1 new → HasWrittenAtMost old most new
written_fault old j most now new less first (inl same) = (j, omega arith, same ∙ first)
written_fault old j most now new less first (inr more) = (j + 1, omega arith, written_more old j now new first more)
