-- Marks that are put into a ring.
use Rattle.std.proofs.Common.{◌≡◌, ◌≢◌, ℕ, ◌+◌, ◌*◌, ◌%◌, ◌<◌, ◌≤◌, ◌⊎◌, inl, inr, List, length, refl, sym, ap, ◌∙◌, subst, arith, Some}
use Rattle.std.specs.Prelude.{slice_get}
use Rattle.foyer_block_index.specs.declared.tombstone.Tombstone.{Tombstone}
use Rattle.foyer_block_tombstone.specs.Mark.{mark_at}
use Rattle.foyer_block_tombstone.specs.Ring.{IsPutAt}
use Rattle.foyer_block_tombstone.proofs.RoundLemmas.{round_same, le_or_lt}
use Rattle.foyer_block_tombstone.proofs.NumberLemmas.{mark_same}

-- the last mark that comes to a slot is put there
pub put_here : (slots start slot k : ℕ) (marks : List Tombstone) (old new : Tombstone) → k < length marks → (start + k) % slots ≡ slot
    → length marks ≤ k + slots → slice_get marks k ≡ Some new → IsPutAt slots start marks slot old new
put_here slots start slot k marks old new lt lands last is = record {
  last = λ j within here near.
      let same : k ≡ j = round_same start k j slots (length marks) (lands ∙ sym here) lt within last near in
      ap (slice_get marks) (sym same) ∙ is;
  kept = λ none. absurd (none k lt lands);
}

-- a slot that no mark comes to keeps its own
pub put_nowhere : (slots start slot : ℕ) (marks : List Tombstone) (mark : Tombstone) → ((k : ℕ) → k < length marks → (start + k) % slots ≢ slot)
    → IsPutAt slots start marks slot mark mark
put_nowhere slots start slot marks mark none = record {
  last = λ k within here near. absurd (none k within here);
  kept = λ clear. refl;
}

pub put_as : {slots start slot : ℕ} {marks : List Tombstone} {old new then now : Tombstone} → old ≡ then → new ≡ now → IsPutAt slots start marks slot old new
    → IsPutAt slots start marks slot then now
put_as {slots} {start} {slot} {marks} {old} {new} {then} {now} before after put = record {
  last = λ k within here near. put.last k within here near ∙ ap Some after;
  kept = λ none. sym after ∙ put.kept none ∙ before;
}

-- one slot more of a page
pub put_next : (slots start page j : ℕ) (marks : List Tombstone) (A B C : ℕ → ℕ)
    → ((i : ℕ) → i < j → IsPutAt slots start marks (256 * page + i) (mark_at A (16 * i)) (mark_at B (16 * i)))
    → ((o : ℕ) → 16 * j ≤ o → B o ≡ A o)
    → IsPutAt slots start marks (256 * page + j) (mark_at B (16 * j)) (mark_at C (16 * j))
    → ((o : ℕ) → (o < 16 * j) ⊎ (16 * j + 16 ≤ o) → C o ≡ B o)
    → (i : ℕ) → i < j + 1 → IsPutAt slots start marks (256 * page + i) (mark_at A (16 * i)) (mark_at C (16 * i))
put_next slots start page j marks A B C done rest put others i lt =
    elim (le_or_lt j i) [
      | inl le ↦
          let is : j ≡ i = omega arith in
          let here : IsPutAt slots start marks (256 * page + j) (mark_at A (16 * j)) (mark_at C (16 * j)) =
          put_as (mark_same B A (16 * j) (λ o low high. rest o low)) refl put in
          let P : ℕ → Type 0 = λ n. IsPutAt slots start marks (256 * page + n) (mark_at A (16 * n)) (mark_at C (16 * n)) in
          subst P is here
      | inr less ↦ put_as refl (mark_same B C (16 * i) (λ o low high. sym (others o (inl (omega arith))))) (done i less)
    ]
