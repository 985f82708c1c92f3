-- A mark behind what was found.
use Rattle.std.proofs.Common.{◌≡◌, ℕ, ◌+◌, ◌<◌, ◌≤◌, ◌==◌, ◌&&◌, nat_le, max, Bool, true, false, if◌then◌else◌, cond, IsTrue, ◌↔◌, Option, Some, None, List, [], ◌∷◌, ◌++◌, length, take, get_or, refl, sym, ap, subst, ◌∙◌, append_assoc, option_and_then}
use Rattle.std.specs.Bool.{OnTrue}
use Rattle.std.specs.Cmp.{nat_cmp_total, unsigned_tied}
use Rattle.std.specs.FinMap as finite
use Rattle.std.specs.FinMap.{get-remove}
use Rattle.std.proofs.lemmas.Bool.{eqb-true, eqb-false}
use Rattle.std.proofs.lemmas.List.{take_more}
use Rattle.foyer_block_index.specs.declared.indexer.EntryAddress.{EntryAddress}
use Rattle.foyer_block_index.specs.declared.indexer.Index.{Index}
use Rattle.foyer_block_index.specs.declared.indexer.Index.TheVariants.{Address, Tombstone}
use Rattle.foyer_block_index.specs.declared.tombstone.Tombstone.{Tombstone as Mark}
use Rattle.foyer_block_index.specs.Index.{IndexMap, address_of, address_at}
use Rattle.foyer_block_recover.specs.BlocksKept.{entry_at, addressed_by, is_older, IsWithoutOlder, HoldsFound}
use Rattle.foyer_block_recover.specs.Opening.{Found, Stands, Marked, winner, all_marked}
use Rattle.foyer_block_recover.specs.Recovery.{marks_of}
use Rattle.foyer_block_recover.specs.declared.block.blocks.BlocksRead.{BlocksRead}
use Rattle.foyer_block_recover.proofs.FoundLemmas.{last_or, winner_push, greatest_push, le_is}

module _ (m : IndexMap) (hash sequence : ℕ) where
  has_address : (a : EntryAddress) → (o : Option Index) → option_and_then address_of o ≡ Some a → o ≡ Some (Address a)
  has_address a None e = absurd (cc)
  has_address a (Some (Address b)) e = let same : b ≡ a = cc in ap (λ x. Some (Address x)) same
  has_address a (Some (Tombstone s)) e = absurd (cc)

  -- an address that isn't newer than the mark goes
  pub goes_older : (new : IndexMap) (a : EntryAddress) (removed : Bool) → address_at m hash ≡ Some a → a.sequence ≤ sequence
      → (IsTrue removed ↔ (finite.get m hash ≡ Some (Address a))) → OnTrue removed (new ≡ finite.remove m hash) → IsWithoutOlder m new hash sequence
  goes_older new a removed at below is gone q =
      ap (λ (k : IndexMap). finite.get k q) (taken removed (is.1 there) gone) ∙ get-remove nat_cmp_total m hash q
      ∙ ap (λ b. cond b None (finite.get m q)) (unsigned_tied q hash) ∙ go (q == hash) refl
    where
      there : finite.get m hash ≡ Some (Address a)
      there = has_address a (finite.get m hash) at

      taken : (r : Bool) → IsTrue r → OnTrue r (new ≡ finite.remove m hash) → new ≡ finite.remove m hash
      taken true t e = e
      taken false t e = absurd (cc)

      go : (t : Bool) → (q == hash) ≡ t → cond t None (finite.get m q) ≡ (if t && is_older (finite.get m q) sequence then None else finite.get m q)
      go true e =
          let older : is_older (finite.get m q) sequence ≡ true =
          ap (λ k. is_older (finite.get m k) sequence) (eqb-true q hash e) ∙ ap (λ o. is_older o sequence) there ∙ le_is a.sequence sequence below in
          ap (λ (t : Bool). if t then None else finite.get m q) (sym older)
      go false e = refl

-- an index with one mark more
mark_wins : (w : Option Found) (h s : ℕ) → (if is_older (addressed_by w) s then None else addressed_by w) ≡ addressed_by (Some (last_or w (Marked h s)))
mark_wins None h s = refl
mark_wins (Some (Marked g t)) h s = go (nat_le t s)
  where
    go : (u : Bool) → None ≡ addressed_by (Some (if u then Marked h s else Marked g t))
    go true = refl
    go false = refl
mark_wins (Some (Stands b e)) h s = go (nat_le e.sequence s)
  where
    go : (u : Bool) → (if u then None else Some (Address (entry_at b e))) ≡ addressed_by (Some (if u then Marked h s else Stands b e))
    go true = refl
    go false = refl

mark_push : (old new : IndexMap) (found : List Found) (h s : ℕ) → ((q : ℕ) → finite.get old q ≡ addressed_by (winner q found)) → IsWithoutOlder old new h s
    → (q : ℕ) → finite.get new q ≡ addressed_by (winner q (found ++ Marked h s ∷ []))
mark_push old new found h s holds without q = without q ∙ go (q == h) refl (h == q) refl ∙ ap addressed_by (sym (winner_push q found (Marked h s)))
  where
    go : (t : Bool) → (q == h) ≡ t → (u : Bool) → (h == q) ≡ u
        → (if t && is_older (finite.get old q) s then None else finite.get old q) ≡ addressed_by (if u then Some (last_or (winner q found) (Marked h s)) else winner q found)
    go true e true f = ap (λ o. if is_older o s then None else o) (holds q) ∙ mark_wins (winner q found) h s
    go true e false f = absurd (eqb-false h q f (sym (eqb-true q h e)))
    go false e true f = absurd (eqb-false q h e (sym (eqb-true h q f)))
    go false e false f = holds q

marks_both : (xs ys : List Mark) → all_marked (marks_of (xs ++ ys)) ≡ all_marked (marks_of xs) ++ all_marked (marks_of ys)
marks_both [] ys = refl
marks_both (x ∷ xs) ys = ap (λ l. Marked x.hash x.sequence ∷ l) (marks_both xs ys)

module _ {A : Type 0} where
  pub marked_more : (first old new : BlocksRead A) (marks : List Mark) (i : ℕ) (d : Mark) → i < length marks
      → new.greatest ≡ max old.greatest (get_or marks i d).sequence → IsWithoutOlder old.index.slots new.index.slots (get_or marks i d).hash (get_or marks i d).sequence
      → ((found : List Found) → HoldsFound first found → HoldsFound old (found ++ all_marked (marks_of (take i marks))))
      → (found : List Found) → HoldsFound first found → HoldsFound new (found ++ all_marked (marks_of (take (i + 1) marks)))
  marked_more first old new marks i d within greatest_is without before found holds =
      subst (HoldsFound new) all (record {
        index = mark_push old.index.slots new.index.slots so_far mark.hash mark.sequence was.index without;
        greatest = greatest_is ∙ ap (λ n. max n mark.sequence) was.greatest ∙ sym (greatest_push so_far (Marked mark.hash mark.sequence));
      })
    where
      mark : Mark
      mark = get_or marks i d

      so_far : List Found
      so_far = found ++ all_marked (marks_of (take i marks))

      was : HoldsFound old so_far
      was = before found holds

      all : so_far ++ Marked mark.hash mark.sequence ∷ [] ≡ found ++ all_marked (marks_of (take (i + 1) marks))
      all = append_assoc found (all_marked (marks_of (take i marks))) (Marked mark.hash mark.sequence ∷ [])
          ∙ ap (λ l. found ++ l) (sym (marks_both (take i marks) (mark ∷ [])))
          ∙ ap (λ l. found ++ all_marked (marks_of l)) (sym (take_more marks i d within))
