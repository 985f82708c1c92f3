-- Notes in chunks: one more, a chunk that is full, and the one at a place.
use Rattle.std.proofs.Common.{◌≡◌, ℕ, zero, suc, ◌+◌, ◌-◌, ◌<◌, ◌≤◌, List, [], ◌∷◌, ◌++◌, length, drop, slice_get, slice_index_or, refl, sym, ap, ◌∙◌, arith}
use Rattle.std.proofs.Math.ListN.{drop_of_length-le}
use Rattle.std.proofs.lemmas.List.{append-nil, append_assoc, drop_more}
use Rattle.std.specs.declared.vec.Vec.{Vec}
use Rattle.foyer_core_shared.specs.Chunks.{all_of}

module _ {X A : Type 0} where
  pub one_more : (chunks : List (Vec X A)) (last : List X) (x : X) → all_of chunks (last ++ x ∷ []) ≡ all_of chunks last ++ x ∷ []
  one_more [] last x = refl
  one_more (c ∷ cs) last x = ap (λ l. c.items ++ l) (one_more cs last x) ∙ sym (append_assoc c.items (all_of cs last) (x ∷ []))

  pub chunk_full : (chunks : List (Vec X A)) (c : Vec X A) → all_of (chunks ++ c ∷ []) [] ≡ all_of chunks c.items
  chunk_full [] c = append-nil c.items
  chunk_full (d ∷ ds) c = ap (λ l. d.items ++ l) (chunk_full ds c)

-- an element of the first list, and one of the second
pub got_first : {X : Type 0} (xs ys : List X) (i : ℕ) → i < length xs → slice_get (xs ++ ys) i ≡ slice_get xs i
got_first [] ys i lt = absurd (omega (arith, lt))
got_first (x ∷ xs) ys zero lt = refl
got_first (x ∷ xs) ys (suc i) lt = got_first xs ys i (omega (arith, lt))

pub got_later : {X : Type 0} (xs ys : List X) (i : ℕ) → length xs ≤ i → slice_get (xs ++ ys) i ≡ slice_get ys (i - length xs)
got_later [] ys i le = let same : i ≡ i - 0 = omega arith in ap (slice_get ys) same
got_later (x ∷ xs) ys zero le = absurd (omega (arith, le))
got_later (x ∷ xs) ys (suc i) le =
    let same : i - length xs ≡ suc i - suc (length xs) = omega arith in
    got_later xs ys i (omega (arith, le)) ∙ ap (slice_get ys) same

module _ {X A : Type 0} (chunks : List (Vec X A)) (last : List X) where
  -- of the chunks that are left the first has it
  pub in_chunk : (j left : ℕ) (c : Vec X A) → j < length chunks → c ≡ slice_index_or chunks j c → left < length c.items
      → slice_get (all_of (drop j chunks) last) left ≡ slice_get c.items left
  in_chunk j left c lt is within =
      ap (λ l. slice_get (all_of l last) left) (drop_more chunks j c lt)
      ∙ ap (λ (x : Vec X A). slice_get (x.items ++ all_of (drop (j + 1) chunks) last) left) (sym is)
      ∙ got_first c.items (all_of (drop (j + 1) chunks) last) left within

  -- or it lies behind that chunk
  pub behind_chunk : (j left : ℕ) (c : Vec X A) → j < length chunks → c ≡ slice_index_or chunks j c → length c.items ≤ left
      → slice_get (all_of (drop j chunks) last) left ≡ slice_get (all_of (drop (j + 1) chunks) last) (left - length c.items)
  behind_chunk j left c lt is past =
      ap (λ l. slice_get (all_of l last) left) (drop_more chunks j c lt)
      ∙ ap (λ (x : Vec X A). slice_get (x.items ++ all_of (drop (j + 1) chunks) last) left) (sym is)
      ∙ got_later c.items (all_of (drop (j + 1) chunks) last) left past

  -- behind all chunks the last has it
  pub in_last : (j left : ℕ) → length chunks ≤ j → slice_get (all_of (drop j chunks) last) left ≡ slice_get last left
  in_last j left past = ap (λ l. slice_get (all_of l last) left) (drop_of_length-le chunks past)
