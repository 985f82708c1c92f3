-- What goes into a block lies within it.
use Rattle.std.proofs.Common.{◌≡◌, ℕ, ◌+◌, ◌≤◌, List, [], ◌∷◌, ◌++◌, length, sym, subst, arith}
use Rattle.foyer_format_layout.specs.Each.{Each}
use Rattle.foyer_format_layout.specs.Position.{Sizes, tail_of}
use Rattle.foyer_format_layout.specs.Page.{page_up}
use Rattle.foyer_core_model.specs.Position.{Position, Part, BlockLayout, records_in}
use Rattle.foyer_core_model.specs.Receive.{bytes_taken}
use Rattle.foyer_core_model.specs.Record.{Record}
use Rattle.foyer_core_layout.proofs.LaidLemmas.{bytes_len}
use Rattle.foyer_core_layout.specs.Splits.{laid_from, LaidOut, Left, IsLaidOut, AllEndBy, LiesWithin}
use Rattle.foyer_core_layout.specs.Splits.LaidOut.{part, none}
use Rattle.foyer_core_layout.specs.Splits.Left.{done, blob, block}

module _ {C : Type 0} where
  end_join : (n : ℕ) (ps qs : List (ℕ × Record C)) → AllEndBy n ps → AllEndBy n qs → AllEndBy n (ps ++ qs)
  end_join n [] qs a b = b
  end_join n (p ∷ ps) qs a b = (a.0, end_join n ps qs a.1 b)

  laid_end : (n at : ℕ) (rs : List (Record C)) → at + bytes_taken page_up rs ≤ n → AllEndBy n (laid_from at rs)
  laid_end n at [] le = tt
  laid_end n at (r ∷ rs) le = (omega arith, laid_end n (at + page_up (length r.bytes)) rs (omega arith))

  module _ (s : Sizes) where
    record Within (parts : List (Part C)) (e : Position) (blocks : List (BlockLayout C)) : Type 0 where
      pub first : LiesWithin s.block (record { parts = parts; end = e })
      pub others : Each (LiesWithin s.block) blocks

    nothing : (e : Position) → LiesWithin {C = C} s.block (record { parts = []; end = e })
    nothing e = record { parts = tt; records = tt }

    mutual
      within : {f : Position} {rs : List (Record C)} {parts : List (Part C)} {e : Position} {blocks : List (BlockLayout C)} → LaidOut s f rs parts e blocks → Within parts e blocks
      within (part {f = f} {now = now} {p = p} {parts = parts} is left) =
          let w = left_within left in
          let size : length p.content ≡ bytes_taken page_up now = bytes_len p.content now is.content in
          record {
            first = record {
              parts = (omega (arith, is.blob, is.at, is.within, size), w.first.parts);
              records = end_join s.block p.records (records_in parts)
                  (subst (AllEndBy s.block) (sym is.records) (laid_end s.block (tail_of f) now is.within)) w.first.records;
            };
            others = w.others;
          }
      within (none left) = left_within left

      left_within : {f : Position} {rs : List (Record C)} {parts : List (Part C)} {e : Position} {blocks : List (BlockLayout C)} → Left s f rs parts e blocks → Within parts e blocks
      left_within (done {f = f} room) = record { first = nothing f; others = tt }
      left_within (blob full placed) = within placed
      left_within (block {f = f} room over placed) = let w = within placed in record { first = nothing f; others = (w.first, w.others) }

    pub all_within : (f : Position) (rs : List (Record C)) (spreads : List (BlockLayout C)) → IsLaidOut s f rs spreads → Each (LiesWithin s.block) spreads
    all_within f rs [] split = tt
    all_within f rs (b ∷ bs) split = let w = within split.1 in (w.first, w.others)
