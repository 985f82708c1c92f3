-- A placing keeps its records: what the plain machine asks of it.
use Rattle.std.proofs.Common.{◌≡◌, ℕ, ◌+◌, ◌<◌, ◌≤◌, List, [], ◌∷◌, ◌++◌, map, length, inl, inr, refl, sym, ap, subst, ◌∙◌, arith}
use Rattle.std.proofs.lemmas.List.{map-append, append_assoc}
use Rattle.foyer_format_layout.specs.Position.{Sizes, tail_of, MayWrite, next_blob, fresh}
use Rattle.foyer_format_layout.specs.Page.{page_up}
use Rattle.foyer_format_layout.proofs.BlockBytesLaws.{beside_or, laid_beside, laid_there, laid_outside, within_more, all_laid_zeros, zeroed_before, within_zeros, with_zeros-append}
use Rattle.foyer_format_layout.specs.BlockBytes.{Data, Index, Write, laid, all_laid, IsBeside, AllWithin, with_zeros, zeroed}
use Rattle.foyer_core_model.specs.Position.{Position, Part, BlockLayout, records_in, records_of, last_end}
use Rattle.foyer_core_model.specs.Layout.{AllStand, AllOutside, AllBehind, writes_in, KeepsBlock, KeepsBlocks, KeepsRecords}
use Rattle.foyer_core_model.specs.Receive.{bytes_taken}
use Rattle.foyer_core_model.specs.Record.{Record}
use Rattle.foyer_core_model.specs.Rules.{Rules, first_position, sizes_of}
use Rattle.foyer_core_layout.specs.Splits.{laid_from, with_records, IsPart, LaidOut, Left, MayGoOn, IsLaidOut, AreRules}
use Rattle.foyer_core_layout.specs.Splits.LaidOut.{part, none}
use Rattle.foyer_core_layout.specs.Splits.Left.{done, blob, block}
use Rattle.foyer_core_layout.proofs.LaidLemmas.{stand_same, outside_less, outside_pages, stand_join, outside_join, behind_join, bytes_stand, bytes_len, laid_outside_all, laid_behind, laid_records}

module _ {C : Type 0} (rules : Rules C) (are : AreRules rules) where
  -- what is kept of the first block and of the others
  record Keeps (f : Position) (rs : List (Record C)) (parts : List (Part C)) (e : Position) (blocks : List (BlockLayout C)) : Type 0 where
    pub first : KeepsBlock rules f (record { parts = parts; end = e })
    pub others : KeepsBlocks rules (first_position rules) blocks
    pub all : map (λ p. p.1) (records_in parts) ++ records_of blocks ≡ rs

  pub blob_less : (f : Position) (o : ℕ) → MayWrite rules.index_size (next_blob (sizes_of rules) f) o → MayWrite rules.index_size f o
  blob_less f o may = elim may [ inl l ↦ inl (omega arith) | inr l ↦ inl l.0 ]

  pub records_less : (f : Position) (now : List (Record C)) (o : ℕ) → MayWrite rules.index_size (with_records f now) o → MayWrite rules.index_size f o
  records_less f now o may = elim may [ inl l ↦ inl (omega arith) | inr l ↦ inr l ]

  abbrev data_of : Part C → Write
  data_of p = record { role = Data; offset = p.blob + p.at; bytes = p.content }

  abbrev index_of : Part C → Write
  index_of p = record { role = Index; offset = p.blob; bytes = p.index }

  writes_cons : (p : Part C) (ps : List (Part C))
      → writes_in rules (p ∷ ps) ≡ data_of p ∷ with_zeros rules.block_size (p.blob + p.at + length p.content) (index_of p ∷ writes_in rules ps)
  writes_cons p ps =
      ap (λ ws. ws ++ writes_in rules ps) (are.writes p)
      ∙ ap (λ ws. data_of p ∷ ws) (with_zeros-append rules.block_size (p.blob + p.at + length p.content) (index_of p ∷ []) (writes_in rules ps))

  at_end : (f : Position) → Keeps f [] [] f []
  at_end f = record {
    first = record { within = tt; shrinks = λ o may. may; stand = λ g. tt; outside = tt; behind = tt };
    others = tt;
    all = refl;
  }

  with_blob : (f : Position) (rs : List (Record C)) (parts : List (Part C)) (e : Position) (blocks : List (BlockLayout C))
      → Keeps (next_blob (sizes_of rules) f) rs parts e blocks → Keeps f rs parts e blocks
  with_blob f rs parts e blocks k = record {
    first = record {
      within = within_more (MayWrite rules.index_size (next_blob (sizes_of rules) f)) (MayWrite rules.index_size f) (writes_in rules parts) (blob_less f) k.first.within;
      shrinks = λ o may. blob_less f o (k.first.shrinks o may);
      stand = k.first.stand;
      outside = k.first.outside;
      behind = k.first.behind;
    };
    others = k.others;
    all = k.all;
  }

  with_block : (f : Position) (rs : List (Record C)) (first : BlockLayout C) (blocks : List (BlockLayout C))
      → Keeps (fresh (sizes_of rules)) rs first.parts first.end blocks → Keeps f rs [] f (first ∷ blocks)
  with_block f rs first blocks k = record {
    first = record { within = tt; shrinks = λ o may. may; stand = λ g. tt; outside = tt; behind = tt };
    others = (k.first, k.others);
    all = k.all;
  }

  module _ (f : Position) (now rest : List (Record C)) (p : Part C) (parts : List (Part C)) (e : Position) (blocks : List (BlockLayout C))
      (past : rules.index_size ≤ f.at) (is : IsPart (sizes_of rules) f now p) (k : Keeps (with_records f now) rest parts e blocks) where
    abbrev data_write : Write
    data_write = record { role = Data; offset = p.blob + p.at; bytes = p.content }

    abbrev index_write : Write
    index_write = record { role = Index; offset = p.blob; bytes = p.index }

    -- where its data end
    abbrev end_at : ℕ
    end_at = p.blob + p.at + length p.content

    -- its data and the zeros behind them
    abbrev before : (ℕ → ℕ) → ℕ → ℕ
    before g = zeroed rules.block_size end_at (laid data_write g)

    size : length p.content ≡ bytes_taken page_up now
    size = bytes_len p.content now is.content

    in_data : (o : ℕ) → (IsBeside data_write o → ⊥) → MayWrite rules.index_size f o
    in_data o inside =
        let low : o < p.blob + p.at → ⊥ = λ l. inside (inl l) in
        inl (omega (arith, is.blob, is.at, low))

    in_present : (o : ℕ) → (IsBeside index_write o → ⊥) → (f.blob ≤ o) × (o < f.blob + rules.index_size)
    in_present o inside =
        let low : o < p.blob → ⊥ = λ l. inside (inl l) in
        let high : p.blob + length p.index ≤ o → ⊥ = λ l. inside (inr l) in
        (omega (arith, is.blob, low), omega (arith, is.blob, is.size, high))

    beside_index : (o : ℕ) → (MayWrite rules.index_size (with_records f now) o → ⊥) → IsBeside index_write o
    beside_index o out = elim (beside_or index_write o) [ inl outside ↦ outside | inr inside ↦ absurd (out (inr (in_present o inside))) ]

    in_front : (o : ℕ) → (MayWrite rules.index_size (with_records f now) o → ⊥) → o < end_at
    in_front o out =
        let low : tail_of (with_records f now) ≤ o → ⊥ = λ l. out (inl l) in
        omega (arith, is.blob, is.at, size, low)

    abbrev own : List (ℕ × Record C)
    own = laid_from (tail_of f) now

    standing : (g : ℕ → ℕ) → AllStand (laid data_write g) own
    standing g = bytes_stand (laid data_write g) (tail_of f) p.content now
        (λ i lt. let e : tail_of f + i ≡ p.blob + p.at + i = omega (arith, is.blob, is.at) in ap (laid data_write g) e ∙ laid_there data_write g i lt)
        is.content

    outside : AllOutside rules.page_up (MayWrite rules.index_size (with_records f now)) own
    outside = outside_pages rules.page_up (MayWrite rules.index_size (with_records f now)) own are.pages
        (laid_outside_all rules.index_size (with_records f now) (tail_of f) now (omega arith) (omega arith))

    abbrev later : List Write
    later = writes_in rules parts

    abbrev all_writes : List Write
    all_writes = data_write ∷ with_zeros rules.block_size end_at (index_write ∷ later)

    all_stand : (g : ℕ → ℕ) → AllStand (all_laid all_writes g) (own ++ records_in parts)
    all_stand g = subst (λ k. AllStand k (own ++ records_in parts)) (sym (all_laid_zeros rules.block_size end_at (index_write ∷ later) (laid data_write g)))
        (stand_join (all_laid later (laid index_write (before g))) own (records_in parts)
        (stand_same rules.page_up (MayWrite rules.index_size (with_records f now)) (laid data_write g) (all_laid later (laid index_write (before g))) own
        rules.page_up_above outside
        (λ o out. laid_outside (MayWrite rules.index_size (with_records f now)) later (laid index_write (before g)) o k.first.within out
        ∙ laid_beside index_write (before g) o (beside_index o out)
        ∙ zeroed_before rules.block_size end_at (laid data_write g) o (in_front o out))
        (standing g))
        (k.first.stand (laid index_write (before g))))

    with_part : Keeps f (now ++ rest) (p ∷ parts) e blocks
    with_part = record {
      first = record {
        within = subst (AllWithin (MayWrite rules.index_size f)) (sym (writes_cons p parts)) (
          in_data,
          within_zeros (MayWrite rules.index_size f) rules.block_size end_at (index_write ∷ later) (λ o l. inl (omega (arith, is.blob, is.at, l))) (
            λ o inside. inr (in_present o inside),
            within_more (MayWrite rules.index_size (with_records f now)) (MayWrite rules.index_size f) later (records_less f now) k.first.within,
          ),
        );
        shrinks = λ o may. records_less f now o (k.first.shrinks o may);
        stand = λ g. subst (λ ws. AllStand (all_laid ws g) (p.records ++ records_in parts)) (sym (writes_cons p parts))
            (subst (λ rs. AllStand (all_laid all_writes g) (rs ++ records_in parts)) (sym is.records) (all_stand g));
        outside = subst (λ rs. AllOutside rules.page_up (MayWrite rules.index_size e) (rs ++ records_in parts)) (sym is.records)
            (outside_join rules.page_up (MayWrite rules.index_size e) own (records_in parts)
            (outside_less rules.page_up (MayWrite rules.index_size (with_records f now)) (MayWrite rules.index_size e) own k.first.shrinks outside)
            k.first.outside);
        behind = subst (λ rs. AllBehind rules.index_size (rs ++ records_in parts)) (sym is.records)
            (behind_join rules.index_size own (records_in parts) (laid_behind rules.index_size (tail_of f) now (omega arith)) k.first.behind);
      };
      others = k.others;
      all = ap (λ rs. map (λ q. q.1) (rs ++ records_in parts) ++ records_of blocks) is.records
          ∙ ap (λ rs. rs ++ records_of blocks) (map-append (λ q. q.1) own (records_in parts))
          ∙ append_assoc (map (λ q. q.1) own) (map (λ q. q.1) (records_in parts)) (records_of blocks)
          ∙ ap (λ rs. rs ++ (map (λ q. q.1) (records_in parts) ++ records_of blocks)) (laid_records (tail_of f) now)
          ∙ ap (λ rs. now ++ rs) k.all;
    }

  mutual
    keeps : {f : Position} {rs : List (Record C)} {parts : List (Part C)} {e : Position} {blocks : List (BlockLayout C)}
        → rules.index_size ≤ f.at → LaidOut (sizes_of rules) f rs parts e blocks → Keeps f rs parts e blocks
    keeps past (part {f = f} {e = e} {now = now} {rest = rest} {p = p} {parts = parts} {blocks = blocks} is left) =
        with_part f now rest p parts e blocks past is (left_keeps (omega arith) left)
    keeps past (none left) = left_keeps past left

    left_keeps : {f : Position} {rs : List (Record C)} {parts : List (Part C)} {e : Position} {blocks : List (BlockLayout C)}
        → rules.index_size ≤ f.at → Left (sizes_of rules) f rs parts e blocks → Keeps f rs parts e blocks
    left_keeps past (done {f = f} room) = at_end f
    left_keeps past (blob {f = f} {e = e} {rs = rs} {parts = parts} {blocks = blocks} full placed) =
        with_blob f rs parts e blocks (keeps (omega arith) placed)
    left_keeps past (block {f = f} {r = r} {rs = rs} {first = first} {blocks = blocks} room over placed) =
        with_block f (r ∷ rs) first blocks (keeps (omega arith) placed)

  pub keeps_records : KeepsRecords rules (IsLaidOut (sizes_of rules))
  keeps_records f rs [] split = absurd split
  keeps_records f rs (b ∷ bs) split =
      let k : Keeps f rs b.parts b.end bs = keeps split.0 split.1 in
      record { some = λ e. cc; all = k.all; placed = (k.first, k.others) }

module _ {C : Type 0} (s : Sizes) where
  mutual
    placed_on : {f : Position} {rs : List (Record C)} {parts : List (Part C)} {e : Position} {blocks : List (BlockLayout C)}
        → s.index ≤ f.at → LaidOut s f rs parts e blocks → MayGoOn s (last_end e blocks)
    placed_on past (part {f = f} {now = now} is left) = left_on (omega arith) left
    placed_on past (none left) = left_on past left

    left_on : {f : Position} {rs : List (Record C)} {parts : List (Part C)} {e : Position} {blocks : List (BlockLayout C)}
        → s.index ≤ f.at → Left s f rs parts e blocks → MayGoOn s (last_end e blocks)
    left_on past (done room) = record { past = past; room = room }
    left_on past (blob full placed) = placed_on (omega arith) placed
    left_on past (block room over placed) = placed_on (omega arith) placed

  pub goes_on : (f : Position) (rs : List (Record C)) (spreads : List (BlockLayout C)) → IsLaidOut s f rs spreads → MayGoOn s (last_end f spreads)
  goes_on f rs [] split = absurd split
  goes_on f rs (b ∷ bs) split = placed_on split.0 split.1
