-- What the splitter lays out has offsets that fit.
use Rattle.std.proofs.Common.{Option, Some, ◌∙◌, ◌≡◌, ℕ, zero, suc, ◌+◌, ◌^◌, ◌<◌, ◌≤◌, List, [], ◌∷◌, map, drop, length, get_or, sym, ap, subst, arith}
use Rattle.foyer_format_buffer.proofs.HoldsLemmas.{finished_each}
use Rattle.foyer_format_buffer.proofs.SplitLemmas.{entries_none, entries_cons, taken_cons}
use Rattle.foyer_format_buffer.specs.Layout.{IsPart, LaidOut, Left, Places, parts_of}
use Rattle.foyer_format_buffer.specs.Layout.LaidOut.{part, none}
use Rattle.foyer_format_buffer.specs.Layout.Left.{done, blob, block}
use Rattle.foyer_format_buffer.specs.Position.{Position, FitsBlock, taken, entries_from}
use Rattle.foyer_format_buffer.specs.declared.BufferEntryInfo.{BufferEntryInfo}
use Rattle.foyer_format_buffer.specs.declared.split.Batch.{Batch}
use Rattle.foyer_format_buffer.specs.declared.split.BlobPart.{BlobPart}
use Rattle.foyer_format_buffer.specs.declared.split.Block.{Block}
use Rattle.foyer_device_page.specs.Section.{Section}
use Rattle.foyer_core_flusher.specs.Filled.{WasSplit}
use Rattle.foyer_core_flusher.specs.Offsets.{EntryFits, PartFits, BlockFits, blocks_fit_once}
use Rattle.foyer_core_flusher.specs.declared.batch.Batch as flusher_batch
use Rattle.foyer_core_flusher.specs.declared.batch.Writing.{Writing}
use Rattle.foyer_format_layout.proofs.EachLaws.{each_front, each_back}
use Rattle.foyer_format_layout.proofs.PageLaws.{page_up-holds}
use Rattle.foyer_format_layout.specs.Each.{Each}
use Rattle.foyer_format_layout.specs.Page.{page_up}
use Rattle.foyer_format_layout.specs.Position.{Sizes, tail_of}
use Rattle.foyer_format_buffer.specs.Entries.{Entries}

-- what holds of every element holds of the one at a place
pub each_at : {X : Type 0} (P : X → Type 0) (xs : List X) (i : ℕ) (d : X) → i < length xs → Each P xs → P (get_or xs i d)
each_at P [] i d lt each = absurd (omega (arith, lt))
each_at P (x ∷ xs) zero d lt each = each.0
each_at P (x ∷ xs) (suc i) d lt each = each_at P xs i d (omega (arith, lt)) each.1

-- and of those that are left
pub each_drop : {X : Type 0} (P : X → Type 0) (xs : List X) (n : ℕ) → Each P xs → Each P (drop n xs)
each_drop P xs zero each = each
each_drop P [] (suc n) each = tt
each_drop P (x ∷ xs) (suc n) each = each_drop P xs n each.1

entries_fit : (s : Sizes) (base at : ℕ) (is : List BufferEntryInfo) → Each (FitsBlock s) is → base + at + taken is ≤ 2 ^ 32 → Each (EntryFits base) (entries_from at is)
entries_fit s base at [] fits within = subst (Each (EntryFits base)) (sym (entries_none at)) tt
entries_fit s base at (i ∷ is) fits within =
    let some : 0 < i.len = (fits.0).some in
    let sum : taken (i ∷ is) ≡ page_up i.len + taken is = taken_cons i is in
    let above : i.len ≤ page_up i.len = page_up-holds i.len in
    subst (Each (EntryFits base)) (sym (entries_cons at i is)) (omega arith, entries_fit s base (at + page_up i.len) is fits.1 (omega arith))

module _ {A : Type 0} (s : Sizes) (w : Section) (small : s.block ≤ 2 ^ 32) where
  part_fits : (start : ℕ) (f : Position) (now : List BufferEntryInfo) (p : BlobPart A) → Each (FitsBlock s) now → IsPart s w start f now p → PartFits p
  part_fits start f now p fits is =
      let within : tail_of f + taken now ≤ s.block = is.within in
      (omega (arith, is.blob, is.at), rw (is.blob, is.indices) (entries_fit s f.blob f.at now fits (omega arith)))

  -- of the present block's parts, and of those of the blocks behind it
  mutual
    laid_fit : {start : ℕ} {f g : Position} {infos : List BufferEntryInfo} {parts : List (BlobPart A)} {blocks : List (List (BlobPart A))}
        → Each (FitsBlock s) infos → LaidOut s w start f infos parts blocks g → Each (Each PartFits) (parts ∷ blocks)
    laid_fit fits (part {start = start} {f = f} {now = now} {rest = rest} {p = p} is left) =
        let later = left_fit (each_back (FitsBlock s) now rest fits) left in
        ((part_fits start f now p (each_front (FitsBlock s) now rest fits) is, later.0), later.1)
    laid_fit fits (none left) = left_fit fits left

    left_fit : {start : ℕ} {f g : Position} {infos : List BufferEntryInfo} {parts : List (BlobPart A)} {blocks : List (List (BlobPart A))}
        → Each (FitsBlock s) infos → Left s w start f infos parts blocks g → Each (Each PartFits) (parts ∷ blocks)
    left_fit fits (done room) = (tt, tt)
    left_fit fits (blob full placed) = laid_fit fits placed
    left_fit fits (block room over placed) = (tt, laid_fit fits placed)

  placed_fit : (f g : Position) (infos : List BufferEntryInfo) (blocks : List (Block A)) → Each (FitsBlock s) infos
      → Places s w f infos (map parts_of blocks) g → Each (Each PartFits) (map parts_of blocks)
  placed_fit f g infos [] fits placed = absurd placed
  placed_fit f g infos (b ∷ bs) fits placed = laid_fit fits placed

blocks_fit : {A : Type 0} (blocks : List (Block A)) → Each (Each PartFits) (map parts_of blocks) → Each BlockFits blocks
blocks_fit [] each = tt
blocks_fit (b ∷ bs) each = (each.0, blocks_fit bs each.1)

-- so it is with a batch that was split
pub split_fits : {A : Type 0} (b : Entries) (s : Sizes) (f g : Position) (split : Batch A) → s.index + b.greatest ≤ s.block → s.block ≤ 2 ^ 32
    → WasSplit b s f g split → Each BlockFits split.blocks.items
split_fits b s f g split room small was =
    blocks_fit split.blocks.items (placed_fit s was.whole small f g was.infos split.blocks.items
    (finished_each s (record b { room = length was.bytes }) was.bytes was.infos was.finished room was.some) (was.laid).placed)

-- a batch is the same, however its offsets are known to fit
pub refit : {K V P A : Type 0} {o : Option (flusher_batch.Batch K V P A)} {b : flusher_batch.Batch K V P A} (fits : Each BlockFits b.blocks.items) → o ≡ Some b → o ≡ Some (record b { fits = fits })
refit {K} {V} {P} {A} {o} {b} fits is = is ∙ ap (λ (f : Each BlockFits b.blocks.items). Some (record b { fits = f })) (blocks_fit_once b.blocks.items b.fits fits)

-- and with what it is writing
pub now_writing : {K V P A : Type 0} (b : flusher_batch.Batch K V P A) {w x : Option (Writing A)} {fits : Each BlockFits b.blocks.items} → w ≡ x
    → record b { writing = w; fits = fits } ≡ record b { writing = x }
now_writing b {w} {x} {fits} is = λ i. record b { writing = is i; fits = blocks_fit_once b.blocks.items fits b.fits i }
