-- A placing is one block after the other.
use Rattle.std.proofs.Common.{◌≡◌, ℕ, ◌+◌, List, [], ◌∷◌, ◌++◌, length, subst, arith, append_assoc}
use Rattle.foyer_device_page.specs.Section.{Section}
use Rattle.foyer_format_layout.specs.Position.{Sizes, fresh, next_blob}
use Rattle.foyer_format_buffer.specs.Position.{Position, taken, with_records}
use Rattle.foyer_format_blob.specs.Blob.{capacity_of}
use Rattle.foyer_format_buffer.specs.Layout.{IsPart, LaidOut, Left, Places}
use Rattle.foyer_format_buffer.specs.Layout.LaidOut.{part, none}
use Rattle.foyer_format_buffer.specs.Layout.Left.{done, blob, block}
use Rattle.foyer_format_buffer.specs.Fills.{Blocks}
use Rattle.foyer_format_buffer.specs.Fills.Fills.{stays, part as fills_part, blob as fills_blob}
use Rattle.foyer_format_buffer.specs.Fills.Blocks.{last, more}
use Rattle.foyer_format_buffer.specs.declared.BufferEntryInfo.{BufferEntryInfo}
use Rattle.foyer_format_buffer.specs.declared.split.BlobPart.{BlobPart}
use Rattle.foyer_format_buffer.proofs.SplitLemmas.{taken-append, taken_none}

module _ {A : Type 0} where
  with_part : (s : Sizes) (w : Section) (start : ℕ) (f g : Position) (now rest : List BufferEntryInfo) (p : BlobPart A) (parts : List (BlobPart A)) (blocks : List (List (BlobPart A)))
      → IsPart s w start f now p → Blocks s w (start + taken now) (with_records f now) rest (parts ∷ blocks) g → Blocks s w start f (now ++ rest) ((p ∷ parts) ∷ blocks) g
  with_part s w start f g now rest p parts blocks is (last fills) = last (fills_part is fills)
  with_part s w start f g now rest p parts blocks is (more {now = first} {rest = others} fills later) =
      let there : start + taken now + taken first ≡ start + taken (now ++ first) = omega (arith, taken-append now first) in
      subst (λ l. Blocks s w start f l ((p ∷ parts) ∷ blocks) g) (append_assoc now first others)
      (more (fills_part is fills) (subst (λ n. Blocks s w n (fresh s) others blocks g) there later))

  with_blob : (s : Sizes) (w : Section) (start : ℕ) (f g : Position) (infos : List BufferEntryInfo) (blocks : List (List (BlobPart A)))
      → length f.listed ≡ capacity_of s.index → Blocks s w start (next_blob s f) infos blocks g → Blocks s w start f infos blocks g
  with_blob s w start f g infos blocks full (last fills) = last (fills_blob full fills)
  with_blob s w start f g infos blocks full (more fills later) = more (fills_blob full fills) later

  mutual
    pub nests : (s : Sizes) (w : Section) {start : ℕ} {f g : Position} {infos : List BufferEntryInfo} {parts : List (BlobPart A)} {blocks : List (List (BlobPart A))}
        → LaidOut s w start f infos parts blocks g → Blocks s w start f infos (parts ∷ blocks) g
    nests s w (part {start = start} {f = f} {g = g} {now = now} {rest = rest} {p = p} {parts = parts} {blocks = blocks} is left) =
        with_part s w start f g now rest p parts blocks is (left_nests s w left)
    nests s w (none left) = left_nests s w left

    left_nests : (s : Sizes) (w : Section) {start : ℕ} {f g : Position} {infos : List BufferEntryInfo} {parts : List (BlobPart A)} {blocks : List (List (BlobPart A))}
        → Left s w start f infos parts blocks g → Blocks s w start f infos (parts ∷ blocks) g
    left_nests s w (done room) = last stays
    left_nests s w (blob {start = start} {f = f} {g = g} {infos = infos} {parts = parts} {blocks = blocks} full placed) =
        with_blob s w start f g infos (parts ∷ blocks) full (nests s w placed)
    left_nests s w (block {start = start} {f = f} {g = g} {i = i} {infos = infos} {parts = parts} {blocks = blocks} room over placed) =
        let there : start ≡ start + taken [] = omega (arith, taken_none) in
        more stays (subst (λ n. Blocks s w n (fresh s) (i ∷ infos) (parts ∷ blocks) g) there (nests s w placed))

  pub places_nests : (s : Sizes) (w : Section) (f g : Position) (infos : List BufferEntryInfo) (blocks : List (List (BlobPart A)))
      → Places s w f infos blocks g → Blocks s w 0 f infos blocks g
  places_nests s w f g infos [] placed = absurd placed
  places_nests s w f g infos (parts ∷ blocks) placed = nests s w placed
