-- Records that fit into a block can be placed from wherever a batch may begin.
use Rattle.std.proofs.Common.{◌≡◌, ℕ, suc, ◌+◌, ◌-◌, ◌<◌, ◌≤◌, ◌^◌, nat_le, nat_lt, Bool, true, false, List, [], ◌∷◌, ◌++◌, length, replicate, refl, sym, ap, subst, ◌∙◌, arith}
use Rattle.std.proofs.lemmas.Bool.Decides.{nat_tests}
use Rattle.std.proofs.lemmas.List.{length-append, length-replicate, take-append-le, take_at, drop_at, append_assoc}
use Rattle.foyer_format_buffer.specs.Blob.{capacity_of}
use Rattle.foyer_format_layout.specs.Position.{Sizes, tail_of, fresh, next_blob}
use Rattle.foyer_format_layout.proofs.PageLaws.{page_up-holds}
use Rattle.foyer_format_layout.specs.Page.{page_up}
use Rattle.foyer_core_model.specs.Numbers.{last_number}
use Rattle.foyer_core_model.specs.Position.{Position, Part, BlockLayout, last_end}
use Rattle.foyer_core_model.specs.Layout.{AllFitBlock, MayBegin, PlacesAll}
use Rattle.foyer_core_model.specs.Layout.MayBegin.{empty_block, after_batch}
use Rattle.foyer_core_model.specs.Receive.{bytes_taken}
use Rattle.foyer_core_model.specs.Record.{IndexEntry, Record}
use Rattle.foyer_core_model.specs.Rules.{Rules, sizes_of}
use Rattle.foyer_core_model.specs.Widths.{HaveWidths, RecordsHaveWidths}
use Rattle.foyer_core_layout.proofs.KeepsLemmas.{goes_on}
use Rattle.foyer_core_layout.proofs.SealLemmas.{AllFitEntry, IndexOf, index_for}
use Rattle.foyer_core_layout.specs.Splits.{entries_from, laid_from, with_records, AreBytesOf, LaidOut, Left, MayGoOn, IsLaidOut, AreRules}
use Rattle.foyer_core_layout.specs.Splits.LaidOut.{part, none}
use Rattle.foyer_core_layout.specs.Splits.Left.{done, blob, block}

all_fit_join : (xs ys : List IndexEntry) → AllFitEntry xs → AllFitEntry ys → AllFitEntry (xs ++ ys)
all_fit_join [] ys a b = b
all_fit_join (x ∷ xs) ys a b = (a.0, all_fit_join xs ys a.1 b)

module _ {C : Type 0} where
  -- records padded with zeros
  abbrev padded : Record C → List ℕ
  padded r = r.bytes ++ replicate (page_up (length r.bytes) - length r.bytes) 0

  abbrev packed : List (Record C) → List ℕ
  packed [] = []
  packed (r ∷ rs) = padded r ++ packed rs

  padded_len : (r : Record C) → length (padded r) ≡ page_up (length r.bytes)
  padded_len r =
      let pad : ℕ = page_up (length r.bytes) - length r.bytes in
      let above : length r.bytes ≤ page_up (length r.bytes) = page_up-holds (length r.bytes) in
      omega (arith, length-append r.bytes (replicate pad 0), length-replicate {A = ℕ} pad 0)

  packed_are : (rs : List (Record C)) → AreBytesOf (packed rs) rs
  packed_are [] = refl
  packed_are (r ∷ rs) =
      let len : length (padded r) ≡ page_up (length r.bytes) = padded_len r in
      let above : length r.bytes ≤ page_up (length r.bytes) = page_up-holds (length r.bytes) in
      let zeros : List ℕ = replicate (page_up (length r.bytes) - length r.bytes) 0 in (
        take-append-le (length r.bytes) (padded r) (packed rs) (omega arith) ∙ take_at r.bytes zeros (length r.bytes) refl,
        omega (arith, length-append (padded r) (packed rs)),
        subst (λ bytes. AreBytesOf bytes rs) (sym (drop_at (padded r) (packed rs) (page_up (length r.bytes)) len)) (packed_are rs),
      )

  taken_more : (rs : List (Record C)) (r : Record C) → bytes_taken page_up (rs ++ r ∷ []) ≡ bytes_taken page_up rs + page_up (length r.bytes)
  taken_more [] r = omega arith
  taken_more (q ∷ rs) r = let e = taken_more rs r in omega arith

  many : (at : ℕ) (rs : List (Record C)) → length (entries_from at rs) ≡ length rs
  many at [] = refl
  many at (r ∷ rs) = ap suc (many (at + page_up (length r.bytes)) rs)

  -- what a block can list, and what fits into an empty one
  record IsListable (s : Sizes) (r : Record C) : Type 0 where
    pub widths : HaveWidths r.hash r.sequence
    pub some : 0 < length r.bytes
    pub fits : s.index + page_up (length r.bytes) ≤ s.block

  abbrev AllListable : Sizes → List (Record C) → Type 0
  AllListable s [] = Unit {0}
  AllListable s (r ∷ rs) = IsListable s r × AllListable s rs

  listable_more : (s : Sizes) (rs : List (Record C)) (r : Record C) → AllListable s rs → IsListable s r → AllListable s (rs ++ r ∷ [])
  listable_more s [] r all one = (one, tt)
  listable_more s (q ∷ rs) r all one = (all.0, listable_more s rs r all.1 one)

  listable_front : (s : Sizes) (now rest : List (Record C)) → AllListable s (now ++ rest) → AllListable s now
  listable_front s [] rest all = tt
  listable_front s (r ∷ now) rest all = (all.0, listable_front s now rest all.1)

  listable_rest : (s : Sizes) (now rest : List (Record C)) → AllListable s (now ++ rest) → AllListable s rest
  listable_rest s [] rest all = all
  listable_rest s (r ∷ now) rest all = listable_rest s now rest all.1

  -- if records lie within 4 GiB after an index, each number of their entries fits its field
  entries_fit : (s : Sizes) (at : ℕ) (rs : List (Record C)) → 0 < at → at + bytes_taken page_up rs ≤ 2 ^ 32 → AllListable s rs → AllFitEntry (entries_from at rs)
  entries_fit s at [] past within all = tt
  entries_fit s at (r ∷ rs) past within all =
      let above : length r.bytes ≤ page_up (length r.bytes) = page_up-holds (length r.bytes) in
      let some : 0 < length r.bytes = (all.0).some in
      let hash : r.hash ≤ last_number = (all.0).widths.0 in
      let sequence : r.sequence ≤ last_number = (all.0).widths.1 in (
        record { hash = omega arith; sequence = omega arith; offset = omega arith; len = omega arith },
        entries_fit s (at + page_up (length r.bytes)) rs (omega arith) (omega arith) all.1,
      )

  module _ (s : Sizes) (some : 36 ≤ s.index) (small : s.block ≤ 2 ^ 32) where
    -- with records behind them too
    with_fit : (f : Position) (now : List (Record C)) → s.index ≤ f.at → tail_of f + bytes_taken page_up now ≤ s.block → AllFitEntry f.listed → AllListable s now
        → AllFitEntry (with_records f now).listed
    with_fit f now past within listed all = all_fit_join f.listed (entries_from f.at now) listed (entries_fit s f.at now (omega arith) (omega arith) all)

    -- so does what is listed where a batch ends
    mutual
      placed_fit : {f : Position} {rs : List (Record C)} {parts : List (Part C)} {e : Position} {blocks : List (BlockLayout C)}
          → s.index ≤ f.at → AllFitEntry f.listed → AllListable s rs → LaidOut s f rs parts e blocks → AllFitEntry (last_end e blocks).listed
      placed_fit past listed all (part {f = f} {now = now} {rest = rest} is left) =
          left_fit (omega arith) (with_fit f now past is.within listed (listable_front s now rest all)) (listable_rest s now rest all) left
      placed_fit past listed all (none left) = left_fit past listed all left

      left_fit : {f : Position} {rs : List (Record C)} {parts : List (Part C)} {e : Position} {blocks : List (BlockLayout C)}
          → s.index ≤ f.at → AllFitEntry f.listed → AllListable s rs → Left s f rs parts e blocks → AllFitEntry (last_end e blocks).listed
      left_fit past listed all (done room) = listed
      left_fit past listed all (blob full placed) = placed_fit (omega arith) tt all placed
      left_fit past listed all (block room over placed) = placed_fit (omega arith) tt all placed

    -- a placing from here on
    record Found (f : Position) (rs : List (Record C)) : Type 0 where
      pub parts : List (Part C)
      pub end : Position
      pub blocks : List (BlockLayout C)
      pub placed : LaidOut s f rs parts end blocks

    record FoundLeft (f : Position) (rs : List (Record C)) : Type 0 where
      pub parts : List (Part C)
      pub end : Position
      pub blocks : List (BlockLayout C)
      pub left : Left s f rs parts end blocks

    -- the filling behind these records, if there are any
    abbrev behind : Position → List (Record C) → Position
    behind f [] = f
    behind f (r ∷ rs) = with_records f (r ∷ rs)

    -- these records of a part fit, and the index has room
    record Goes (f : Position) (now : List (Record C)) : Type 0 where
      pub past : s.index ≤ f.at
      pub listed : AllFitEntry f.listed
      pub all : AllListable s now
      pub room : length f.listed + length now ≤ capacity_of s.index
      pub within : 0 < length now → tail_of f + bytes_taken page_up now ≤ s.block

    close : (f : Position) (now rest : List (Record C)) → Goes f now → FoundLeft (behind f now) rest → Found f (now ++ rest)
    close f [] rest goes l = record { parts = l.parts; end = l.end; blocks = l.blocks; placed = none l.left }
    close f (r ∷ rs) rest goes l =
        let now : List (Record C) = r ∷ rs in
        let listed : List IndexEntry = f.listed ++ entries_from f.at now in
        let count : length listed ≡ length f.listed + length now = length-append f.listed (entries_from f.at now) ∙ ap (λ n. length f.listed + n) (many f.at now) in
        let past : s.index ≤ f.at = goes.past in
        let within : tail_of f + bytes_taken page_up now ≤ s.block = goes.within (omega arith) in
        let i : IndexOf s.index listed = index_for s.index listed (omega arith) (omega arith) (omega (arith, goes.room)) (with_fit f now past within goes.listed goes.all) in
        let p : Part C = record { blob = f.blob; at = f.at; content = packed now; index = i.bytes; records = laid_from (tail_of f) now } in
        record {
          parts = p ∷ l.parts;
          end = l.end;
          blocks = l.blocks;
          placed = part {now = now} (record {
            some = omega arith;
            blob = refl;
            at = refl;
            content = packed_are now;
            index = i.is;
            size = i.len;
            within = within;
            records = refl;
          }) l.left;
        }

    -- one more record in the part: if that fills the index, the next blob begins
    append : (f : Position) (now : List (Record C)) (r : Record C) (rest : List (Record C)) → Goes f now → IsListable s r → length f.listed + length now < capacity_of s.index
        → tail_of f + bytes_taken page_up now + page_up (length r.bytes) ≤ s.block
        → ((g : Position) (more : List (Record C)) → Goes g more → length g.listed + length more < capacity_of s.index → Found g (more ++ rest))
        → Found f (now ++ r ∷ rest)
    append f now r rest goes one has_room fits later = subst (Found f) (append_assoc now (r ∷ []) rest) (go (nat_lt (length f.listed + length more) (capacity_of s.index)) refl)
      where
        more : List (Record C)
        more = now ++ r ∷ []

        count : length more ≡ length now + 1
        count = length-append now (r ∷ [])

        good : Goes f more
        good = record {
          past = goes.past;
          listed = goes.listed;
          all = listable_more s now r goes.all one;
          room = omega (arith, count, goes.room);
          within = λ _. omega (arith, taken_more now r);
        }

        listed : length (with_records f more).listed ≡ length f.listed + length more
        listed = length-append f.listed (entries_from f.at more) ∙ ap (λ n. length f.listed + n) (many f.at more)

        some_more : (rs : List (Record C)) → 0 < length rs → behind f rs ≡ with_records f rs
        some_more [] lt = absurd (omega arith)
        some_more (q ∷ rs) lt = refl

        go : (t : Bool) → nat_lt (length f.listed + length more) (capacity_of s.index) ≡ t → Found f (more ++ rest)
        go true e = later f more good (grind (arith, nat_tests))
        go false e =
            let over : capacity_of s.index ≤ length f.listed + length more = grind (arith, nat_tests) in
            let room : length f.listed + length more ≤ capacity_of s.index = good.room in
            let full : length (with_records f more).listed ≡ capacity_of s.index = omega (arith, listed) in
            let from : Position = next_blob s (with_records f more) in
            let here : 0 < capacity_of s.index = omega arith in
            let l : Found from rest = later from [] (record { past = omega arith; listed = tt; all = tt; room = omega arith; within = λ lt. absurd (omega arith) }) here in
            close f more rest good (subst (λ g. FoundLeft g rest) (sym (some_more more (omega (arith, count))))
            (record { parts = l.parts; end = l.end; blocks = l.blocks; left = blob full l.placed }))

    greedy : (rest : List (Record C)) → AllListable s rest → (f : Position) (now : List (Record C)) → Goes f now → length f.listed + length now < capacity_of s.index
        → Found f (now ++ rest)
    greedy [] fit f now goes has_room = close f now [] goes (record { parts = []; end = behind f now; blocks = []; left = done (room now has_room) })
      where
        room : (rs : List (Record C)) → length f.listed + length rs < capacity_of s.index → length (behind f rs).listed < capacity_of s.index
        room [] lt = omega arith
        room (q ∷ rs) lt = omega (arith, length-append f.listed (entries_from f.at (q ∷ rs)), many f.at (q ∷ rs))
    greedy (r ∷ rest) fit f now goes has_room = go (greedy rest fit.1) (nat_le (tail_of f + bytes_taken page_up now + page_up (length r.bytes)) s.block) refl
      where
        room : (rs : List (Record C)) → length f.listed + length rs < capacity_of s.index → length (behind f rs).listed < capacity_of s.index
        room [] lt = omega arith
        room (q ∷ rs) lt = omega (arith, length-append f.listed (entries_from f.at (q ∷ rs)), many f.at (q ∷ rs))

        tail : (rs : List (Record C)) → tail_of (behind f rs) ≡ tail_of f + bytes_taken page_up rs
        tail [] = omega arith
        tail (q ∷ rs) = omega arith

        go : ((g : Position) (more : List (Record C)) → Goes g more → length g.listed + length more < capacity_of s.index → Found g (more ++ rest))
            → (t : Bool) → nat_le (tail_of f + bytes_taken page_up now + page_up (length r.bytes)) s.block ≡ t → Found f (now ++ r ∷ rest)
        go later true e = append f now r rest goes fit.0 has_room (grind (arith, nat_tests)) later
        go later false e =
            let over : s.block < tail_of f + bytes_taken page_up now + page_up (length r.bytes) = grind (arith, nat_tests) in
            let none_yet : Goes (fresh s) [] = record { past = omega arith; listed = tt; all = tt; room = omega arith; within = λ lt. absurd (omega arith) } in
            let first : s.index + page_up (length r.bytes) ≤ s.block = (fit.0).fits in
            let here : 0 < capacity_of s.index = omega arith in
            let l : Found (fresh s) (r ∷ rest) = append (fresh s) [] r rest none_yet fit.0 here (omega arith) later in
            close f now (r ∷ rest) goes (record {
              parts = [];
              end = behind f now;
              blocks = record { parts = l.parts; end = l.end } ∷ l.blocks;
              left = block {first = record { parts = l.parts; end = l.end }} (room now has_room) (omega (arith, tail now)) l.placed;
            })

module _ {C : Type 0} (rules : Rules C) (are : AreRules rules) (small : rules.block_size ≤ 2 ^ 32) where
  some : 36 ≤ rules.index_size
  some = omega (arith, rules.index_holds_page)

  all_listable : (rs : List (Record C)) → RecordsHaveWidths rs → AllFitBlock rules rs → AllListable (sizes_of rules) rs
  all_listable [] widths fit = tt
  all_listable (r ∷ rs) widths fit =
      (record { widths = widths.0; some = (fit.0).0; fits = omega (arith, (fit.0).1, are.pages (length r.bytes)) }, all_listable rs widths.1 fit.1)

  -- a batch may begin only if another entry has room and each entry that is listed fits its fields
  begins : {f : Position} → MayBegin rules (IsLaidOut (sizes_of rules)) f → MayGoOn (sizes_of rules) f × AllFitEntry f.listed
  begins empty_block = (record { past = omega arith; room = omega (arith, rules.index_holds_page) }, tt)
  begins (after_batch {f = f} {records = rs} {blocks = []} may widths fit split) = absurd split
  begins (after_batch {f = f} {records = rs} {blocks = b ∷ bs} may widths fit split) = (
    goes_on (sizes_of rules) f rs (b ∷ bs) split,
    placed_fit (sizes_of rules) some small split.0 (begins may).1 (all_listable rs widths fit) split.1,
  )

  pub places_all : PlacesAll rules (IsLaidOut (sizes_of rules))
  places_all f rs from widths fit =
      let may : MayGoOn (sizes_of rules) f = (begins from).0 in
      let l : Found (sizes_of rules) some small f rs = greedy (sizes_of rules) some small rs (all_listable rs widths fit) f []
      (record { past = may.past; listed = (begins from).1; all = tt; room = omega (arith, may.room); within = λ lt. absurd (omega arith) }) (omega (arith, may.room)) in
      (record { parts = l.parts; end = l.end } ∷ l.blocks, (may.past, l.placed))
