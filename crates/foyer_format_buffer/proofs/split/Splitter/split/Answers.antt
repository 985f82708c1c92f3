use Rattle.std.proofs.Common.{◌≡◌, suc, ◌+◌, ◌<◌, ◌≤◌, ℕ, List, [], ◌∷◌, drop, length, get_or, refl, ap, subst, ◌∙◌, arith, rules}
use Rattle.std.proofs.Math.Seq.{drop-cons}
use Rattle.std.proofs.Math.ListN.{drop_of_length-le}
use Rattle.foyer_device_page.specs.Section.{bytes_of}
use Rattle.foyer_format_layout.specs.Page.{page_up}
use Rattle.foyer_format_buffer.specs.Position.{taken}
use Rattle.foyer_format_buffer.specs.Splitting.{Going, sizes_of}
use Rattle.foyer_format_buffer.specs.declared.BufferEntryInfo.{BufferEntryInfo}
use Rattle.foyer_format_buffer.proofs.SplitLemmas.{begins, taken_cons}
use Rattle.foyer_format_buffer.proofs.split.Splitter.split.Goals as goal

abbrev no_info : BufferEntryInfo
no_info = record { hash = 0; sequence = 0; offset = 0; len = 0 }

-- the record with this number comes first of those from there on
next : (all : List BufferEntryInfo) (i : ℕ) → i < length all → drop i all ≡ get_or all i no_info ∷ drop (i + 1) all
next all i below =
    let plus : suc i ≡ i + 1 = omega arith in
    drop-cons all i no_info below ∙ ap (λ (k : ℕ). get_or all i no_info ∷ drop k all) plus

-- and so much room is there for it
room : (all : List BufferEntryInfo) (i n k : ℕ) → i < length all → n + taken (drop i all) ≡ taken all → taken all ≤ k
    → n + page_up (get_or all i no_info).len ≤ k
room all i n k below sum within =
    omega (arith, ap taken (next all i below) ∙ taken_cons (get_or all i no_info) (drop (i + 1) all))

pub infos-init : goal.infos-init
infos-init g c =
    let b = c.in_ok-split.ensures.begun in
    let all = c.deref-info-items.result.now in
    record {
      going = subst (λ f. Going c.args.bytes f all c.in_ok-split.split all) b.filling
          (begins c.args.bytes all c.in_ok-split.split b.parts b.blocks b.indices b.start b.size);
      sizes = b.sizes;
      sum = omega (arith, b.start, b.size);
      room = b.room;
    }

pub place-requires-clause-within : goal.place-requires-clause-within
place-requires-clause-within g c =
    room c.deref-info-items.result.now c.infos.info-index (c.infos.split.start + c.infos.split.size) (length (bytes_of c.args.bytes))
    c.infos-test.true c.infos.invariant.sum (rw c.deref-info-items.ensures.value c.requires.within)

pub place-requires-clause-sum : goal.place-requires-clause-sum
place-requires-clause-sum g c =
    let fits : c.infos.split.start + c.infos.split.size + page_up (get_or c.deref-info-items.result.now c.infos.info-index no_info).len
    ≤ length (bytes_of c.args.bytes) =
    room c.deref-info-items.result.now c.infos.info-index (c.infos.split.start + c.infos.split.size) (length (bytes_of c.args.bytes))
    c.infos-test.true c.infos.invariant.sum (rw c.deref-info-items.ensures.value c.requires.within) in
    omega (arith, fits, c.len.ensures.value, c.len.type_inv)

pub infos-preserved : goal.infos-preserved
infos-preserved g c =
    let all = c.deref-info-items.result.now in
    let i = c.infos.info-index in
    let cons = next all i c.infos-test.true in
    let moves = c.in_ok-place.ensures.moves in
    let going : Going c.args.bytes c.args.ctx.now.filling all c.infos.split (get_or all i no_info ∷ drop (i + 1) all) =
    rw cons at c.infos.invariant.going in
    record {
      going = c.in_ok-place.ensures.going _ _ _ going;
      sizes = rw (moves.block_size, moves.index_size) c.infos.invariant.sizes;
      sum = omega (arith, moves.sum, c.infos.invariant.sum, ap taken cons ∙ taken_cons (get_or all i no_info) (drop (i + 1) all));
      room = c.in_ok-place.ensures.open;
    }

pub returns-clause-placed : goal.returns-clause-placed
returns-clause-placed g c =
    let all = c.deref-info-items.result.now in
    let moves = c.in_ok-finish.ensures.moves in
    let nothing : drop c.infos.info-index all ≡ [] = drop_of_length-le all c.infos-test.false in
    let going : Going c.args.bytes c.args.ctx.now.filling all c.infos.split [] = rw nothing at c.infos.invariant.going in
    let sizes : sizes_of c.finish.new.self ≡ c.args.ctx.now.sizes = rw (moves.block_size, moves.index_size) c.infos.invariant.sizes in
    let placed = c.in_ok-finish.ensures.placed _ _ going in
    record {
      bytes = refl;
      placed = rw (← sizes, ← c.deref-info-items.ensures.value, c.commit-blocks.ensures.blocks, c.commit-blocks.ensures.filling) placed;
    }

pub returns-in_err-place-clause-unchanged : goal.returns-in_err-place-clause-unchanged
returns-in_err-place-clause-unchanged g c = search rules depth 1

pub returns-in_err-finish-clause-unchanged : goal.returns-in_err-finish-clause-unchanged
returns-in_err-finish-clause-unchanged g c = search rules depth 1
