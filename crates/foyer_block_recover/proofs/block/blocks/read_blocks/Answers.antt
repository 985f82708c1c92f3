use Rattle.std.proofs.Common.{◌≡◌, ◌++◌, None, [], IfSome, vec_len, slice_get, length, true, false, refl, sym, ap, ◌∙◌, subst, arith}
use Rattle.std.proofs.lemmas.Result.{err_from_is_err_and}
use Rattle.foyer_io_disk.specs.Disk.{SurelyCame}
use Rattle.foyer_io_disk.proofs.FaultLemmas.{came_before, came_behind}
use Rattle.foyer_block_index.proofs.Found.{slice_get-set_other}
use Rattle.foyer_format_layout.specs.Position.{Sizes}
use Rattle.foyer_block_scan.specs.Listing.{kept}
use Rattle.foyer_block_recover.specs.BlocksKept.{AreBlocksRead, gathered}
use Rattle.foyer_block_recover.specs.Chained.{hashed_entries, IsKeptOf}
use Rattle.foyer_block_recover.specs.Placed.{IsSomeKept, AreSomeKept}
use Rattle.foyer_block_recover.specs.Sources.{Listing, if_of, is_of, listing_at, listing_in, sure_of}
use Rattle.foyer_block_recover.proofs.BlocksLemmas.{kept_here, not_cut, alone, some_alone, cut_here, none_kept_of, more_kept, none_read, more_read, read_with_fewer, sure_before, all_read, all_some}
use Rattle.foyer_block_recover.proofs.SourcesLemmas.{own_listing}
use Rattle.foyer_block_recover.proofs.block.blocks.read_blocks.Goals as goal
use Rattle.foyer_block_recover.proofs.block.blocks.read_blocks.Goals.{else-is_cut-via-then-is_cut+else-is_strict, else-is_cut-via-else-is_cut}

pub each_block-init : goal.each_block-init
each_block-init g c =
    let s : Sizes = record { block = c.args.block_size; index = c.args.index_size } in
    record {
      len = c.in_ok-buffer.ensures.len;
      slots = λ k le. refl;
      known = λ k. k;
      same = refl;
      has = λ b o n h. h;
      lies = λ b o n h. h;
      counted = omega arith;
      blocks = λ bytes failed known sources.
          let S = sure_of s c.args.listings.slots.items failed (SurelyCame (g.D.Disk.surely_has c.args.disk.now) (g.D.Disk.surely_lies c.args.disk.now) (g.D.Disk.faults c.args.disk.now) (g.D.Disk.faults c.args.disk.now)) in
          subst (λ l. AreBlocksRead s 0 bytes S c.args.is_strict (gathered c.in_ok-read.read l)) (sym c.new-batch.ensures.items)
          (none_read s bytes S c.args.is_strict c.in_ok-read.read c.in_ok-read.ensures.none);
      some = subst (λ l. AreSomeKept s 0 (gathered c.in_ok-read.read l)) (sym c.new-batch.ensures.items) (none_kept_of s c.in_ok-read.read 0 (c.in_ok-read.ensures.none (λ b. [])));
    }

pub returns-in_err-bytes-clause-has : goal.returns-in_err-bytes-clause-has
returns-in_err-bytes-clause-has g c = λ b o n h. c.list_chain.ensures.has b o n (c.each_block.invariant.has b o n h)

pub returns-in_err-bytes-clause-lies : goal.returns-in_err-bytes-clause-lies
returns-in_err-bytes-clause-lies g c = λ b o n h. c.list_chain.ensures.lies b o n (c.each_block.invariant.lies b o n h)

pub returns-then-is_strict-clause-has : goal.returns-then-is_strict-clause-has
returns-then-is_strict-clause-has g c = λ b o n h. c.list_chain.ensures.has b o n (c.each_block.invariant.has b o n h)

pub returns-then-is_strict-clause-lies : goal.returns-then-is_strict-clause-lies
returns-then-is_strict-clause-lies g c = λ b o n h. c.list_chain.ensures.lies b o n (c.each_block.invariant.lies b o n h)

pub returns-in_err-batch-clause-has : goal.returns-in_err-batch-clause-has
returns-in_err-batch-clause-has g c = λ b o n h. c.list_chain.ensures.has b o n (c.each_block.invariant.has b o n h)

pub returns-in_err-batch-clause-lies : goal.returns-in_err-batch-clause-lies
returns-in_err-batch-clause-lies g c = λ b o n h. c.list_chain.ensures.lies b o n (c.each_block.invariant.lies b o n h)

pub list_chain-requires-clause-own : goal.list_chain-requires-clause-own
list_chain-requires-clause-own g c =
    subst (λ k. IfSome c.take-listing.result (λ (l : Listing). is_of (record { block = c.args.block_size; index = k }) c.each_block.block l ≡ true)) (sym c.each_block.invariant.len)
    (own_listing (record { block = c.args.block_size; index = c.args.index_size }) c.each_block.block c.each_block.listings.slots.items c.take-listing.result c.take-listing.ensures.taken)

pub returns-then-is_strict-clause-cut : goal.returns-then-is_strict-clause-cut
returns-then-is_strict-clause-cut g c = λ bytes failed known sources is.
    let inv = c.each_block.invariant in
    let b = c.each_block.block in
    let n = c.args.index_size in
    let s : Sizes = record { block = c.args.block_size; index = n } in
    let chain = c.in_ok-bytes.field-0 in
    let S = SurelyCame (g.D.Disk.surely_has c.args.disk.now) (g.D.Disk.surely_lies c.args.disk.now) (g.D.Disk.faults c.args.disk.now) (g.D.Disk.faults c.list_chain.new.disk) in
    let found : c.take-listing.result ≡ listing_at s b c.args.listings.slots.items = c.take-listing.ensures.taken ∙ ap (λ o. if_of s b (listing_in o)) (inv.slots b (omega arith)) in
    let cut : chain.is_cut ≡ true = cc in
    cut_here s bytes (sure_of s c.args.listings.slots.items failed S) c.args.is_strict c.args.blocks b c.each_block.batch.items chain.kept.items chain.is_cut c.each_block-test.true c.if-is_strict.true cut
    (kept_here c.args.block_size n (vec_len c.each_block.buffer) c.args.listings.slots.items c.take-listing.result (g.D.Disk.byte_at c.each_block.disk) (g.D.Disk.byte_at c.args.disk.now) bytes failed
    (SurelyCame (g.D.Disk.surely_has c.each_block.disk) (g.D.Disk.surely_lies c.each_block.disk) (g.D.Disk.faults c.each_block.disk) (g.D.Disk.faults c.list_chain.new.disk)) S b
    c.each_block.batch.items chain.kept.items chain.is_cut inv.len inv.same found
    (came_behind (g.D.Disk.surely_has c.args.disk.now) (g.D.Disk.surely_lies c.args.disk.now) (g.D.Disk.faults c.args.disk.now) (g.D.Disk.faults c.each_block.disk) (g.D.Disk.faults c.list_chain.new.disk)
    inv.counted c.list_chain.ensures.counted (g.D.Disk.surely_has c.each_block.disk) (g.D.Disk.surely_lies c.each_block.disk) inv.has inv.lies)
    (c.in_ok-bytes.ensures.kept (bytes b) (failed b) (inv.known known)) (sources b c.each_block-test.true))

pub returns-in_err-batch-clause-cut : goal.returns-in_err-batch-clause-cut
returns-in_err-batch-clause-cut g c = λ bytes failed known sources.
    let p = err_from_is_err_and c.from_residual-in_err-batch.result c.from_residual-in_err-batch.ensures.1 in
    not_cut c.from_residual-in_err-batch.result p.0 _ p.1 (cc (p.2, c.in_err-batch.ensures.memory))

pub each_block-preserved : goal.each_block-preserved
each_block-preserved g c =
    let inv = c.each_block.invariant in
    let b = c.each_block.block in
    let n = c.args.index_size in
    let s : Sizes = record { block = c.args.block_size; index = n } in
    let chain = c.in_ok-bytes.field-0 in
    let S = SurelyCame (g.D.Disk.surely_has c.args.disk.now) (g.D.Disk.surely_lies c.args.disk.now) (g.D.Disk.faults c.args.disk.now) (g.D.Disk.faults c.list_chain.new.disk) in
    let B = SurelyCame (g.D.Disk.surely_has c.args.disk.now) (g.D.Disk.surely_lies c.args.disk.now) (g.D.Disk.faults c.args.disk.now) (g.D.Disk.faults c.each_block.disk) in
    let found : c.take-listing.result ≡ listing_at s b c.args.listings.slots.items = c.take-listing.ensures.taken ∙ ap (λ o. if_of s b (listing_in o)) (inv.slots b (omega arith)) in
    let len : length c.each_block.batch.items ≡ c.len-before.result = omega (arith, c.each_block.batch.ok.0, c.len-before.ensures) in
    let uncut : c.args.is_strict ≡ true → chain.is_cut ≡ false = elim c.else-is_cut.branch [
      | else-is_cut-via-then-is_cut+else-is_strict w ↦ λ is. absurd (let may : c.args.is_strict ≡ false = w.if-is_strict.false in cc)
      | else-is_cut-via-else-is_cut w ↦ λ is. w.if-is_cut.false
    ] in
    let some : IsSomeKept s b c.each_block.batch.items chain.kept.items = subst (λ k. IsSomeKept (record { block = c.args.block_size; index = k }) b c.each_block.batch.items chain.kept.items) inv.len c.in_ok-bytes.ensures.some in
    record {
      len = c.in_ok-bytes.ensures.len ∙ inv.len;
      slots = λ k le. ap (λ l. slice_get l k) c.take-listing.ensures.left ∙ slice_get-set_other c.each_block.listings.slots.items b k None (λ is. absurd (omega (arith, le, is))) ∙ inv.slots k (omega (arith, le));
      known = λ k. c.list_chain.ensures.known (inv.known k);
      same = c.list_chain.ensures.same ∙ inv.same;
      has = λ x o m h. c.list_chain.ensures.has x o m (inv.has x o m h);
      lies = λ x o m h. c.list_chain.ensures.lies x o m (inv.lies x o m h);
      counted = omega (arith, inv.counted, c.list_chain.ensures.counted);
      blocks = λ bytes failed known sources.
          let is : IsKeptOf s (bytes b) (λ p. sure_of s c.args.listings.slots.items failed S b p n) b c.each_block.batch.items chain.kept.items chain.is_cut =
          kept_here c.args.block_size n (vec_len c.each_block.buffer) c.args.listings.slots.items c.take-listing.result (g.D.Disk.byte_at c.each_block.disk) (g.D.Disk.byte_at c.args.disk.now) bytes failed
          (SurelyCame (g.D.Disk.surely_has c.each_block.disk) (g.D.Disk.surely_lies c.each_block.disk) (g.D.Disk.faults c.each_block.disk) (g.D.Disk.faults c.list_chain.new.disk)) S b
          c.each_block.batch.items chain.kept.items chain.is_cut inv.len inv.same found
          (came_behind (g.D.Disk.surely_has c.args.disk.now) (g.D.Disk.surely_lies c.args.disk.now) (g.D.Disk.faults c.args.disk.now) (g.D.Disk.faults c.each_block.disk) (g.D.Disk.faults c.list_chain.new.disk)
          inv.counted c.list_chain.ensures.counted (g.D.Disk.surely_has c.each_block.disk) (g.D.Disk.surely_lies c.each_block.disk) inv.has inv.lies)
          (c.in_ok-bytes.ensures.kept (bytes b) (failed b) (inv.known known)) (sources b c.each_block-test.true) in
          more_read s bytes (sure_of s c.args.listings.slots.items failed S) c.args.is_strict b
          (gathered c.each_block.read c.each_block.batch.items) (gathered c.take_block.new.self c.in_ok-batch.batch.items) (hashed_entries b (kept is.listed)) chain.is_cut
          (read_with_fewer s b bytes (sure_of s c.args.listings.slots.items failed B) (sure_of s c.args.listings.slots.items failed S) c.args.is_strict (gathered c.each_block.read c.each_block.batch.items)
          (sure_before s c.args.listings.slots.items failed S B (came_before (g.D.Disk.surely_has c.args.disk.now) (g.D.Disk.surely_lies c.args.disk.now) (g.D.Disk.faults c.args.disk.now) (g.D.Disk.faults c.each_block.disk) (g.D.Disk.faults c.list_chain.new.disk)
          inv.counted c.list_chain.ensures.counted)) (inv.blocks bytes failed known sources))
          (alone s (bytes b) (λ p. sure_of s c.args.listings.slots.items failed S b p n) b c.each_block.batch.items chain.kept.items chain.is_cut is) uncut
          (λ keeps holds this. c.in_ok-batch.ensures.taken c.each_block.batch.items keeps len (is.kept ∙ ap (λ es. c.each_block.batch.items ++ es) this) holds);
      some =
          more_kept s b (gathered c.each_block.read c.each_block.batch.items) (gathered c.take_block.new.self c.in_ok-batch.batch.items) (hashed_entries b some.keeps) inv.some
          (some_alone s b c.each_block.batch.items chain.kept.items some)
          (λ keeps holds this. c.in_ok-batch.ensures.taken c.each_block.batch.items keeps len (some.kept ∙ ap (λ es. c.each_block.batch.items ++ es) this) holds);
    }

pub returns-clause-kept : goal.returns-clause-kept
returns-clause-kept g c = λ bytes failed known sources.
    let s : Sizes = record { block = c.args.block_size; index = c.args.index_size } in
    let all : c.each_block.block ≡ c.args.blocks = omega arith in
    let S = sure_of s c.args.listings.slots.items failed (SurelyCame (g.D.Disk.surely_has c.args.disk.now) (g.D.Disk.surely_lies c.args.disk.now) (g.D.Disk.faults c.args.disk.now) (g.D.Disk.faults c.each_block.disk)) in
    subst (λ k. AreBlocksRead s k bytes S c.args.is_strict c.take_batch.new.self) all
    (all_read s c.each_block.block bytes S c.args.is_strict c.each_block.read c.take_batch.new.self c.each_block.batch.items c.in_ok-take_batch.ensures.index c.in_ok-take_batch.ensures.greatest
    (ap (λ v. v.items) c.in_ok-take_batch.ensures.clean) (c.each_block.invariant.blocks bytes failed known sources))

pub returns-clause-some : goal.returns-clause-some
returns-clause-some g c =
    let s : Sizes = record { block = c.args.block_size; index = c.args.index_size } in
    let all : c.each_block.block ≡ c.args.blocks = omega arith in
    subst (λ k. AreSomeKept s k c.take_batch.new.self) all
    (all_some s c.each_block.block c.each_block.read c.take_batch.new.self c.each_block.batch.items c.in_ok-take_batch.ensures.index c.in_ok-take_batch.ensures.greatest
    (ap (λ v. v.items) c.in_ok-take_batch.ensures.clean) c.each_block.invariant.some)
