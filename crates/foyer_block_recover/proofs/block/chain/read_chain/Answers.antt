use Rattle.std.proofs.Common.{◌≡◌, ℕ, ◌+◌, ◌≤◌, vec_len, true, false, refl, sym, ap, subst, ◌∙◌, rules, arith}
use Rattle.std.specs.Option.{option_map}
use Rattle.foyer_format_layout.specs.BlockBytes.{read}
use Rattle.foyer_block_scan.specs.Fills.{AreSizes}
use Rattle.foyer_format_layout.specs.Position.{Sizes}
use Rattle.foyer_block_scan.specs.ScanState.{Scan}
use Rattle.foyer_io_disk.specs.Disk.{SurelyCame}
use Rattle.foyer_io_disk.proofs.FaultLemmas.{came_behind}
use Rattle.foyer_block_recover.specs.Chained.{IsKeptOf}
use Rattle.foyer_block_recover.specs.Placed.{IsSomeKept}
use Rattle.foyer_block_recover.proofs.ChainLemmas.{step_stays, falls, along_start, along_on, along_ends, along_fails, some_start, some_on, some_ends}
use Rattle.foyer_block_recover.proofs.block.chain.read_chain.Goals as goal

pub each_index-init : goal.each_index-init
each_index-init g c =
    let n = c.len-index_size.result in
    let size : n ≡ vec_len c.args.buffer = search rules in
    let sizes : AreSizes (record { block = c.args.block_size; index = n }) = subst (λ k. AreSizes (record { block = c.args.block_size; index = k })) (sym size) c.requires.sizes in
    record {
      len = sym size;
      size = size;
      sizes = c.new-scanner.ensures.sizes.2;
      block = c.new-scanner.ensures.sizes.0;
      filling = c.new-scanner.ensures.sizes.1;
      known = λ k. k;
      same = refl;
      has = λ b o m h. h;
      lies = λ b o m h. h;
      counted = omega arith;
      along = λ known. along_start (record { block = c.args.block_size; index = n }) (g.D.Disk.byte_at c.args.disk.now c.args.block) sizes c.args.block
          c.args.kept.items c.new-scanner.result.blob_offset c.new-scanner.ensures.blob_offset;
      some = some_start (record { block = c.args.block_size; index = n }) (λ o. 0) sizes c.args.block c.args.kept.items;
    }

pub returns-then-not-came-clause-kept : goal.returns-then-not-came-clause-kept
returns-then-not-came-clause-kept g c = λ known.
    let inv = c.each_index.invariant in
    let n = c.len-index_size.result in
    let b = c.args.block in
    let sizes : AreSizes (record { block = c.args.block_size; index = n }) = subst (λ k. AreSizes (record { block = c.args.block_size; index = k })) (sym inv.size) c.requires.sizes in
    let room : c.in-Some.offset + n ≤ c.args.block_size = subst (λ (y : Sizes). c.in-Some.offset + y.index ≤ y.block) inv.sizes c.in-Some.ensures.within in
    let old = SurelyCame (g.D.Disk.surely_has c.args.disk.now) (g.D.Disk.surely_lies c.args.disk.now) (g.D.Disk.faults c.args.disk.now) (g.D.Disk.faults c.read_index-bytes.new.disk) b in
    let is : IsKeptOf (record { block = c.args.block_size; index = n }) (g.D.Disk.byte_at c.args.disk.now b) (λ p. old p n) b c.args.kept.items c.each_index.kept.items true =
    along_fails (record { block = c.args.block_size; index = n }) (g.D.Disk.byte_at c.args.disk.now b) sizes (λ p. old p n) b c.in-Some.offset c.args.kept.items c.each_index.kept.items
    c.each_index.last c.each_index.scanner.blob_offset (sym c.in-Some.ensures.blob_offset) room
    (λ sure. c.read_index-bytes.ensures.fault c.if-not-came.true
    (subst (λ k. SurelyCame (g.D.Disk.surely_has c.each_index.disk) (g.D.Disk.surely_lies c.each_index.disk) (g.D.Disk.faults c.each_index.disk) (g.D.Disk.faults c.read_index-bytes.new.disk) b c.in-Some.offset k) (sym inv.len)
    (came_behind (g.D.Disk.surely_has c.args.disk.now) (g.D.Disk.surely_lies c.args.disk.now) (g.D.Disk.faults c.args.disk.now) (g.D.Disk.faults c.each_index.disk) (g.D.Disk.faults c.read_index-bytes.new.disk)
    inv.counted c.read_index-bytes.ensures.counted (g.D.Disk.surely_has c.each_index.disk) (g.D.Disk.surely_lies c.each_index.disk) inv.has inv.lies b c.in-Some.offset n sure)))
    (inv.along known) in
    subst (λ k. IsKeptOf (record { block = c.args.block_size; index = k }) (g.D.Disk.byte_at c.args.disk.now b) (λ p. old p k) b c.args.kept.items c.each_index.kept.items true) inv.size is

pub each_index-smaller : goal.each_index-smaller
each_index-smaller g c =
    let inv = c.each_index.invariant in
    let n = c.len-index_size.result in
    let sizes : AreSizes (record { block = c.args.block_size; index = n }) = subst (λ k. AreSizes (record { block = c.args.block_size; index = k })) (sym inv.size) c.requires.sizes in
    let room : c.in-Some.offset + n ≤ c.args.block_size = subst (λ (y : Sizes). c.in-Some.offset + y.index ≤ y.block) inv.sizes c.in-Some.ensures.within in
    falls (record { block = c.args.block_size; index = n }) (λ o. 0) sizes c.each_index.scanner c.in-Some.offset c.deref.result.now inv.sizes (sym c.in-Some.ensures.blob_offset) room
    c.next.new.self c.in_ok-listed.ensures.scan

pub each_index-preserved : goal.each_index-preserved
each_index-preserved g c =
    let inv = c.each_index.invariant in
    let n = c.len-index_size.result in
    let b = c.args.block in
    let B = g.D.Disk.byte_at c.args.disk.now b in
    let scan = c.each_index.scanner in
    let bytes = c.deref.result.now in
    let sizes : AreSizes (record { block = c.args.block_size; index = n }) = subst (λ k. AreSizes (record { block = c.args.block_size; index = k })) (sym inv.size) c.requires.sizes in
    let room : c.in-Some.offset + n ≤ c.args.block_size = subst (λ (y : Sizes). c.in-Some.offset + y.index ≤ y.block) inv.sizes c.in-Some.ensures.within in
    let stays = step_stays scan scan.blob_offset bytes in
    record {
      len = c.read_index-bytes.ensures.len ∙ inv.len;
      size = inv.size;
      sizes = ap (λ (s : Scan). s.sizes) c.in_ok-listed.ensures.scan ∙ stays.0 ∙ inv.sizes;
      block = ap (λ (s : Scan). s.block) c.in_ok-listed.ensures.scan ∙ stays.1 ∙ inv.block;
      filling = ap (λ (s : Scan). s.filling) c.in_ok-listed.ensures.scan ∙ stays.2 ∙ inv.filling;
      known = λ k. c.read_index-bytes.ensures.known (inv.known k);
      same = c.read_index-bytes.ensures.same ∙ inv.same;
      has = λ x o m h. c.read_index-bytes.ensures.has x o m (inv.has x o m h);
      lies = λ x o m h. c.read_index-bytes.ensures.lies x o m (inv.lies x o m h);
      counted = omega (arith, inv.counted, c.read_index-bytes.ensures.counted);
      along = λ known.
          let came = c.read_index-bytes.ensures.bytes (inv.known known) c.if-not-came.false in
          let read_so : bytes ≡ read B c.in-Some.offset n =
          c.deref.ensures.value ∙ came ∙ ap (λ (f : ℕ → ℕ → ℕ). read (f b) c.in-Some.offset (vec_len c.each_index.buffer)) inv.same ∙ ap (read B c.in-Some.offset) inv.len in
          along_on (record { block = c.args.block_size; index = n }) B sizes scan c.in-Some.offset bytes inv.sizes (sym c.in-Some.ensures.blob_offset) room b inv.block inv.filling read_so
          c.next.new.self (option_map (λ infos. infos.items) c.in_ok-listed.listed) c.args.kept.items c.each_index.kept.items c.keep_listed.new.kept.items c.each_index.last c.in_ok-last.last
          c.in_ok-listed.ensures.scan c.in_ok-listed.ensures.listed c.in_ok-last.ensures.kept c.in_ok-last.ensures.last (inv.along known);
      some =
          some_on (record { block = c.args.block_size; index = n }) (λ o. 0) sizes scan c.in-Some.offset bytes inv.sizes (sym c.in-Some.ensures.blob_offset) room b inv.block inv.filling
          (option_map (λ infos. infos.items) c.in_ok-listed.listed) c.args.kept.items c.each_index.kept.items c.keep_listed.new.kept.items c.each_index.last c.in_ok-last.last
          c.in_ok-listed.ensures.listed c.in_ok-last.ensures.hashed c.in_ok-last.ensures.kept c.in_ok-last.ensures.last inv.some;
    }

pub returns-clause-kept : goal.returns-clause-kept
returns-clause-kept g c = λ known.
    let inv = c.each_index.invariant in
    let n = c.len-index_size.result in
    let b = c.args.block in
    let sizes : AreSizes (record { block = c.args.block_size; index = n }) = subst (λ k. AreSizes (record { block = c.args.block_size; index = k })) (sym inv.size) c.requires.sizes in
    let old = SurelyCame (g.D.Disk.surely_has c.args.disk.now) (g.D.Disk.surely_lies c.args.disk.now) (g.D.Disk.faults c.args.disk.now) (g.D.Disk.faults c.each_index.disk) b in
    let is : IsKeptOf (record { block = c.args.block_size; index = n }) (g.D.Disk.byte_at c.args.disk.now b) (λ p. old p n) b c.args.kept.items c.each_index.kept.items false =
    along_ends (record { block = c.args.block_size; index = n }) (g.D.Disk.byte_at c.args.disk.now b) sizes (λ p. old p n) b c.args.kept.items c.each_index.kept.items
    c.each_index.last c.each_index.scanner.blob_offset (sym c.blob_offset.ensures.blob_offset ∙ c.in_default.is) (inv.along known) in
    subst (λ k. IsKeptOf (record { block = c.args.block_size; index = k }) (g.D.Disk.byte_at c.args.disk.now b) (λ p. old p k) b c.args.kept.items c.each_index.kept.items false) inv.size is

pub returns-then-not-came-clause-some : goal.returns-then-not-came-clause-some
returns-then-not-came-clause-some g c =
    let inv = c.each_index.invariant in
    let n = c.len-index_size.result in
    let sizes : AreSizes (record { block = c.args.block_size; index = n }) = subst (λ k. AreSizes (record { block = c.args.block_size; index = k })) (sym inv.size) c.requires.sizes in
    subst (λ k. IsSomeKept (record { block = c.args.block_size; index = k }) c.args.block c.args.kept.items c.each_index.kept.items) inv.size
    (some_ends (record { block = c.args.block_size; index = n }) (λ o. 0) sizes c.args.block c.args.kept.items c.each_index.kept.items c.each_index.last inv.some)

pub returns-clause-some : goal.returns-clause-some
returns-clause-some g c =
    let inv = c.each_index.invariant in
    let n = c.len-index_size.result in
    let sizes : AreSizes (record { block = c.args.block_size; index = n }) = subst (λ k. AreSizes (record { block = c.args.block_size; index = k })) (sym inv.size) c.requires.sizes in
    subst (λ k. IsSomeKept (record { block = c.args.block_size; index = k }) c.args.block c.args.kept.items c.each_index.kept.items) inv.size
    (some_ends (record { block = c.args.block_size; index = n }) (λ o. 0) sizes c.args.block c.args.kept.items c.each_index.kept.items c.each_index.last inv.some)
