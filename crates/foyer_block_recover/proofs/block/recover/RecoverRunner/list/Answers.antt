use Rattle.std.proofs.Common.{◌∙◌, map, refl, sym, append-nil, arith}
use Rattle.foyer_io_disk.specs.Disk.{SurelyCame}
use Rattle.foyer_io_disk.proofs.FaultLemmas.{came_before, came_behind}
use Rattle.foyer_block_recover.specs.Recovery.{sizes_of}
use Rattle.foyer_block_recover.specs.Sources.{block_of}
use Rattle.foyer_block_recover.proofs.SourcesLemmas.{none_listed_to, both_listed, share_more}
use Rattle.foyer_block_recover.proofs.block.recover.RecoverRunner.list.Goals as goal

pub returns-then-eq-clause-listed : goal.returns-then-eq-clause-listed
returns-then-eq-clause-listed g c =
    let r = c.args.self.now in
    none_listed_to (sizes_of r) r.blocks c.args.worker c.args.workers (g.D.Disk.is_known c.args.disk.now) (g.D.Disk.byte_at c.args.disk.now)
    (SurelyCame (g.D.Disk.surely_has c.args.disk.now) (g.D.Disk.surely_lies c.args.disk.now) (g.D.Disk.faults c.args.disk.now) (g.D.Disk.faults c.args.disk.now)) c.args.listings.now.items

pub returns-in_err-clone-clause-listed : goal.returns-in_err-clone-clause-listed
returns-in_err-clone-clause-listed g c =
    let r = c.args.self.now in
    none_listed_to (sizes_of r) r.blocks c.args.worker c.args.workers (g.D.Disk.is_known c.args.disk.now) (g.D.Disk.byte_at c.args.disk.now)
    (SurelyCame (g.D.Disk.surely_has c.args.disk.now) (g.D.Disk.surely_lies c.args.disk.now) (g.D.Disk.faults c.args.disk.now) (g.D.Disk.faults c.args.disk.now)) c.args.listings.now.items

pub returns-in_err-buffer-clause-listed : goal.returns-in_err-buffer-clause-listed
returns-in_err-buffer-clause-listed g c =
    let r = c.args.self.now in
    none_listed_to (sizes_of r) r.blocks c.args.worker c.args.workers (g.D.Disk.is_known c.args.disk.now) (g.D.Disk.byte_at c.args.disk.now)
    (SurelyCame (g.D.Disk.surely_has c.args.disk.now) (g.D.Disk.surely_lies c.args.disk.now) (g.D.Disk.faults c.args.disk.now) (g.D.Disk.faults c.args.disk.now)) c.args.listings.now.items

pub each_block-init : goal.each_block-init
each_block-init g c =
    let r = c.args.self.now in
    record {
      len = c.in_ok-buffer.ensures.len;
      known = λ k. k;
      same = refl;
      has = λ b o n h. h;
      lies = λ b o n h. h;
      counted = omega arith;
      listed = none_listed_to (sizes_of r) r.blocks c.args.worker c.args.workers (g.D.Disk.is_known c.args.disk.now) (g.D.Disk.byte_at c.args.disk.now)
          (SurelyCame (g.D.Disk.surely_has c.args.disk.now) (g.D.Disk.surely_lies c.args.disk.now) (g.D.Disk.faults c.args.disk.now) (g.D.Disk.faults c.args.disk.now)) c.args.listings.now.items;
      share = sym (append-nil (map block_of c.args.listings.now.items));
    }

pub returns-in_err-buffer-2-clause-listed : goal.returns-in_err-buffer-2-clause-listed
returns-in_err-buffer-2-clause-listed g c =
    let r = c.args.self.now in
    let inv = c.each_block.invariant in
    both_listed (sizes_of r) r.blocks c.args.worker c.args.workers (g.D.Disk.is_known c.args.disk.now) (g.D.Disk.is_known c.each_block.disk) (g.D.Disk.byte_at c.args.disk.now) (g.D.Disk.byte_at c.each_block.disk)
    (SurelyCame (g.D.Disk.surely_has c.args.disk.now) (g.D.Disk.surely_lies c.args.disk.now) (g.D.Disk.faults c.args.disk.now) (g.D.Disk.faults c.each_block.disk))
    (SurelyCame (g.D.Disk.surely_has c.each_block.disk) (g.D.Disk.surely_lies c.each_block.disk) (g.D.Disk.faults c.each_block.disk) (g.D.Disk.faults c.list_block.new.disk))
    (SurelyCame (g.D.Disk.surely_has c.args.disk.now) (g.D.Disk.surely_lies c.args.disk.now) (g.D.Disk.faults c.args.disk.now) (g.D.Disk.faults c.list_block.new.disk))
    c.args.listings.now.items c.each_block.listings.items c.list_block.new.listings.items inv.known inv.same
    (came_before (g.D.Disk.surely_has c.args.disk.now) (g.D.Disk.surely_lies c.args.disk.now) (g.D.Disk.faults c.args.disk.now) (g.D.Disk.faults c.each_block.disk) (g.D.Disk.faults c.list_block.new.disk) inv.counted c.list_block.ensures.counted)
    (came_behind (g.D.Disk.surely_has c.args.disk.now) (g.D.Disk.surely_lies c.args.disk.now) (g.D.Disk.faults c.args.disk.now) (g.D.Disk.faults c.each_block.disk) (g.D.Disk.faults c.list_block.new.disk) inv.counted c.list_block.ensures.counted
    (g.D.Disk.surely_has c.each_block.disk) (g.D.Disk.surely_lies c.each_block.disk) inv.has inv.lies) inv.listed c.list_block.ensures.listed

pub each_block-preserved : goal.each_block-preserved
each_block-preserved g c =
    let r = c.args.self.now in
    let inv = c.each_block.invariant in
    record {
      len = c.in_ok-buffer-2.ensures.len;
      known = λ k. c.list_block.ensures.known (inv.known k);
      same = c.list_block.ensures.same ∙ inv.same;
      has = λ x o m h. c.list_block.ensures.has x o m (inv.has x o m h);
      lies = λ x o m h. c.list_block.ensures.lies x o m (inv.lies x o m h);
      counted = omega (arith, inv.counted, c.list_block.ensures.counted);
      listed = both_listed (sizes_of r) r.blocks c.args.worker c.args.workers (g.D.Disk.is_known c.args.disk.now) (g.D.Disk.is_known c.each_block.disk) (g.D.Disk.byte_at c.args.disk.now) (g.D.Disk.byte_at c.each_block.disk)
          (SurelyCame (g.D.Disk.surely_has c.args.disk.now) (g.D.Disk.surely_lies c.args.disk.now) (g.D.Disk.faults c.args.disk.now) (g.D.Disk.faults c.each_block.disk))
          (SurelyCame (g.D.Disk.surely_has c.each_block.disk) (g.D.Disk.surely_lies c.each_block.disk) (g.D.Disk.faults c.each_block.disk) (g.D.Disk.faults c.list_block.new.disk))
          (SurelyCame (g.D.Disk.surely_has c.args.disk.now) (g.D.Disk.surely_lies c.args.disk.now) (g.D.Disk.faults c.args.disk.now) (g.D.Disk.faults c.list_block.new.disk))
          c.args.listings.now.items c.each_block.listings.items c.list_block.new.listings.items inv.known inv.same
          (came_before (g.D.Disk.surely_has c.args.disk.now) (g.D.Disk.surely_lies c.args.disk.now) (g.D.Disk.faults c.args.disk.now) (g.D.Disk.faults c.each_block.disk) (g.D.Disk.faults c.list_block.new.disk) inv.counted c.list_block.ensures.counted)
          (came_behind (g.D.Disk.surely_has c.args.disk.now) (g.D.Disk.surely_lies c.args.disk.now) (g.D.Disk.faults c.args.disk.now) (g.D.Disk.faults c.each_block.disk) (g.D.Disk.faults c.list_block.new.disk) inv.counted c.list_block.ensures.counted
          (g.D.Disk.surely_has c.each_block.disk) (g.D.Disk.surely_lies c.each_block.disk) inv.has inv.lies) inv.listed c.list_block.ensures.listed;
      share = share_more (map block_of c.each_block.listings.items) (map block_of c.list_block.new.listings.items) (map block_of c.args.listings.now.items) c.args.worker c.args.workers c.each_block.block inv.share c.in_ok-buffer-2.ensures.all;
    }
