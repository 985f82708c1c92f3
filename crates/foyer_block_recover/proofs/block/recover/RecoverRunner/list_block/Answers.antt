use Rattle.std.proofs.Common.{◌≡◌, ◌%◌, true, sym, subst}
use Rattle.std.proofs.lemmas.Bool.{eq-eqb}
use Rattle.foyer_io_disk.specs.Disk.{SurelyCame}
use Rattle.foyer_block_recover.specs.Recovery.{sizes_of}
use Rattle.foyer_block_recover.specs.Sources.{AreListed, IsListingOf, is_shared}
use Rattle.foyer_block_recover.proofs.SourcesLemmas.{none_listed_to, one_listed}
use Rattle.foyer_block_recover.proofs.block.recover.RecoverRunner.list_block.Goals as goal

pub returns-then-block-workers-clause-listed : goal.returns-then-block-workers-clause-listed
returns-then-block-workers-clause-listed g c =
    let r = c.args.self.now in
    none_listed_to (sizes_of r) r.blocks c.args.worker c.args.workers (g.D.Disk.is_known c.args.disk.now) (g.D.Disk.byte_at c.args.disk.now)
    (SurelyCame (g.D.Disk.surely_has c.args.disk.now) (g.D.Disk.surely_lies c.args.disk.now) (g.D.Disk.faults c.args.disk.now) (g.D.Disk.faults c.args.disk.now)) c.args.listings.now.items

pub returns-in_err-listing-clause-listed : goal.returns-in_err-listing-clause-listed
returns-in_err-listing-clause-listed g c =
    let r = c.args.self.now in
    none_listed_to (sizes_of r) r.blocks c.args.worker c.args.workers (g.D.Disk.is_known c.args.disk.now) (g.D.Disk.byte_at c.args.disk.now)
    (SurelyCame (g.D.Disk.surely_has c.args.disk.now) (g.D.Disk.surely_lies c.args.disk.now) (g.D.Disk.faults c.args.disk.now) (g.D.Disk.faults c.read.new.disk)) c.args.listings.now.items

pub returns-in_err-push-clause-listed : goal.returns-in_err-push-clause-listed
returns-in_err-push-clause-listed g c =
    let r = c.args.self.now in
    let S = SurelyCame (g.D.Disk.surely_has c.args.disk.now) (g.D.Disk.surely_lies c.args.disk.now) (g.D.Disk.faults c.args.disk.now) (g.D.Disk.faults c.read.new.disk) in
    subst (λ l. AreListed (sizes_of r) r.blocks c.args.worker c.args.workers (g.D.Disk.is_known c.args.disk.now) (g.D.Disk.byte_at c.args.disk.now) S c.args.listings.now.items l) (sym c.in_err-push.ensures.items)
    (none_listed_to (sizes_of r) r.blocks c.args.worker c.args.workers (g.D.Disk.is_known c.args.disk.now) (g.D.Disk.byte_at c.args.disk.now) S c.args.listings.now.items)

pub returns-clause-listed : goal.returns-clause-listed
returns-clause-listed g c =
    let r = c.args.self.now in
    let b = c.args.block in
    let s = sizes_of r in
    let l = c.in_ok-listing.listing in
    let S = SurelyCame (g.D.Disk.surely_has c.args.disk.now) (g.D.Disk.surely_lies c.args.disk.now) (g.D.Disk.faults c.args.disk.now) (g.D.Disk.faults c.read.new.disk) in
    let own : is_shared c.args.worker c.args.workers b ≡ true = eq-eqb (b % c.args.workers) c.args.worker c.if-block-workers.false in
    let sizes : l.sizes ≡ s = subst (λ k. l.sizes ≡ record { block = r.block_size; index = k }) c.requires.len c.in_ok-listing.ensures.block.1 in
    one_listed s r.blocks c.args.worker c.args.workers b (g.D.Disk.is_known c.args.disk.now) (g.D.Disk.byte_at c.args.disk.now) S c.args.listings.now.items c.push.new.self.items l
    own c.requires.there c.in_ok-listing.ensures.block.0 sizes c.in_ok-push.ensures.items
    (λ known. subst (λ k. IsListingOf (record { block = r.block_size; index = k }) (g.D.Disk.byte_at c.args.disk.now b) (λ p. S b p k) l) c.requires.len (c.in_ok-listing.ensures.lists known))
