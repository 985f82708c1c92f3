use Rattle.std.proofs.Common.{◌≡◌, [], vec_len, sym, subst}
use Rattle.foyer_io_disk.specs.Disk.{SurelyCame}
use Rattle.foyer_block_recover.specs.Chained.{IsKeptOf}
use Rattle.foyer_block_recover.specs.Placed.{IsSomeKept}
use Rattle.foyer_block_recover.proofs.SourcesLemmas.{within_by}
use Rattle.foyer_block_recover.proofs.block.listing.BlockListing.read.Goals as goal

pub invariant_of-listing : goal.invariant_of-listing
invariant_of-listing g c =
    let n = c.len-index_size.result in
    let b = c.args.block in
    let chain = c.in_ok-buffer.field-0 in
    let S = SurelyCame (g.D.Disk.surely_has c.args.disk.now) (g.D.Disk.surely_lies c.args.disk.now) (g.D.Disk.faults c.args.disk.now) (g.D.Disk.faults c.read_chain.new.disk) in
    let len : vec_len c.args.buffer ≡ n = sym c.len-index_size.ensures in
    let some : IsSomeKept (record { block = c.args.block_size; index = n }) b [] chain.kept.items =
    subst (λ l. IsSomeKept (record { block = c.args.block_size; index = n }) b l chain.kept.items) c.new-none.ensures.items
    (subst (λ k. IsSomeKept (record { block = c.args.block_size; index = k }) b c.new-none.result.items chain.kept.items) len c.in_ok-buffer.ensures.some) in (
      ∣ record {
        before = c.args.disk.now;
        after = c.read_chain.new.disk;
        lists = λ known.
            subst (λ l. IsKeptOf (record { block = c.args.block_size; index = n }) (g.D.Disk.byte_at c.args.disk.now b) (λ p. S b p n) b l chain.kept.items chain.is_cut) c.new-none.ensures.items
            (subst (λ k. IsKeptOf (record { block = c.args.block_size; index = k }) (g.D.Disk.byte_at c.args.disk.now b) (λ p. S b p k) b c.new-none.result.items chain.kept.items chain.is_cut) len
            (c.in_ok-buffer.ensures.kept known));
      } ∣₁,
      within_by (record { block = c.args.block_size; index = n }) b chain.kept.items some,
    )
