use Rattle.std.proofs.Common.{◌≡◌, ◌++◌, true, vec_len, IfSome, sym, subst}
use Rattle.foyer_io_disk.specs.Disk.{SurelyCame}
use Rattle.foyer_format_layout.specs.Position.{Sizes}
use Rattle.foyer_block_recover.specs.Placed.{IsSomeKept}
use Rattle.foyer_block_recover.specs.Sources.{Listing, is_of}
use Rattle.foyer_block_recover.proofs.SourcesLemmas.{by_disk, of_this, some_by, within_of}
use Rattle.foyer_block_recover.proofs.block.listing.list_chain.Goals as goal

pub returns-in_default-clause-kept : goal.returns-in_default-clause-kept
returns-in_default-clause-kept g c = λ B failed known source.
    let n = vec_len c.args.buffer in
    by_disk (record { block = c.args.block_size; index = n }) c.args.block c.args.listing B (g.D.Disk.byte_at c.args.disk.now c.args.block) failed
    (λ p. SurelyCame (g.D.Disk.surely_has c.args.disk.now) (g.D.Disk.surely_lies c.args.disk.now) (g.D.Disk.faults c.args.disk.now) (g.D.Disk.faults c.read_chain.new.disk) c.args.block p n)
    c.args.kept.items c.read_chain.result (λ chain. chain.kept.items) (λ chain. chain.is_cut) c.in_default.is source (c.read_chain.ensures.kept known)

pub returns-clause-some : goal.returns-clause-some
returns-clause-some g c =
    let s : Sizes = record { block = c.args.block_size; index = vec_len c.args.buffer } in
    let b = c.args.block in
    let l = c.in-Some.listing in
    let own : is_of s b l ≡ true = subst (λ o. IfSome o (λ (x : Listing). is_of s b x ≡ true)) c.in-Some.is c.requires.own in
    let here : IsSomeKept s b c.args.kept.items (c.args.kept.items ++ l.kept) =
    some_by s b c.args.kept.items l.kept (within_of s b l (of_this s b l own) c.into_kept-listed.ensures.within) in
    subst (λ es. IsSomeKept s b c.args.kept.items es) (sym c.in_ok-append.ensures.items)
    (subst (λ es. IsSomeKept s b c.args.kept.items (c.args.kept.items ++ es)) (sym c.into_kept-listed.ensures.kept) here)
