use Rattle.std.proofs.lemmas.Grind.{common_steps}
use Rattle.std.proofs.Common.{◌≡◌, ◌∙◌, None, replicate, ap, arith}
use Rattle.foyer_block_recover.proofs.block.listing.Listings.new.Goals as goal

pub each_block-preserved : goal.each_block-preserved
each_block-preserved g c = grind (arith, common_steps)

pub returns-clause-empty : goal.returns-clause-empty
returns-clause-empty g c =
    let all : c.each_block.counter ≡ c.args.blocks = omega arith in
    c.each_block.invariant ∙ ap (λ n. replicate n None) all
