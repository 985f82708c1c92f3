use Rattle.std.proofs.Common.{◌≡◌, [], refl, subst, arith}
use Rattle.foyer_block_recover.specs.BlocksKept.{HoldsKept}
use Rattle.foyer_block_recover.proofs.BlocksLemmas.{holds_still, taken_none}
use Rattle.foyer_block_recover.proofs.block.blocks.read_none.Goals as goal

pub each_id-init : goal.each_id-init
each_id-init g c = holds_still c.in_ok-read.read _ 0 (λ b. []) refl refl c.in_ok-reserve.ensures.items (c.in_ok-read.ensures.none (λ b. []))

pub each_id-preserved : goal.each_id-preserved
each_id-preserved g c = taken_none c.each_id.read _ c.each_id.block (λ b. []) refl refl refl c.in_ok-push.ensures.items c.each_id.invariant

pub returns-clause-none : goal.returns-clause-none
returns-clause-none g c =
    let all : c.each_id.block ≡ c.args.blocks = omega arith in
    subst (λ k. HoldsKept c.each_id.read k (λ b. [])) all c.each_id.invariant
