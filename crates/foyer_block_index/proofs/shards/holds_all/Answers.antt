use Rattle.std.proofs.Common.{IsSome, refl, subst, arith}
use Rattle.std.specs.FinMap as map
use Rattle.std.proofs.lemmas.List.{take_all}
use Rattle.std.proofs.lemmas.List.Elements.{All-more}
use Rattle.foyer_block_index.specs.Insertion.{AllHeld}
use Rattle.foyer_block_index.specs.Shards.{map_of}
use Rattle.foyer_block_index.proofs.shards.holds_all.Goals as goal

pub loop-entry-preserved : goal.loop-entry-preserved
loop-entry-preserved g c = All-more (λ e. IsSome (map.get (map_of c.args.shards.now) e.hash)) c.args.batch.now c.loop-entry.entry-index _ c.loop-entry-test.true c.loop-entry.invariant (subst IsSome c.find.ensures c.if-is_none.ensures)

pub returns : goal.returns
returns g c = (λ _. subst (AllHeld (map_of c.args.shards.now)) (take_all c.loop-entry.entry-index c.args.batch.now (omega arith)) c.loop-entry.invariant, λ _. refl)
