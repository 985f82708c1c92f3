use Rattle.std.proofs.Common.{◌≡◌, ◌∙◌, ℕ, false, nat_lt, ap, arith}
use Rattle.std.proofs.lemmas.Bool.Decides.{nat_tests}
use Rattle.foyer_core_model.specs.Ids.{is_id_in}
use Rattle.foyer_block_manager.proofs.InitialLemmas.{in_ids}
use Rattle.foyer_block_manager.proofs.block.ids.IdSet.full.Goals as goal

not_below : (n : ℕ) → nat_lt n n ≡ false
not_below n = grind (arith, nat_tests)

pub insert-requires-clause-new : goal.insert-requires-clause-new
insert-requires-clause-new g c = ap (is_id_in c.each_id.id) c.each_id.invariant.0 ∙ in_ids c.each_id.id c.each_id.id ∙ not_below c.each_id.id
