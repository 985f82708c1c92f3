-- What pickers answer, as the model judges it.
use Rattle.std.specs.Prelude.{◌≡◌, true, List, length}
use Rattle.foyer_core_model.specs.Reclaim.{first_pick, are_asked}
use Rattle.foyer_block_manager.specs.Managed.{Managed}
use Rattle.foyer_block_manager.specs.Pickers.{Answer, answers_given, pick_of}
use Rattle.foyer_block_manager.specs.BlockSets.{BlockSets, Stands}

-- pickers are consulted as the model does it, and the first pick is the same
pub record MatchTheModel (m : Managed) (s : BlockSets) (says : List Answer) : Type 0 where
  pub answers_match : are_asked (length says) (length m.blocks) s.block_set (answers_given m.blocks says) ≡ true
  pub pick_matches : first_pick (length m.blocks) s.block_set (answers_given m.blocks says) ≡ pick_of m.blocks says

abbrev pub PicksMatchTheModel : Type 0
PicksMatchTheModel = (m : Managed) (s : BlockSets) (says : List Answer) → Stands m s → MatchTheModel m s says
