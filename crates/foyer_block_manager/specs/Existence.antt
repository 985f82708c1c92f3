-- Sets that a manager stands for.
use Rattle.foyer_block_manager.specs.BlockSets.{BlockSets, Stands}
use Rattle.foyer_block_manager.specs.Managed.{Managed}

-- each manager stands for some sets
abbrev pub StandsForSome : Type 0
StandsForSome = (m : Managed) → (s : BlockSets) × Stands m s
