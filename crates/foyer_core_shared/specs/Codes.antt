-- Codes of facts, by which values that have them beside them are compared.
use Rattle.std.specs.Prelude.{List}
use Rattle.std.specs.Coded.{Coded, prop_coded}
use Rattle.foyer_core_steps.specs.Offsets.{BlockFits, blocks_fit_once}
use Rattle.foyer_format_layout.specs.Each.{Each}
use Rattle.foyer_format_buffer.specs.declared.split.Block.{Block}

abbrev pub fits_code : {A : Type 0} (blocks : List (Block A)) → Coded (Each BlockFits blocks)
fits_code blocks = prop_coded (blocks_fit_once blocks)
