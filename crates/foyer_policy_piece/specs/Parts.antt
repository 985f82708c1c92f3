-- How a piece is kept.
use Rattle.foyer_policy_piece.specs.declared.keeper.Parts.{Parts}
use Rattle.foyer_policy_piece.specs.Record.{Record, record_of}

abbrev pub record_of_parts : {K V P : Type 0} → Parts K V P → Record K V P
record_of_parts parts = record_of parts.key parts.value parts.hash parts.properties
