use Rattle.std.specs.Prelude.{map}
use Rattle.foyer_format_buffer.specs.Layout.{parts_of}
use Rattle.foyer_format_buffer.proofs.NestingLemmas.{places_nests}
use Rattle.foyer_format_buffer.proofs.laws.batch_is_blocks.Goals as goal

pub returns : goal.returns
returns g c = λ s whole infos f h b placed. places_nests s whole f h infos (map parts_of b.blocks.items) placed.placed
