use Rattle.std.proofs.Common.{rules, arith}
use Rattle.std.proofs.lemmas.Grind.{common_steps}
use Rattle.foyer_format_blob.proofs.blob.entry_at.Goals as goal

pub slice_bounds-read-count : goal.slice_bounds-read-count
slice_bounds-read-count c = search rules depth 1

pub slice_bounds-read-start : goal.slice_bounds-read-start
slice_bounds-read-start c = search rules depth 1

pub read-requires : goal.read-requires
read-requires c = search rules depth 1

pub returns : goal.returns
returns c = grind (arith, common_steps)
