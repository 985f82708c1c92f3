use Rattle.std.proofs.Common.{rules}
use Rattle.foyer_format_buffer.proofs.split_progress.SplitProgress.room_in_block.Goals as goal

pub next_block-requires-clause-over : goal.next_block-requires-clause-over
next_block-requires-clause-over g c = search rules depth 1
