use Rattle.std.proofs.Common.{rules}
use Rattle.foyer_format_buffer.proofs.split_progress.SplitProgress.room_in_index.Goals as goal

pub next_blob-requires-clause-full : goal.next_blob-requires-clause-full
next_blob-requires-clause-full g c = search rules depth 1
