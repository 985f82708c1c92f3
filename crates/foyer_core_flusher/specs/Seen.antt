-- What a flusher has, whatever room its lists have and whichever spare pages it keeps.
use Rattle.std.specs.Prelude.{ℕ, Bool, ◌==◌, ◌&&◌, List, Option, is_none, vec_len}
use Rattle.std.specs.VecDeque.{deque_len}
use Rattle.foyer_block_index.specs.declared.indexer.EntryAddress.{EntryAddress}
use Rattle.foyer_block_index.specs.declared.tombstone.Tombstone.{Tombstone}
use Rattle.foyer_format_buffer.specs.Entries.{Entries}
use Rattle.foyer_format_buffer.specs.Position.{Context}
use Rattle.foyer_policy_piece.specs.Referred.{Referred}
use Rattle.foyer_core_flusher.specs.declared.batch.Batch.{Batch}
use Rattle.foyer_core_flusher.specs.declared.flusher.Flusher.{Flusher}
use Rattle.foyer_core_blocks.specs.declared.manager.Invalidated.{Invalidated}
use Rattle.foyer_core_flusher.specs.declared.submission.Submission.{Submission}

pub record Seen (K V P A : Type 0) : Type 0 where
  pub queue : List (Submission K V P A)
  pub filled : Entries
  pub sources : List (Option EntryAddress)
  pub marks : List Tombstone
  pub invalid : List Invalidated
  pub pieces : List (Referred K V P)
  pub waits : List ℕ
  pub context : Context
  pub own : Option ℕ
  pub batch : Option (Batch K V P A)

abbrev pub seen : {K V P A : Type 0} → Flusher K V P A → Seen K V P A
seen φ =
    record {
      queue = φ.queue.items;
      filled = φ.filled;
      sources = φ.sources.items;
      marks = φ.marks.items;
      invalid = φ.invalid.items;
      pieces = φ.pieces.items;
      waits = φ.waits.items;
      context = φ.context;
      own = φ.own;
      batch = φ.batch;
    }

-- nothing is queued, received or in a batch
abbrev pub is_still : {K V P A : Type 0} → Flusher K V P A → Bool
is_still φ = (deque_len φ.queue == 0) && (deque_len φ.sources == 0) && (vec_len φ.marks == 0) && (vec_len φ.waits == 0) && is_none φ.batch
