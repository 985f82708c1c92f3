-- What a flusher has when its batch begins: all that was received, split.
use Rattle.std.specs.Prelude.{◌≡◌, List, [], Some, None, is_some}
use Rattle.foyer_block_index.specs.declared.tombstone.Tombstone.{Tombstone}
use Rattle.foyer_format_buffer.specs.declared.split.Batch.{Batch as Split}
use Rattle.foyer_core_flusher.specs.Filled.{WasSplit}
use Rattle.foyer_core_flusher.specs.Seen.{seen}
use Rattle.foyer_core_flusher.specs.declared.batch.Batch.{Batch}
use Rattle.foyer_core_flusher.specs.declared.flusher.Flusher.{Flusher}

pub record IsBegun {K V P A : Type 0} (old new : Flusher K V P A) (marks_issued : List Tombstone) : Type 0 where
  pub batch : Batch K V P A
  pub split : Split A
  pub issued : marks_issued ≡ old.marks.items
  pub was_split : WasSplit old.filled old.context.sizes old.context.filling new.context.filling split
  pub sizes : new.context.sizes ≡ old.context.sizes
  pub blocks : batch.blocks.items ≡ split.blocks.items
  pub pages : batch.pages ≡ split.bytes
  pub sources : batch.sources.items ≡ old.sources.items
  pub continues_own_block : batch.continues_own_block ≡ is_some old.own
  pub writing : batch.writing ≡ None
  pub marks : batch.marks.items ≡ old.marks.items
  pub invalid : batch.invalid.items ≡ old.invalid.items
  pub pieces : batch.pieces.items ≡ old.pieces.items
  pub waits : batch.waits.items ≡ old.waits.items
  pub logged : batch.logged ≡ None
  pub left : seen new ≡ record {
    queue = old.queue.items;
    filled = record { entries = []; room = old.filled.room; greatest = old.filled.greatest };
    sources = [];
    marks = [];
    invalid = [];
    pieces = [];
    waits = [];
    context = new.context;
    own = old.own;
    batch = Some batch;
  }
