use Rattle.std.proofs.Common.{◌<◌, refl}
use Rattle.foyer_format_blob.specs.Blob.{capacity_of}
use Rattle.foyer_format_buffer.proofs.SplitLemmas.{finishes}
use Rattle.foyer_format_buffer.proofs.split_progress.SplitProgress.finish.Goals as goal

pub returns-clause-placed : goal.returns-clause-placed
returns-clause-placed g c = λ f all going.
    let closed = c.in_ok-close.ensures.closed f all _ going in
    let room : c.close.new.self.index.count < capacity_of c.close.new.self.index_size =
    rw (c.in_ok-close.ensures.index, c.in_ok-close.ensures.moves.index_size) c.requires.open in
    finishes c.args.bytes.now f all (record { blob_parts = c.close.new.self.parts }) c.close.new.self _ room refl c.in_ok-end_block.ensures.blocks closed
