use Rattle.std.proofs.Common.{arith}
use Rattle.foyer_format_blob.proofs.BlobLemmas.{entry_put}
use Rattle.foyer_format_blob.proofs.blob.write_entry.Goals as goal

pub returns : goal.returns
returns c =
    let put = entry_put c.args.bytes.now _ c.args.count c.args.index.now (omega arith) c.write.ensures.fits in
    rw c.write.ensures.bytes put
