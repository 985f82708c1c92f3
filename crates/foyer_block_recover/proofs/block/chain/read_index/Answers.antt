use Rattle.std.proofs.Common.{◌≡◌, length, vec_len, ap, ◌∙◌, sym, arith}
use Rattle.foyer_format_layout.specs.BlockBytes.{read}
use Rattle.foyer_block_recover.proofs.ChainLemmas.{ok_holds, read_is}
use Rattle.foyer_block_recover.proofs.block.chain.read_index.Goals as goal

pub returns-clause-bytes : goal.returns-clause-bytes
returns-clause-bytes g c = λ known came.
    let bytes = c.read-buffer.result.0 in
    let at = g.D.Disk.byte_at c.args.disk.now c.args.block in
    let len : length bytes.items ≡ vec_len c.args.buffer = omega (arith, bytes.ok.0, c.read-buffer.ensures.len) in
    read_is at c.args.offset bytes.items (ok_holds c.read-buffer.result.1 _ (c.read-buffer.ensures.read known) (sym c.is_ok-came.ensures.value ∙ came))
    ∙ ap (read at c.args.offset) len
