use Rattle.foyer_format_buffer.proofs.HoldsLemmas.{finished_all}
use Rattle.foyer_ffi.proofs.placing.split.Goals as goal

pub split-requires-clause-each : goal.split-requires-clause-each
split-requires-clause-each c =
    finished_all c.args.ctx.now.sizes c.args.buffer c.finish-pages.result.0 c.finish-pages.result.1.items
    c.finish-pages.ensures c.requires.greatest c.requires.each
