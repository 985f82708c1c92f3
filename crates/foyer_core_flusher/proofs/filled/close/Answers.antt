use Rattle.std.proofs.Common.{sym, ap, length, ◌∙◌, arith}
use Rattle.foyer_core_flusher.proofs.FilledLemmas.{finished_taken, full_of}
use Rattle.foyer_core_flusher.proofs.filled.close.Goals as goal

pub resume-requires-clause-written : goal.resume-requires-clause-written
resume-requires-clause-written g c =
    let e = finished_taken c.args.buffer c.finish-pages.result.0 c.finish-pages.result.1.items c.finish-pages.ensures in
    sym e ∙ sym c.written-written.ensures

pub resume-requires-clause-within : goal.resume-requires-clause-within
resume-requires-clause-within g c =
    let e = finished_taken c.args.buffer c.finish-pages.result.0 c.finish-pages.result.1.items c.finish-pages.ensures in
    omega (arith, e, c.written-written.ensures, c.finish-pages.ensures.within, ap length c.in-Err.ensures.handed_back)

pub returns-in-Ok-clause-state : goal.returns-in-Ok-clause-state
returns-in-Ok-clause-state g c =
    full_of c.args.buffer c.args.greatest c.finish-pages.result.0 c.in-Ok.bytes c.finish-pages.result.1.items c.written-written.result
    c.in-Ok.ensures.all c.finish-pages.ensures c.requires.greatest c.written-written.ensures
