use Rattle.std.proofs.Common.{◌∙◌}
use Rattle.foyer_io_engine.proofs.FileLemmas.{file_found, file_missing, nothing_within, some_within}
use Rattle.foyer_io_engine.proofs.io.engine.memory.MemoryIoEngine.has.Goals as goal

pub returns-in-Some : goal.returns-in-Some
returns-in-Some g c =
    let looked = c.in-Some.ensures.lookup in
    rw (file_found c.args.self.now c.deref.result.now c.args.file.0 c.in-Some.found.now (c.deref.ensures.value ∙ c.self.view_is) looked.0 looked.1) c.has.ensures

pub returns-then-len-eq0 : goal.returns-then-len-eq0
returns-then-len-eq0 g c =
    nothing_within _ _ _ (file_missing c.args.self.now c.deref.result.now c.args.file.0 (c.deref.ensures.value ∙ c.self.view_is) c.in-None.ensures.lookup.0) c.if-len-eq0.true

pub returns-else-len-eq0 : goal.returns-else-len-eq0
returns-else-len-eq0 g c =
    some_within _ _ _ (file_missing c.args.self.now c.deref.result.now c.args.file.0 (c.deref.ensures.value ∙ c.self.view_is) c.in-None.ensures.lookup.0) c.if-len-eq0.false
