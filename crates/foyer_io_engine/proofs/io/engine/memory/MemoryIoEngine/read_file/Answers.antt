use Rattle.std.proofs.Common.{◌∙◌, ap, arith}
use Rattle.foyer_io_engine.specs.MemoryFile.{len_of}
use Rattle.foyer_io_engine.proofs.FileLemmas.{file_found, file_missing}
use Rattle.foyer_io_engine.proofs.io.engine.memory.MemoryIoEngine.read_file.Goals as goal

pub read_at-requires : goal.read_at-requires
read_at-requires g c =
    let looked = c.in-Some.ensures.lookup in
    let is = ap len_of (file_found c.args.self.now c.deref.result.now c.args.file.0 c.in-Some.found.now (c.deref.ensures.value ∙ c.self.view_is) looked.0 looked.1) in
    omega (arith, is, c.requires)

pub returns-in-Some : goal.returns-in-Some
returns-in-Some g c =
    let looked = c.in-Some.ensures.lookup in
    rw (file_found c.args.self.now c.deref.result.now c.args.file.0 c.in-Some.found.now (c.deref.ensures.value ∙ c.self.view_is) looked.0 looked.1) c.read_at.ensures

pub returns-in_default : goal.returns-in_default
returns-in_default g c =
    let is = ap len_of (file_missing c.args.self.now c.deref.result.now c.args.file.0 (c.deref.ensures.value ∙ c.self.view_is) c.in_default.ensures.lookup.0) in
    λ i lt. absurd (omega (arith, is, c.requires, lt))
