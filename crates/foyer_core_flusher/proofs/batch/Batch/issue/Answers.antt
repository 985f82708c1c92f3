use Rattle.std.proofs.Common.{◌≡◌, ◌∷◌, drop, length, refl, sym, ap, ◌∙◌, arith}
use Rattle.foyer_format_buffer.specs.declared.split.Block.{Block}
use Rattle.foyer_core_flusher.proofs.IssueLemmas.{first_is, padded_count, writes_as}
use Rattle.foyer_core_flusher.specs.Issued.{padded}
use Rattle.foyer_core_flusher.specs.Issuing.{entering_of}
use Rattle.foyer_core_flusher.proofs.batch.Batch.issue.Goals as goal

pub begin_writing-requires : goal.begin_writing-requires
begin_writing-requires g c = ap length c.requires.ready.sources ∙ padded_count (length c.args.prepared.records.items) c.args.self.now.sources.items

pub returns : goal.returns
returns g c =
    let items = c.args.self.now.blocks.items in
    let ready = c.requires.ready in
    let at : c.remove-placed.result ≡ ready.first = first_is items ready.first ready.rest c.remove-placed.result ready.blocks c.remove-placed.ensures.value in
    let records : c.args.prepared.records.items ≡ entering_of c.remove-placed.result.blob_parts.items =
    ready.records ∙ ap (λ (b : Block g.row.A.Denot). entering_of b.blob_parts.items) (sym at) in
    let count : c.len.result ≡ length c.args.prepared.records.items = omega (arith, c.len.ensures, c.args.prepared.records.ok.0) in
    record {
      first = c.remove-placed.result;
      rest = ready.rest;
      blocks = ready.blocks ∙ ap (λ b. b ∷ ready.rest) (sym at);
      left = c.remove-placed.ensures.items ∙ ap (drop 1) ready.blocks;
      pages = refl;
      continues_own_block = refl;
      writes = c.writes_of-issued.ensures;
      sources = c.drop_sources.ensures ∙ ap (λ n. drop n c.args.self.now.sources.items) (count ∙ ap length records);
      writing = writes_as c.args.block c.writes_of-issued.result.items c.remove-placed.result c.args.self.now.sources.items c.len-2.result c.args.prepared.records c.args.prepared.sources c.begin_writing.result
          (c.len-2.ensures ∙ c.writes_of-issued.result.ok.0) records
          (ready.sources ∙ ap (λ n. padded n c.args.self.now.sources.items) (ap length records)) c.begin_writing.ensures;
      marks = refl;
      invalid = refl;
      pieces = refl;
      waits = refl;
      logged = refl;
    }
