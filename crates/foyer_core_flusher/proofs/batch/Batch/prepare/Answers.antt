use Rattle.std.proofs.Common.{◌≡◌, get_or, ap, ◌∙◌, arith}
use Rattle.foyer_core_flusher.specs.Issued.{padded}
use Rattle.foyer_core_flusher.proofs.IssueLemmas.{head_of}
use Rattle.foyer_core_flusher.proofs.batch.Batch.prepare.Goals as goal

pub returns-clause-ready : goal.returns-clause-ready
returns-clause-ready g c =
    let items = c.args.self.now.blocks.items in
    let block = c.in-Some.block.now in
    let at : block ≡ get_or items 0 block = c.in-Some.ensures.item.1 ∙ ap (λ l. get_or l 0 block) c.deref.ensures.value in
    let h = head_of items block c.requires at in
    let len = block.blob_parts.ok in
    record {
      first = block;
      rest = h.0;
      blocks = h.1;
      records = c.in_ok-records.ensures.records;
      sources = c.in_ok-sources.ensures.first ∙ ap (λ n. padded n c.args.self.now.sources.items) (c.len.ensures ∙ c.in_ok-records.records.ok.0);
      none = c.in_ok-writes.ensures.items;
      room = omega (arith, c.len-parts.ensures, c.saturating_mul.ensures, c.in_ok-writes.writes.small, c.in_ok-writes.ensures.capacity, c.in_ok-writes.ensures.len, block.blob_parts.small, len.0, len.1);
    }
