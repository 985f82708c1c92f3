use Rattle.std.proofs.Common.{◌≡◌, [], None, Some, refl, ap, ◌∙◌}
use Rattle.foyer_format_buffer.specs.Entries.{Entries}
use Rattle.foyer_core_flusher.proofs.OffsetLemmas.{refit, split_fits}
use Rattle.foyer_core_flusher.specs.declared.batch.Batch.{Batch}
use Rattle.foyer_core_flusher.proofs.flusher.Flusher.begin.Goals as goal

pub invariant_of-batch : goal.invariant_of-batch
invariant_of-batch g c =
    let old = c.args.self.now in
    record { fits = split_fits old.filled old.context.sizes old.context.filling c.split.new.ctx.filling c.in_ok-blocks.field-0 old.fits old.small c.in_ok-blocks.ensures.split }

pub returns-clause-begins : goal.returns-clause-begins
returns-clause-begins g c =
    let old = c.args.self.now in
    let all : Batch g.row.K.Denot g.row.V.Denot g.row.P.Denot g.row.A.Denot = record {
      blocks = c.in_ok-blocks.field-0.blocks;
      pages = c.in_ok-blocks.field-0.bytes;
      sources = c.replace.result;
      continues_own_block = c.is_some.result;
      writing = None;
      marks = c.replace-2.result;
      invalid = c.replace-3.result;
      pieces = c.replace-4.result;
      waits = c.replace-5.result;
      logged = None;
      fits = split_fits old.filled old.context.sizes old.context.filling c.split.new.ctx.filling c.in_ok-blocks.field-0 old.fits old.small c.in_ok-blocks.ensures.split;
    } in
    let filled : c.reset.new.self ≡ record old.filled { entries = [] } = c.reset.ensures ∙ ap (λ (b : Entries). record b { entries = [] }) c.split.ensures.same in
    let batch : c.replace-6.new.self ≡ Some all = refit all.fits c.replace-6.ensures.after in
    let no_sources : c.replace.new.dest.items ≡ [] = (λ j. (c.replace.ensures.after j).items) ∙ c.new.ensures.items in
    let no_marks : c.replace-2.new.dest.items ≡ [] = (λ j. (c.replace-2.ensures.after j).items) ∙ c.new-2.ensures.items in
    let no_invalid : c.replace-3.new.dest.items ≡ [] = (λ j. (c.replace-3.ensures.after j).items) ∙ c.new-3.ensures.items in
    let no_pieces : c.replace-4.new.dest.items ≡ [] = (λ j. (c.replace-4.ensures.after j).items) ∙ c.new-4.ensures.items in
    let no_waits : c.replace-5.new.dest.items ≡ [] = (λ j. (c.replace-5.ensures.after j).items) ∙ c.new-5.ensures.items in
    record {
      batch = all;
      split = c.in_ok-blocks.field-0;
      issued = c.in_ok-issued.ensures.items ∙ c.as_slice.ensures.value;
      was_split = c.in_ok-blocks.ensures.split;
      sizes = c.split.ensures.sizes;
      blocks = refl;
      pages = refl;
      sources = λ i. (c.replace.ensures.value i).items;
      continues_own_block = c.is_some.ensures;
      writing = refl;
      marks = λ i. (c.replace-2.ensures.value i).items;
      invalid = λ i. (c.replace-3.ensures.value i).items;
      pieces = λ i. (c.replace-4.ensures.value i).items;
      waits = λ i. (c.replace-5.ensures.value i).items;
      logged = refl;
      left = λ i. record {
        queue = old.queue.items;
        filled = filled i;
        sources = no_sources i;
        marks = no_marks i;
        invalid = no_invalid i;
        pieces = no_pieces i;
        waits = no_waits i;
        context = c.split.new.ctx;
        own = old.own;
        batch = batch i;
      };
    }
