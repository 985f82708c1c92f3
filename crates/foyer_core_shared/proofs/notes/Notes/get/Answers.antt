use Rattle.std.proofs.Common.{◌≡◌, ◌+◌, ◌-◌, ◌<◌, ◌≤◌, drop, length, slice_get, slice_index_or, sym, ap, subst, ◌∙◌, arith}
use Rattle.foyer_core_shared.specs.Chunks.{all_of}
use Rattle.foyer_core_shared.proofs.ChunkLemmas.{in_chunk, behind_chunk, in_last}
use Rattle.foyer_core_shared.proofs.notes.Notes.get.Goals as goal

pub returns-then-left-len : goal.returns-then-left-len
returns-then-left-len g c =
    let self = c.args.self.now in
    let chunk = c.chunk-item.result in
    let here = c.deref-chunk-items.ensures.value in
    let is : chunk ≡ slice_index_or self.full.items c.loop-chunk.chunk-index chunk = c.chunk-item.is ∙ ap (λ l. slice_index_or l c.loop-chunk.chunk-index chunk) here in
    c.note_at.ensures ∙ ap (λ l. slice_get l c.loop-chunk.left) c.deref.ensures.value
    ∙ sym (in_chunk self.full.items self.last.items c.loop-chunk.chunk-index c.loop-chunk.left chunk
    (subst (λ l. c.loop-chunk.chunk-index < length l) here c.loop-chunk-test.true) is
    (omega (arith, c.if-left-len.true, c.len.ensures, chunk.ok.0)))
    ∙ c.loop-chunk.invariant

pub loop-chunk-preserved : goal.loop-chunk-preserved
loop-chunk-preserved g c =
    let self = c.args.self.now in
    let chunk = c.chunk-item.result in
    let here = c.deref-chunk-items.ensures.value in
    let is : chunk ≡ slice_index_or self.full.items c.loop-chunk.chunk-index chunk = c.chunk-item.is ∙ ap (λ l. slice_index_or l c.loop-chunk.chunk-index chunk) here in
    let same : length chunk.items ≡ c.len-left.result = omega (arith, c.len-left.ensures, chunk.ok.0) in
    ap (λ n. slice_get (all_of (drop (c.loop-chunk.chunk-index + 1) self.full.items) self.last.items) (c.loop-chunk.left - n)) (sym same)
    ∙ sym (behind_chunk self.full.items self.last.items c.loop-chunk.chunk-index c.loop-chunk.left chunk
    (subst (λ l. c.loop-chunk.chunk-index < length l) here c.loop-chunk-test.true) is
    (omega (arith, c.if-left-len.false, c.len.ensures, chunk.ok.0)))
    ∙ c.loop-chunk.invariant

pub returns : goal.returns
returns g c =
    let self = c.args.self.now in
    c.note_at-2.ensures ∙ ap (λ l. slice_get l c.loop-chunk.left) c.deref-2.ensures.value
    ∙ sym (in_last self.full.items self.last.items c.loop-chunk.chunk-index c.loop-chunk.left
    (subst (λ l. length l ≤ c.loop-chunk.chunk-index) c.deref-chunk-items.ensures.value c.loop-chunk-test.false))
    ∙ c.loop-chunk.invariant
