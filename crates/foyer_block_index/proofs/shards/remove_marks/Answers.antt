use Rattle.std.proofs.Common.{◌≡◌, ◌<◌, ◌%◌, length, get_or, slice_set, if◌then◌else◌, refl, sym, ap, ◌∙◌, arith}
use Rattle.foyer_block_index.specs.declared.tombstone.Tombstone.{Tombstone}
use Rattle.foyer_block_index.specs.Shards.{map_of}
use Rattle.foyer_block_index.proofs.Filling.{sweeping_on, filled_to, swept_on, filled_swept}
use Rattle.foyer_block_index.proofs.Removals.{mark_more, marks_left}
use Rattle.foyer_block_index.proofs.shards.remove_marks.Goals.{then-vacate, else-vacate}
use Rattle.foyer_block_index.proofs.shards.remove_marks.Goals as goal

abbrev none : Tombstone
none = record { hash = 0; sequence = 0 }

pub loop-mark-preserved : goal.loop-mark-preserved
loop-mark-preserved g c =
    let old = c.args.shards.now.items in
    let now = c.loop-mark.shards.items in
    let new = c.vacate.new.shards.items in
    let list = c.args.marks.now in
    let i = c.loop-mark.mark-index in
    let within : i < length list = omega arith in
    let before = c.loop-mark.counts in
    let hash = (get_or list i none).hash in
    let counts : length before ≡ length old = omega (arith, c.loop-mark.auto.counts, c.requires.counts) in
    record {
      len = omega (arith, c.vacate.ensures.len);
      sweeping = sweeping_on (λ x. x.hash) list old now new before c.if-vacate.counts i none c.vacate.result within c.loop-mark.invariant.sweeping counts c.requires.some
          c.vacate.ensures.places c.vacate.ensures.removed c.vacate.ensures.unchanged
          (elim c.if-vacate.branch [
            | then-vacate w ↦ w.counts-is ∙ sym (ap (λ b. if b then slice_set before (hash % length before) 1 else before) w.if-vacate.true)
            | else-vacate w ↦ w.counts-is ∙ sym (ap (λ b. if b then slice_set before (hash % length before) 1 else before) w.if-vacate.false)
          ]);
      left = mark_more (map_of old) (map_of now) (map_of new) list i _ c.vacate.result within c.loop-mark.invariant.left c.vacate.ensures.answer c.vacate.ensures.removed c.vacate.ensures.unchanged;
    }

pub each_shard-init : goal.each_shard-init
each_shard-init g c = record {
  len = c.loop-mark.invariant.len;
  same = refl;
  filled = filled_to (λ x. x.hash) c.args.marks.now c.args.shards.now.items c.loop-mark.shards.items c.loop-mark.counts c.loop-mark.invariant.sweeping c.loop-mark.invariant.len;
}

pub each_shard-preserved : goal.each_shard-preserved
each_shard-preserved g c =
    let now = c.each_shard.shards.items in
    let i = c.each_shard.mark-index in
    let hash = (get_or c.args.marks.now i none).hash in
    record {
      len = c.sweep_counted.ensures.len ∙ c.each_shard.invariant.len;
      same = c.sweep_counted.ensures.same ∙ c.each_shard.invariant.same;
      filled = λ filled. swept_on (λ x. x.hash) c.args.marks.now now c.sweep_counted.new.shards.items c.each_shard.counts c.sweep_counted.new.counts i none (hash % length now)
          c.each_shard-test.true refl c.sweep_counted.ensures.len c.sweep_counted.ensures.same c.sweep_counted.ensures.places c.sweep_counted.ensures.others c.sweep_counted.ensures.filled
          (c.each_shard.invariant.filled filled);
    }

pub returns-clause-removed : goal.returns-clause-removed
returns-clause-removed g c =
    let end : c.loop-mark.mark-index ≡ length c.args.marks.now = omega arith in
    c.each_shard.invariant.same ∙ marks_left (map_of c.args.shards.now.items) (map_of c.loop-mark.shards.items) c.args.marks.now c.loop-mark.mark-index end c.loop-mark.invariant.left

pub returns-clause-filled : goal.returns-clause-filled
returns-clause-filled g c = λ filled. filled_swept (λ x. x.hash) c.args.marks.now c.each_shard.shards.items c.each_shard.counts c.each_shard.mark-index (omega arith) (c.each_shard.invariant.filled filled)
