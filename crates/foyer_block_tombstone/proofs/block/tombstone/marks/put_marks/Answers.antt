use Rattle.std.proofs.Common.{slice_index, inr, ◌∙◌, arith}
use Rattle.foyer_block_tombstone.proofs.RingLemmas.{put_next}
use Rattle.foyer_block_tombstone.proofs.block.tombstone.marks.put_marks.Goals as goal

pub slots-preserved : goal.slots-preserved
slots-preserved c = record {
  done = put_next c.args.slots c.args.start c.args.page c.slots.j c.args.marks.now (slice_index c.args.bytes.now) (slice_index c.slots.bytes) (slice_index c.put_mark.new.bytes)
      c.slots.invariant.done c.slots.invariant.rest c.put_mark.ensures.put c.put_mark.ensures.others;
  rest = λ o high. c.put_mark.ensures.others o (inr (omega arith)) ∙ c.slots.invariant.rest o (omega arith);
}
