use Rattle.std.proofs.Common.{◌≡◌, ◌+◌, ◌*◌, arith, ◌∙◌, sym}
use Rattle.std.proofs.lemmas.Grind.{common_steps}
use Rattle.foyer_block_tombstone.proofs.block.tombstone.marks.take_marks.Goals as goal

pub slots-preserved : goal.slots-preserved
slots-preserved g c = record {
  read = λ ring base agree before.
      let plus : 256 * c.args.page + (c.slots.j + 1) ≡ 256 * c.args.page + c.slots.j + 1 = omega arith in
      rw plus (c.in_ok-take_mark.ensures.read ring base (agree c.slots.j (omega arith) ∙ sym c.read_mark.ensures) (c.slots.invariant.read ring base agree before));
  before = grind (arith, common_steps, c.take_mark.ensures.before, c.slots.invariant.before);
}
