use Rattle.std.proofs.Common.{ℕ, ◌≡◌, ◌*◌, inl, ◌∙◌, slice_index}
use Rattle.foyer_block_tombstone.specs.Mark.{number}
use Rattle.foyer_block_tombstone.proofs.NumberLemmas.{mark_is, number_same}
use Rattle.foyer_block_tombstone.proofs.block.tombstone.marks.write_mark.Goals as goal

pub returns-clause-put : goal.returns-clause-put
returns-clause-put c =
    let at : ℕ = 16 * c.args.slot in
    let kept : number (slice_index c.write_number-2.new.bytes) at 8 ≡ number (slice_index c.write_number.new.bytes) at 8 =
    number_same _ _ at 8 (λ o low high. c.write_number-2.ensures.others o (inl high)) in
    mark_is (slice_index c.write_number-2.new.bytes) at c.args.mark.now (kept ∙ c.write_number.ensures.put) c.write_number-2.ensures.put
