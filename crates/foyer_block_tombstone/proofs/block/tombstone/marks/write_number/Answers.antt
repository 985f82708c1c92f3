use Rattle.std.proofs.Common.{ℕ, ◌≡◌, ◌+◌, ◌-◌, length, arith, ◌∙◌, ap}
use Rattle.byteorder.specs.Numbers.{length-bytes_high_first}
use Rattle.foyer_block_tombstone.proofs.NumberLemmas.{number_put, number_others}
use Rattle.foyer_block_tombstone.proofs.block.tombstone.marks.write_number.Goals as goal

pub returns-clause-put : goal.returns-clause-put
returns-clause-put c =
    number_put c.args.bytes.now c.copy_from_slice.new.self c.args.at (c.args.at + 8 - c.args.at) c.args.value (omega arith) (omega arith) (omega arith)
    (c.copy_from_slice.ensures.after ∙ c.to_be_bytes.ensures)

pub returns-clause-others : goal.returns-clause-others
returns-clause-others c =
    let n : ℕ = c.args.at + 8 - c.args.at in
    let eight : n ≡ 8 = omega arith in
    let len : length c.copy_from_slice.new.self ≡ n =
    ap length (c.copy_from_slice.ensures.after ∙ c.to_be_bytes.ensures) ∙ length-bytes_high_first 8 c.args.value ∙ (omega arith) in
    λ o beside. number_others c.args.bytes.now c.copy_from_slice.new.self c.args.at n (omega arith) len o (rw (eight) beside)
