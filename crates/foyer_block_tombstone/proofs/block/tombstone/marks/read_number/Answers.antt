use Rattle.std.proofs.Common.{ℕ, List, length, drop, ◌-◌, ◌∙◌, ap, arith}
use Rattle.std.proofs.lemmas.List.{take_all, length-drop}
use Rattle.byteorder.specs.Endian.{big_number}
use Rattle.foyer_block_tombstone.proofs.NumberLemmas.{number_read}
use Rattle.foyer_block_tombstone.proofs.block.tombstone.marks.read_number.Goals as goal

pub returns : goal.returns
returns c =
    let b : List ℕ = c.args.bytes.now in
    let at : ℕ = c.args.at in
    c.read_u64.ensures ∙ ap (big_number 8) (take_all (length b - at) (drop at b) (omega (arith, length-drop at b))) ∙ number_read b at
