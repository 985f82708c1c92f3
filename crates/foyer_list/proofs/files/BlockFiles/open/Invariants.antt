use Rattle.std.proofs.Common.{◌≡◌, vec_len}
use Rattle.foyer_list.proofs.files.BlockFiles.open.Given as goal

abbrev pub invariant-each_block : goal.invariant-each_block
invariant-each_block g l = record { count : vec_len l.files ≡ l.block }
