use Rattle.std.proofs.Common.{◌≡◌, ◌++◌, Some, drop}
use Rattle.foyer_block_recover.specs.Kept.{rising_infos, last_kept, hashed_infos}
use Rattle.foyer_block_recover.specs.Placed.{AllHashed}
use Rattle.foyer_block_recover.proofs.block.kept.keep_rising.Given as goal

abbrev pub invariant-each_info : goal.invariant-each_info
invariant-each_info g l = record {
  kept : l.kept.items ++ hashed_infos (rising_infos (Some l.least) (drop l.info-index l.infos)) ≡ l.fn.kept.items ++ hashed_infos (rising_infos l.fn.last l.infos);
  hashed : AllHashed (rising_infos (Some l.least) (drop l.info-index l.infos)) → AllHashed (rising_infos l.fn.last l.infos);
  last : last_kept (Some l.least) (drop l.info-index l.infos) ≡ last_kept l.fn.last l.infos;
}
