use Rattle.std.proofs.Common.{◌≡◌, ◌+◌, Some, drop, length}
use Rattle.foyer_block_recover.specs.Kept.{rising_infos}
use Rattle.foyer_list.proofs.listing.count_kept.Given as goal

abbrev pub invariant-each_info : goal.invariant-each_info
invariant-each_info l = record {
  kept : l.count + length (rising_infos (Some l.least) (drop l.info-index l.infos)) ≡ length (rising_infos (Some 0) l.fn.infos);
  passed : l.count ≡ l.info-index;
}
