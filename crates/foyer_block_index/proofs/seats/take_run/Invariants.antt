use Rattle.std.proofs.Common.{◌+◌, ◌<◌, ◌≤◌, length, drop, vec_len, vec_capacity}
use Rattle.std.specs.List.{All, Contains}
use Rattle.foyer_block_index.specs.Entries.{hashes}
use Rattle.foyer_block_index.specs.Probe.{Lacks}
use Rattle.foyer_block_index.specs.Seats.{seat, seats_in, RunTaken}
use Rattle.foyer_block_index.proofs.seats.take_run.Given as goal

-- the hashes of the run are taken as far as it was looked at
abbrev pub invariant-each_seat : goal.invariant-each_seat
invariant-each_seat g l = record {
  memory : 0 < vec_capacity l.news;
  reach : l.i ≤ length l.seats;
  begun : 0 < vec_len l.news → l.from < l.i;
  absent : All (Lacks (hashes l.shard.entries)) l.news.items;
  ours : All (λ hash. Contains l.seats (seat l.number hash)) l.news.items;
  taken : RunTaken l.number l.shard l.seats l.news.items l.from l.i;
  few : length l.news.items + seats_in l.number (drop l.i l.seats) ≤ seats_in l.number (drop l.from l.seats);
}
