use Rattle.std.proofs.Common.{ℕ, ◌+◌, ◌<◌, ◌≤◌, length, drop, vec_len, vec_capacity}
use Rattle.foyer_block_index.specs.Index.{belonging}
use Rattle.foyer_block_index.specs.Seats.{seats_in, AreSeatsOf, Gathered}
use Rattle.foyer_block_index.proofs.seats.gather.Given as goal

-- the seats of this part are gathered as far as it was looked at
abbrev pub invariant-each_record : goal.invariant-each_record
invariant-each_record g l = record {
  memory : 0 < vec_capacity l.seats;
  reach : l.i ≤ length l.batch;
  begun : 0 < vec_len l.seats → l.from < l.i;
  ours : AreSeatsOf l.shards l.batch l.sources l.seats.items;
  gathered : Gathered l.shards l.batch l.sources l.seats.items l.from l.i;
  few : (number : ℕ) → seats_in number l.seats.items + belonging l.shards number (drop l.i l.batch) ≤ belonging l.shards number (drop l.from l.batch);
}
