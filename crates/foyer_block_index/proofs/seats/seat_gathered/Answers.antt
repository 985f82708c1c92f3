use Rattle.std.proofs.Common.{◌≡◌, ◌<◌, ◌%◌, length, get_or, subst, sym, ◌∙◌, arith}
use Rattle.std.specs.List.{All}
use Rattle.foyer_block_index.specs.declared.seats.Seat.{Seat}
use Rattle.foyer_block_index.specs.Shards.{room}
use Rattle.foyer_block_index.proofs.Found.{map_of-place, length-slice_set, seated-kept}
use Rattle.foyer_block_index.proofs.Seating.{run_more, run_places, run_room}
use Rattle.foyer_block_index.proofs.seats.seat_gathered.Goals as goal

abbrev no_seat : Seat
no_seat = record { shard = 0; hash = 0 }

pub each_run-preserved : goal.each_run-preserved
each_run-preserved g c =
    let now = c.each_run.shards.items in
    let before = c.args.shards.now.items in
    let seats = c.args.seats.now in
    let s : Seat = get_or seats c.each_run.from no_seat in
    let shard = c.index_mut.result.now in
    let written = c.seat_run-from.new.shard in
    let len : length now ≡ length before = c.each_run.invariant.len in
    let some : 0 < length before = c.requires.some in
    let own : s.hash % length before ≡ s.shard = c.requires.own c.each_run.from no_seat c.each_run-test.true in
    let within : s.shard < length now = omega arith in
    let all : All (λ s. s.hash % length now ≡ s.shard) seats = subst (λ n. All (λ s. s.hash % n ≡ s.shard) seats) (sym len) c.requires.own in
    record {
      memory = c.seat_run-from.ensures.memory;
      reach = c.seat_run-from.ensures.within;
      same = map_of-place now s.shard shard written within c.index_mut.ensures.value c.seat_run-from.ensures.same ∙ c.each_run.invariant.same;
      len = length-slice_set now s.shard written ∙ len;
      kept = λ h seated. seated-kept now s.shard shard written within c.index_mut.ensures.value c.seat_run-from.ensures.kept h (c.each_run.invariant.kept h seated);
      seated = run_more now s.shard shard written seats within c.index_mut.ensures.value all c.seat_run-from.ensures.kept c.each_run.from c.seat_run-from.result c.seat_run-from.ensures.within
          c.seat_run-from.ensures.seated c.each_run.invariant.seated;
      places = run_places now s.shard shard written seats within c.index_mut.ensures.value before c.seat_run-from.ensures.only c.each_run.invariant.places;
      room = λ i lt. run_room now s.shard shard written seats within c.index_mut.ensures.value c.each_run.from c.seat_run-from.result c.seat_run-from.ensures.further c.seat_run-from.ensures.spare i
          (room before i) (c.each_run.invariant.room i lt);
    }
