use Rattle.std.proofs.Common.{◌≡◌, ◌+◌, ◌<◌, ◌≤◌, ◌%◌, ◌==◌, IsPermutation, length, drop, get_or, vec_capacity, List, cond, subst, sym, ap, ◌∙◌, arith}
use Rattle.std.specs.List.{All}
use Rattle.std.proofs.lemmas.List.Sorted.{All-permutation, Contains-permutation, sum_by-IsPermutation}
use Rattle.foyer_block_index.specs.declared.seats.Seat.{Seat}
use Rattle.foyer_block_index.specs.Index.{belonging}
use Rattle.foyer_block_index.specs.Seats.{seats_in}
use Rattle.foyer_block_index.specs.Shards.{room, IsOwnPending}
use Rattle.foyer_block_index.proofs.Seating.{part_places, part_seated}
use Rattle.foyer_block_index.proofs.seats.seat_all.Goals as goal

pub seat_gathered-requires-clause-own : goal.seat_gathered-requires-clause-own
seat_gathered-requires-clause-own g c =
    let now = c.each_part.shards.items in
    let gathered : List Seat = c.gather-from.new.seats.items in
    let sorted : List Seat = c.order.new.seats.items in
    let P = λ (s : Seat). IsOwnPending c.len.result s.shard c.args.batch.now c.args.sources.now s.hash in
    let ours : All P sorted = All-permutation P gathered sorted c.order.ensures.moved c.gather-from.ensures.ours in
    let count : c.len.result ≡ length now = omega (arith, c.len.ensures) in
    subst (λ l. All (λ (s : Seat). s.hash % length now ≡ s.shard) l) (sym c.as_slice-ordered.ensures.value)
    (λ k d lt. ap (λ n. (get_or sorted k d).hash % n) (sym count) ∙ (ours k d lt).0)

pub seat_gathered-requires-clause-room : goal.seat_gathered-requires-clause-room
seat_gathered-requires-clause-room g c = λ i lt.
    let now = c.each_part.shards.items in
    let before = c.args.shards.now.items in
    let batch = c.args.batch.now in
    let gathered : List Seat = c.gather-from.new.seats.items in
    let sorted : List Seat = c.order.new.seats.items in
    let len : length now ≡ length before = c.each_part.invariant.len in
    let count : c.len.result ≡ length before = omega (arith, c.len.ensures) in
    let few : seats_in i gathered + belonging (length before) i (drop c.gather-from.result batch) ≤ belonging (length before) i (drop c.each_part.from batch) =
    subst (λ n. seats_in i gathered + belonging n i (drop c.gather-from.result batch) ≤ belonging n i (drop c.each_part.from batch)) count (c.gather-from.ensures.few i) in
    let had : belonging (length before) i (drop c.each_part.from batch) ≤ room now i = c.each_part.invariant.room i (omega arith) in
    let as_many : seats_in i sorted ≡ seats_in i gathered = sum_by-IsPermutation (λ s. cond (s.shard == i) 1 0) gathered sorted c.order.ensures.moved in
    subst (λ l. seats_in i l ≤ room now i) (sym c.as_slice-ordered.ensures.value) (omega arith)

pub each_part-preserved : goal.each_part-preserved
each_part-preserved g c =
    let now = c.each_part.shards.items in
    let before = c.args.shards.now.items in
    let new = c.seat_gathered.new.shards.items in
    let batch = c.args.batch.now in
    let sources = c.args.sources.now in
    let gathered : List Seat = c.gather-from.new.seats.items in
    let seats : List Seat = c.as_slice-ordered.result.now in
    let len : length now ≡ length before = c.each_part.invariant.len in
    let count : c.len.result ≡ length before = omega (arith, c.len.ensures) in
    let sorted : IsPermutation gathered seats = subst (λ l. IsPermutation gathered l) (sym c.as_slice-ordered.ensures.value) c.order.ensures.moved in
    let gathered_capacity : 0 < vec_capacity c.gather-from.new.seats = c.gather-from.ensures.memory in
    let capacity : vec_capacity c.order.new.seats ≡ vec_capacity c.gather-from.new.seats = c.order.ensures.capacity in
    let P = λ (s : Seat). IsOwnPending c.len.result s.shard batch sources s.hash in
    record {
      seats = omega arith;
      memory = c.seat_gathered.ensures.memory;
      reach = c.gather-from.ensures.within;
      same = c.seat_gathered.ensures.same ∙ c.each_part.invariant.same;
      len = c.seat_gathered.ensures.len ∙ len;
      seated = part_seated c.len.result now new batch sources gathered seats c.each_part.from c.gather-from.result c.gather-from.ensures.gathered
          (λ s there. Contains-permutation gathered seats s sorted there) c.seat_gathered.ensures.seated c.seat_gathered.ensures.kept c.each_part.invariant.seated;
      places = part_places c.len.result before now new batch sources seats count (All-permutation P gathered seats sorted c.gather-from.ensures.ours) c.seat_gathered.ensures.places
          c.each_part.invariant.places;
      room = λ i lt.
          let few : seats_in i gathered + belonging (length before) i (drop c.gather-from.result batch) ≤ belonging (length before) i (drop c.each_part.from batch) =
          subst (λ n. seats_in i gathered + belonging n i (drop c.gather-from.result batch) ≤ belonging n i (drop c.each_part.from batch)) count (c.gather-from.ensures.few i) in
          let had : belonging (length before) i (drop c.each_part.from batch) ≤ room now i = c.each_part.invariant.room i lt in
          let as_many : seats_in i seats ≡ seats_in i gathered = sum_by-IsPermutation (λ s. cond (s.shard == i) 1 0) gathered seats sorted in
          let left : room now i ≤ room new i + seats_in i seats = c.seat_gathered.ensures.room i (omega arith) in
          omega arith;
    }
