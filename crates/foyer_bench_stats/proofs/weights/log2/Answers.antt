use Rattle.std.proofs.Common.{◌≤◌, arith}
use Rattle.foyer_bench_stats.proofs.WeightLemmas.{at_most_26, part_fits, part_whole}
use Rattle.foyer_bench_stats.proofs.weights.log2.Goals as goal

pub overflow_sub-whole : goal.overflow_sub-whole
overflow_sub-whole c = let few : c.ilog2-whole.result ≤ 26 = at_most_26 c.args.number c.ilog2-whole.result c.ilog2-whole.ensures.power_le c.requires.few in omega arith

pub with_places-requires : goal.with_places-requires
with_places-requires c =
    let few : c.ilog2-whole.result ≤ 26 = at_most_26 c.args.number c.ilog2-whole.result c.ilog2-whole.ensures.power_le c.requires.few in
    record {
      part = rw (part_whole c.args.number c.ilog2-whole.result few c.ilog2-whole.ensures.next_power_gt) (part_fits c.args.number c.ilog2-whole.result few c.ilog2-whole.ensures.next_power_gt);
      log = rw c.from.ensures few;
    }

pub returns-clause-value : goal.returns-clause-value
returns-clause-value c =
    let few : c.ilog2-whole.result ≤ 26 = at_most_26 c.args.number c.ilog2-whole.result c.ilog2-whole.ensures.power_le c.requires.few in
    record {
      whole = c.ilog2-whole.result;
      low = c.ilog2-whole.ensures.power_le;
      high = c.ilog2-whole.ensures.next_power_gt;
      places = rw (part_whole c.args.number c.ilog2-whole.result few c.ilog2-whole.ensures.next_power_gt) at (rw c.from.ensures at c.with_places.ensures.value);
    }
