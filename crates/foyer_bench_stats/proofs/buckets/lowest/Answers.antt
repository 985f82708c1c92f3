use Rattle.foyer_bench_stats.proofs.BucketLemmas.{lowest_is}
use Rattle.foyer_bench_stats.proofs.buckets.lowest.Goals as goal

pub returns : goal.returns
returns c = lowest_is c.args.bucket c.saturating_sub-shift.result c.requires c.saturating_sub-shift.ensures
