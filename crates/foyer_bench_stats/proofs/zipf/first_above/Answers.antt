use Rattle.std.proofs.Common.{leb, rules, arith}
use Rattle.std.proofs.lemmas.Bool.{leb-true, leb-false}
use Rattle.std.proofs.lemmas.List.Sorted.{IsPartitionPoint-from_clause, IsPartitionedBy-leb}
use Rattle.foyer_bench_stats.proofs.zipf.first_above.Goals as goal

pub returns-clause-below : goal.returns-clause-below
returns-clause-below c k h =
    let point = IsPartitionPoint-from_clause (λ x. leb x c.args.point) c.args.sums.now c.partition_point.result c.partition_point.ensures.partitioned (IsPartitionedBy-leb (λ x. x) c.args.sums.now c.args.point c.requires) (λ a r f' q. search rules) in
    leb-true _ _ (point.0 k 0 (omega arith) h)

pub returns-clause-above : goal.returns-clause-above
returns-clause-above c h =
    let point = IsPartitionPoint-from_clause (λ x. leb x c.args.point) c.args.sums.now c.partition_point.result c.partition_point.ensures.partitioned (IsPartitionedBy-leb (λ x. x) c.args.sums.now c.args.point c.requires) (λ a r f' q. search rules) in
    leb-false _ _ (point.1 c.partition_point.result 0 (omega arith) h)
