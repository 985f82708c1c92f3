use Rattle.std.proofs.Common.{◌≡◌, ℕ, List, sym, subst, ◌∙◌, nat_eq}
use Rattle.std.specs.List.{All, Contains, dedup}
use Rattle.std.specs.List.Sorted.{IsStrictlyIncreasing}
use Rattle.std.proofs.lemmas.List.Filters.{dedup_is, All-dedup}
use Rattle.std.proofs.lemmas.List.Kept.{Contains-dedup_nat}
use Rattle.std.proofs.lemmas.List.Sorted.{All-permutation, Contains-permutation}
use Rattle.std.proofs.lemmas.Map.Keys.{IsStrictlyIncreasing-dedup}
use Rattle.foyer_block_index.specs.Entries.{hashes}
use Rattle.foyer_block_index.specs.Probe.{Lacks}
use Rattle.foyer_block_index.specs.Seats.{seat}
use Rattle.foyer_block_index.proofs.Seating.{run_seated, run_only}
use Rattle.foyer_block_index.proofs.seats.seat_run.Goals as goal

pub merge-requires-clause-ascend : goal.merge-requires-clause-ascend
merge-requires-clause-ascend g c =
    let sorted : List ℕ = c.sort_unstable.new.self.items in
    let found : c.as_slice-found.result.now ≡ dedup nat_eq sorted = c.as_slice-found.ensures.value ∙ dedup_is nat_eq sorted c.dedup.new.self.items c.dedup.ensures.filtered in
    subst IsStrictlyIncreasing (sym found) (IsStrictlyIncreasing-dedup sorted c.sort_unstable.ensures.sorted)

pub merge-requires-clause-absent : goal.merge-requires-clause-absent
merge-requires-clause-absent g c =
    let taken : List ℕ = c.take_run-end.new.news.items in
    let sorted : List ℕ = c.sort_unstable.new.self.items in
    let found : c.as_slice-found.result.now ≡ dedup nat_eq sorted = c.as_slice-found.ensures.value ∙ dedup_is nat_eq sorted c.dedup.new.self.items c.dedup.ensures.filtered in
    let P = Lacks (hashes c.args.shard.now.entries) in
    subst (λ l. All P l) (sym found) (All-dedup nat_eq P sorted (All-permutation P taken sorted c.sort_unstable.ensures.permutation c.take_run-end.ensures.absent))

pub returns-clause-only : goal.returns-clause-only
returns-clause-only g c =
    let taken : List ℕ = c.take_run-end.new.news.items in
    let sorted : List ℕ = c.sort_unstable.new.self.items in
    let found : c.as_slice-found.result.now ≡ dedup nat_eq sorted = c.as_slice-found.ensures.value ∙ dedup_is nat_eq sorted c.dedup.new.self.items c.dedup.ensures.filtered in
    let P = λ (hash : ℕ). Contains c.args.seats.now (seat c.args.number hash) in
    run_only c.args.number c.args.shard.now c.merge.new.self c.args.seats.now c.as_slice-found.result.now c.merge.ensures.only
    (subst (λ l. All P l) (sym found) (All-dedup nat_eq P sorted (All-permutation P taken sorted c.sort_unstable.ensures.permutation c.take_run-end.ensures.ours)))

pub returns-clause-seated : goal.returns-clause-seated
returns-clause-seated g c =
    let taken : List ℕ = c.take_run-end.new.news.items in
    let sorted : List ℕ = c.sort_unstable.new.self.items in
    let found : c.as_slice-found.result.now ≡ dedup nat_eq sorted = c.as_slice-found.ensures.value ∙ dedup_is nat_eq sorted c.dedup.new.self.items c.dedup.ensures.filtered in
    run_seated c.args.number c.args.shard.now c.merge.new.self c.args.seats.now taken c.as_slice-found.result.now c.args.from c.take_run-end.result c.take_run-end.ensures.taken c.merge.ensures.kept
    (λ h there. subst (λ l. Contains l h) (sym found) (Contains-dedup_nat sorted h (Contains-permutation taken sorted h c.sort_unstable.ensures.permutation there)))
    c.merge.ensures.made
