use Rattle.std.proofs.Common.{◌≡◌, Some, slice_get, nat_eq, if◌then◌else◌, sym, ap, subst, ◌∙◌}
use Rattle.std.specs.List.Sorted.{IsStrictlyIncreasing}
use Rattle.foyer_block_index.specs.Entries.{ShardState, held_by, hashes}
use Rattle.foyer_block_index.specs.Shards.{held_at}
use Rattle.foyer_block_index.proofs.Entries.{ascends-from, hashes-written, held-written}
use Rattle.foyer_block_index.proofs.shard.Shard.write.Goals as goal

pub invariant_of-self : goal.invariant_of-self
invariant_of-self g c =
    let es = c.self.inside.entries.items in
    let at : slice_get (hashes es) c.args.place ≡ Some c.args.hash = subst (λ (s : ShardState). slice_get (hashes s.entries) c.args.place ≡ Some c.args.hash) (sym c.self.view_is) c.requires in
    subst IsStrictlyIncreasing (sym (hashes-written es c.args.place c.args.hash c.args.slot at)) c.self.invariant

pub returns-clause-changes : goal.returns-clause-changes
returns-clause-changes g c = λ q.
    let es = c.self.inside.entries.items in
    let at : slice_get (hashes es) c.args.place ≡ Some c.args.hash = subst (λ (s : ShardState). slice_get (hashes s.entries) c.args.place ≡ Some c.args.hash) (sym c.self.view_is) c.requires in
    held-written es c.args.place c.args.hash c.args.slot (ascends-from es c.self.invariant) at q
    ∙ ap (λ (s : ShardState). if nat_eq c.args.hash q then held_by c.args.slot else held_at s q) c.self.view_is

pub returns-clause-hashes : goal.returns-clause-hashes
returns-clause-hashes g c =
    let es = c.self.inside.entries.items in
    let at : slice_get (hashes es) c.args.place ≡ Some c.args.hash = subst (λ (s : ShardState). slice_get (hashes s.entries) c.args.place ≡ Some c.args.hash) (sym c.self.view_is) c.requires in
    hashes-written es c.args.place c.args.hash c.args.slot at ∙ ap (λ (s : ShardState). hashes s.entries) c.self.view_is
