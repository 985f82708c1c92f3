use Rattle.std.proofs.Common.{◌≡◌, Some, slice_get, sym, ap, subst, ◌∙◌}
use Rattle.foyer_block_index.specs.Entries.{ShardState, held_by, hashes}
use Rattle.foyer_block_index.specs.Shards.{held_at}
use Rattle.foyer_block_index.proofs.Entries.{ascends-from, held-there}
use Rattle.foyer_block_index.proofs.shard.Shard.held.Goals as goal

pub returns : goal.returns
returns g c =
    let es = c.self.inside.entries.items in
    let at : slice_get (hashes es) c.args.place ≡ Some c.args.hash = subst (λ (s : ShardState). slice_get (hashes s.entries) c.args.place ≡ Some c.args.hash) (sym c.self.view_is) c.requires in
    c.held.ensures ∙ ap (λ e. held_by e.slot) c.index.ensures ∙ sym (held-there es c.args.place c.args.hash c.index.result.now (ascends-from es c.self.invariant) at)
    ∙ ap (λ (s : ShardState). held_at s c.args.hash) c.self.view_is
