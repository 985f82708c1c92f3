use Rattle.std.proofs.Common.{◌≡◌, ◌<◌, ◌%◌, Some, IsSome, length, slice_get, sym, ap, subst, ◌∙◌}
use Rattle.std.specs.FinMap as finite
use Rattle.std.proofs.lemmas.List.{length-map}
use Rattle.foyer_block_index.specs.Index.{IndexState}
use Rattle.foyer_block_index.specs.Probe.{HasPlace}
use Rattle.std.specs.Option.{IsSomeAnd}
use Rattle.foyer_block_index.specs.Shards.{spare_of, map_of, Has, Placed}
use Rattle.foyer_block_index.proofs.Found.{held_there, slice_get_at}
use Rattle.foyer_block_index.proofs.indexer.Indexer.probe.Goals as goal

pub returns-clause-hashes : goal.returns-clause-hashes
returns-clause-hashes g c = λ hash.
    let shards = c.self.inside.shards.items in
    let count : length c.args.self.now.rooms ≡ length shards = sym (ap (λ (s : IndexState). length s.rooms) c.self.view_is) ∙ length-map shards spare_of in
    let within : c.args.shard < length shards = subst (λ n. c.args.shard < n) count c.requires in
    let at : slice_get shards c.args.shard ≡ Some c.index.result.now = slice_get_at shards c.args.shard c.index.result.now within c.index.ensures in (
      (λ has.
          let placed : Placed shards c.args.shard hash = subst (λ o. IsSomeAnd o (λ shard. Has shard hash)) (sym at) (subst (λ l. HasPlace l hash) c.probe.ensures.hashes has) in
          let holds : (hash % length shards ≡ c.args.shard) × IsSome (finite.get (map_of shards) hash) = c.self.invariant.4 c.args.shard hash placed in
          (ap (λ n. hash % n) count ∙ holds.0, subst (λ (s : IndexState). IsSome (finite.get s.slots hash)) c.self.view_is holds.1)),
      λ (both : (hash % length c.args.self.now.rooms ≡ c.args.shard) × IsSome (finite.get c.args.self.now.slots hash)).
          let here : hash % length shards ≡ c.args.shard = sym (ap (λ n. hash % n) count) ∙ both.0 in
          let held : IsSome (finite.get (map_of shards) hash) = subst (λ (s : IndexState). IsSome (finite.get s.slots hash)) (sym c.self.view_is) both.1 in
          subst (λ l. HasPlace l hash) (sym c.probe.ensures.hashes) (held_there shards c.args.shard hash c.index.result.now within c.index.ensures here held),
    )
