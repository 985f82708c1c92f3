use Rattle.std.proofs.Common.{◌<◌, subst, sym, ◌∙◌}
use Rattle.foyer_block_index.specs.declared.indexer.Index.TheVariants.{Address}
use Rattle.foyer_block_index.proofs.Filling.{filled_replaced}
use Rattle.foyer_block_index.proofs.indexer.Indexer.replace.Goals as goal

pub invariant_of-self : goal.invariant_of-self
invariant_of-self g c = (
  subst (λ n. 0 < n) (sym c.replace.ensures.len) c.self.invariant.0,
  c.self.invariant.1 ∙ sym c.replace.ensures.len,
  c.self.invariant.2,
  c.self.invariant.3,
  filled_replaced c.replace.result c.self.inside.shards.items c.replace.new.shards.items c.args.hash (Address c.args.new) c.replace.ensures.len c.replace.ensures.replaced c.replace.ensures.unchanged
      c.replace.ensures.places c.self.invariant.4,
)
