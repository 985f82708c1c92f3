use Rattle.std.proofs.Common.{◌≡◌, ◌<◌, ◌%◌, length, get_or, slice_set, if◌then◌else◌, refl, sym, ap, ◌∙◌, arith}
use Rattle.foyer_block_index.specs.declared.indexer.HashedEntryAddress.{HashedEntryAddress}
use Rattle.foyer_block_index.specs.Shards.{map_of}
use Rattle.foyer_block_index.proofs.Filling.{sweeping_on, filled_to, swept_on, filled_swept}
use Rattle.foyer_block_index.proofs.Removals.{address_more, addresses_left}
use Rattle.foyer_block_index.proofs.shards.remove_addresses.Goals.{then-vacate, else-vacate}
use Rattle.foyer_block_index.proofs.shards.remove_addresses.Goals as goal

abbrev none : HashedEntryAddress
none = record { hash = 0; address = record { block = 0; offset = 0; len = 0; sequence = 0; filling = 0 } }

pub loop-entry-preserved : goal.loop-entry-preserved
loop-entry-preserved g c =
    let old = c.args.shards.now.items in
    let now = c.loop-entry.shards.items in
    let new = c.vacate.new.shards.items in
    let list = c.args.addresses.now in
    let i = c.loop-entry.entry-index in
    let within : i < length list = omega arith in
    let before = c.loop-entry.counts in
    let hash = (get_or list i none).hash in
    let counts : length before ≡ length old = omega (arith, c.loop-entry.auto.counts, c.requires.counts, c.clear_counts.auto.counts) in
    record {
      len = omega (arith, c.vacate.ensures.len);
      sweeping = sweeping_on (λ x. x.hash) list old now new before c.if-vacate.counts i none c.vacate.result within c.loop-entry.invariant.sweeping counts c.requires.some
          c.vacate.ensures.places c.vacate.ensures.removed c.vacate.ensures.unchanged
          (elim c.if-vacate.branch [
            | then-vacate w ↦ w.counts-is ∙ sym (ap (λ b. if b then slice_set before (hash % length before) 1 else before) w.if-vacate.true)
            | else-vacate w ↦ w.counts-is ∙ sym (ap (λ b. if b then slice_set before (hash % length before) 1 else before) w.if-vacate.false)
          ]);
      left = address_more (map_of old) (map_of now) (map_of new) list i _ c.vacate.result within c.loop-entry.invariant.left c.vacate.ensures.answer c.vacate.ensures.removed c.vacate.ensures.unchanged;
    }

pub each_shard-init : goal.each_shard-init
each_shard-init g c = record {
  len = c.loop-entry.invariant.len;
  same = refl;
  filled = filled_to (λ x. x.hash) c.args.addresses.now c.args.shards.now.items c.loop-entry.shards.items c.loop-entry.counts c.loop-entry.invariant.sweeping c.loop-entry.invariant.len;
}

pub each_shard-preserved : goal.each_shard-preserved
each_shard-preserved g c =
    let now = c.each_shard.shards.items in
    let i = c.each_shard.entry-index in
    let hash = (get_or c.args.addresses.now i none).hash in
    record {
      len = c.sweep_counted.ensures.len ∙ c.each_shard.invariant.len;
      same = c.sweep_counted.ensures.same ∙ c.each_shard.invariant.same;
      filled = λ filled. swept_on (λ x. x.hash) c.args.addresses.now now c.sweep_counted.new.shards.items c.each_shard.counts c.sweep_counted.new.counts i none (hash % length now)
          c.each_shard-test.true refl c.sweep_counted.ensures.len c.sweep_counted.ensures.same c.sweep_counted.ensures.places c.sweep_counted.ensures.others c.sweep_counted.ensures.filled
          (c.each_shard.invariant.filled filled);
    }

pub returns-clause-removed : goal.returns-clause-removed
returns-clause-removed g c =
    let end : c.loop-entry.entry-index ≡ length c.args.addresses.now = omega arith in
    c.each_shard.invariant.same ∙ addresses_left (map_of c.args.shards.now.items) (map_of c.loop-entry.shards.items) c.args.addresses.now c.loop-entry.entry-index end c.loop-entry.invariant.left

pub returns-clause-filled : goal.returns-clause-filled
returns-clause-filled g c = λ filled. filled_swept (λ x. x.hash) c.args.addresses.now c.each_shard.shards.items c.each_shard.counts c.each_shard.entry-index (omega arith) (c.each_shard.invariant.filled filled)
