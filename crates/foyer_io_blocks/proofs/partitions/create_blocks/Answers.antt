use Rattle.std.proofs.Common.{◌≡◌, ◌++◌, ◌∷◌, [], map, ap, sym, subst, ◌∙◌, arith}
use Rattle.std.specs.Prelude.{replicate}
use Rattle.std.proofs.lemmas.Grind.{common_steps}
use Rattle.std.proofs.lemmas.List.{append_assoc, append-nil, map_push}
use Rattle.foyer_device_partition.specs.Extent.{AreDisjoint}
use Rattle.foyer_io_blocks.proofs.PartitionLemmas.{disjoint_behind, one_more}
use Rattle.foyer_io_blocks.proofs.partitions.create_blocks.Goals as goal

pub each_block-init : goal.each_block-init
each_block-init g c = record {
  count = c.in_ok-blocks.ensures.len;
  sizes = ap (map g.D.Partition.Partition.bytes) c.in_ok-blocks.ensures.items;
  made = sym (ap (λ ps. g.D.Device.extents c.args.device.now ++ map g.D.Partition.Partition.extent ps) c.in_ok-blocks.ensures.items ∙ append-nil (g.D.Device.extents c.args.device.now));
}

pub each_block-preserved : goal.each_block-preserved
each_block-preserved g c =
    let made = c.in_ok-create_partition.ensures.made in
    let kept = c.each_block.invariant in
    let p = c.in_ok-create_partition.field-0 in
    let ps = c.each_block.blocks.items in
    let bytes = g.D.Partition.Partition.bytes in
    let extent = g.D.Partition.Partition.extent in
    record {
      count = grind (arith, common_steps);
      sizes = ap (map bytes) c.in_ok-push.ensures.items ∙ map_push bytes ps p ∙ ap (λ xs. xs ++ bytes p ∷ []) kept.sizes
          ∙ ap (λ n. replicate c.each_block.counter c.args.size ++ n ∷ []) made.3 ∙ one_more c.each_block.counter c.args.size;
      made = made.1 ∙ ap (λ es. es ++ extent p ∷ []) kept.made ∙ append_assoc (g.D.Device.extents c.args.device.now) (map extent ps) (extent p ∷ [])
          ∙ sym (ap (λ xs. g.D.Device.extents c.args.device.now ++ map extent xs) c.in_ok-push.ensures.items ∙ ap (λ es. g.D.Device.extents c.args.device.now ++ es) (map_push extent ps p));
    }

pub returns-clause-count : goal.returns-clause-count
returns-clause-count g c = let count = c.each_block.invariant.count in omega arith

pub returns-clause-sizes : goal.returns-clause-sizes
returns-clause-sizes g c =
    let all : c.each_block.counter ≡ c.args.count = omega arith in
    c.each_block.invariant.sizes ∙ ap (λ n. replicate n c.args.size) all

pub returns-clause-made : goal.returns-clause-made
returns-clause-made g c = c.each_block.invariant.made

pub returns-clause-apart : goal.returns-clause-apart
returns-clause-apart g c =
    disjoint_behind (g.D.Device.extents c.args.device.now) (map g.D.Partition.Partition.extent c.each_block.blocks.items)
    (subst AreDisjoint c.each_block.invariant.made c.file_count.ensures.apart)
