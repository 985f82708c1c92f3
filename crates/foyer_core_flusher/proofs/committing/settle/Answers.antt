use Rattle.std.proofs.Common.{◌≡◌, ◌<◌, length, slice_index_or, ap, arith}
use Rattle.std.proofs.lemmas.List.{get_or_default}
use Rattle.std.proofs.lemmas.List.Edits.{map_over_more}
use Rattle.foyer_block_index.specs.declared.indexer.HashedEntryAddress.{HashedEntryAddress}
use Rattle.foyer_core_flusher.specs.FlusherSteps.{settled}
use Rattle.foyer_core_flusher.proofs.committing.settle.Goals as goal

pub loop-record-preserved : goal.loop-record-preserved
loop-record-preserved g c =
    let none : HashedEntryAddress = record { hash = 0; address = record { block = 0; offset = 0; len = 0; sequence = 0; filling = 0 } } in
    let items = c.loop-record.record-items in
    let i = c.loop-record.record-index in
    let x : HashedEntryAddress = slice_index_or items i none in
    let count : length c.deref_mut-record-items.result.now ≡ length c.args.records.now.items = ap length c.deref_mut-record-items.ensures.value in
    let lt : i < length c.args.records.now.items = omega arith in
    let here : i < length items = omega arith in
    map_over_more (settled c.args.block c.args.filling) c.args.records.now.items items i x lt c.loop-record.invariant
    (get_or_default items i none x here)
