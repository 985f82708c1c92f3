use Rattle.std.proofs.Common.{◌≡◌, ◌<◌, ◌≤◌, ◌+◌, ◌%◌, ℕ, IsOk, List, get_or, take, length, length-set, slice_index, ap, subst, sym, arith, ◌∙◌}
use Rattle.std.proofs.lemmas.List.{take_all}
use Rattle.foyer_block_index.specs.declared.indexer.HashedEntryAddress.{HashedEntryAddress}
use Rattle.foyer_block_index.specs.Entries.{hashes, held_in}
use Rattle.foyer_block_index.specs.Index.{belonging}
use Rattle.foyer_block_index.specs.Probe.{HasPlace}
use Rattle.foyer_block_index.specs.Shards.{room, HasRoom}
use Rattle.foyer_block_index.proofs.Batches.{belongs_here, belonging_apart}
use Rattle.foyer_block_index.proofs.Filling.{adds_none}
use Rattle.foyer_block_index.proofs.Found.{map_of-place, room-at, room-reserved, kept_on}
use Rattle.foyer_block_index.proofs.Rooms.{not_refused, room_counted}
use Rattle.foyer_block_index.proofs.shards.reserve.Goals as goal

abbrev zero_entry : HashedEntryAddress
zero_entry = record { hash = 0; address = record { block = 0; offset = 0; len = 0; sequence = 0; filling = 0 } }

pub returns-in_err-reserve-clause-unchanged : goal.returns-in_err-reserve-clause-unchanged
returns-in_err-reserve-clause-unchanged g c =
    let now = c.loop-entry.shards.items in
    let p = (get_or c.args.batch.now c.loop-entry.entry-index zero_entry).hash % length c.args.counts.now in
    let within : p < length now = omega (arith, c.loop-entry.invariant.len) in
    map_of-place now p c.index_mut.result.now c.reserve.new.self within c.index_mut.ensures.value (λ q. ap (λ es. held_in es q) c.reserve.ensures.same) ∙ c.loop-entry.invariant.same

pub returns-in_err-reserve-clause-kept : goal.returns-in_err-reserve-clause-kept
returns-in_err-reserve-clause-kept g c =
    let now = c.loop-entry.shards.items in
    let p = (get_or c.args.batch.now c.loop-entry.entry-index zero_entry).hash % length c.args.counts.now in
    let within : p < length now = omega (arith, c.loop-entry.invariant.len) in
    kept_on c.args.shards.now.items now p c.index_mut.result.now c.reserve.new.self within c.index_mut.ensures.value c.reserve.ensures.kept c.loop-entry.invariant.kept

pub returns-in_err-reserve-clause-places : goal.returns-in_err-reserve-clause-places
returns-in_err-reserve-clause-places g c = λ i h placed.
    let now = c.loop-entry.shards.items in
    let p = (get_or c.args.batch.now c.loop-entry.entry-index zero_entry).hash % length c.args.counts.now in
    let within : p < length now = omega (arith, c.loop-entry.invariant.len) in
    c.loop-entry.invariant.places i h (adds_none now p c.index_mut.result.now c.reserve.new.self within c.index_mut.ensures.value
    (λ q has. subst (λ es. HasPlace (hashes es) q) c.reserve.ensures.same has) i h placed)

-- a shard that has room for its count isn't refused
pub returns-in_err-reserve-clause-fits : goal.returns-in_err-reserve-clause-fits
returns-in_err-reserve-clause-fits g c = λ some.
    let before = c.args.shards.now.items in
    let now = c.loop-entry.shards.items in
    let hash = (get_or c.args.batch.now c.loop-entry.entry-index zero_entry).hash in
    let p = hash % length c.args.counts.now in
    let here : p ≡ hash % length before = ap (λ n. hash % n) c.requires.counts in
    let within : p < length now = omega (arith, c.loop-entry.invariant.len) in
    let there : 0 < belonging (length before) p c.args.batch.now = subst (λ k. 0 < belonging (length before) k c.args.batch.now) (sym here) (belongs_here (length before) c.args.batch.now c.loop-entry.entry-index zero_entry c.loop-entry-test.true) in
    let counted : slice_index c.args.counts.now p ≡ belonging (length before) p c.args.batch.now = c.requires.counted p (omega arith) there in
    let enough : belonging (length before) p c.args.batch.now ≤ room before p = some p (omega arith) in
    let kept : room before p ≤ room now p = c.loop-entry.invariant.kept p in
    let is : room now p ≡ c.index_mut.result.now.spare = room-at now p c.index_mut.result.now within c.index_mut.ensures.value in
    let ok : IsOk c.reserve.result = c.reserve.ensures.fits (omega arith) in
    absurd (not_refused c.reserve.result _ c.in_err-reserve.was ok)

pub loop-entry-preserved : goal.loop-entry-preserved
loop-entry-preserved g c =
    let before = c.args.shards.now.items in
    let now = c.loop-entry.shards.items in
    let hash = (get_or c.args.batch.now c.loop-entry.entry-index zero_entry).hash in
    let p = hash % length c.args.counts.now in
    let here : p ≡ hash % length before = ap (λ n. hash % n) c.requires.counts in
    let within : p < length now = omega (arith, c.loop-entry.invariant.len) in
    record {
      len = length-set now p c.reserve.new.self ∙ c.loop-entry.invariant.len;
      same = map_of-place now p c.index_mut.result.now c.reserve.new.self within c.index_mut.ensures.value (λ q. ap (λ es. held_in es q) c.reserve.ensures.same) ∙ c.loop-entry.invariant.same;
      places = λ i h placed. c.loop-entry.invariant.places i h (adds_none now p c.index_mut.result.now c.reserve.new.self within c.index_mut.ensures.value
          (λ q has. subst (λ es. HasPlace (hashes es) q) c.reserve.ensures.same has) i h placed);
      kept = kept_on before now p c.index_mut.result.now c.reserve.new.self within c.index_mut.ensures.value c.reserve.ensures.kept c.loop-entry.invariant.kept;
      room = λ s lt there. room-reserved c.args.counts.now now p c.reserve.new.self within c.in_ok-reserve.ensures.room s (λ ne.
          let still : belonging (length before) s (take (c.loop-entry.entry-index + 1) c.args.batch.now) ≡ belonging (length before) s (take c.loop-entry.entry-index c.args.batch.now)
          = belonging_apart (length before) s c.args.batch.now c.loop-entry.entry-index zero_entry c.loop-entry-test.true (λ e. ne (e ∙ sym here)) in
          c.loop-entry.invariant.room s lt (omega arith));
    }

pub returns-clause-room : goal.returns-clause-room
returns-clause-room g c =
    let n = length c.args.shards.now.items in
    let len : length c.loop-entry.shards.items ≡ n = c.loop-entry.invariant.len in
    let all : take c.loop-entry.entry-index c.args.batch.now ≡ c.args.batch.now = take_all c.loop-entry.entry-index c.args.batch.now (omega arith) in
    subst (λ k. HasRoom k c.loop-entry.shards.items c.args.batch.now) (sym len)
    (room_counted c.args.counts.now c.loop-entry.shards.items n c.args.batch.now c.requires.counted
    (subst (λ (es : List HashedEntryAddress). (i : ℕ) → i < n → 0 < belonging n i es → slice_index c.args.counts.now i ≤ room c.loop-entry.shards.items i) all c.loop-entry.invariant.room))
