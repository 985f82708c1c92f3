use Rattle.std.proofs.Common.{◌-◌, ◌<◌, ◌≤◌, length, get_or, slice_index, refl, arith}
use Rattle.foyer_block_index.specs.declared.shard.Entry.{Entry}
use Rattle.foyer_block_index.specs.declared.shard.Slot.TheVariants.{Vacant}
use Rattle.foyer_block_index.proofs.Merges.{merge_begins, merge_step_old, merge_step_new, merge_all, merged-up, merged-same, merged-kept, merged-made, merged-only}
use Rattle.foyer_block_index.proofs.shard.merge_places.Goals.{else-old-gt0-via-then-old-gt0+else-entries-old, else-old-gt0-via-else-old-gt0}
use Rattle.foyer_block_index.proofs.shard.merge_places.Goals as goal

abbrev vacant : Entry
vacant = record { hash = 0; slot = Vacant }

pub from_the_back-init : goal.from_the_back-init
from_the_back-init c = record { front = refl; merging = merge_begins c.args.entries.now c.args.news.now c.args.len c.requires.room }

pub from_the_back-preserved-then-entries-old : goal.from_the_back-preserved-then-entries-old
from_the_back-preserved-then-entries-old c =
    let step = merge_step_old c.from_the_back.entries c.args.entries.now c.args.news.now c.args.len c.from_the_back.old c.from_the_back.new c.requires.room c.from_the_back.auto.entries
    c.requires.ascends c.requires.ascend c.from_the_back.invariant.front c.from_the_back.invariant.merging vacant c.from_the_back-test.true c.if-old-gt0.true c.if-entries-old.true in
    record { front = step.0; merging = step.1 }

pub from_the_back-preserved : goal.from_the_back-preserved
from_the_back-preserved c =
    let new = c.from_the_back.new in
    let some : 0 < new = c.from_the_back-test.true in
    let few : new ≤ length c.args.news.now = c.from_the_back.invariant.merging.new_within in
    let least : 0 < c.from_the_back.old → (get_or c.from_the_back.entries (c.from_the_back.old - 1) vacant).hash ≤ slice_index c.args.news.now (new - 1) = λ left.
    elim c.else-old-gt0.branch [
      | else-old-gt0-via-then-old-gt0+else-entries-old w ↦ w.if-entries-old.false
      | else-old-gt0-via-else-old-gt0 w ↦ let none : c.from_the_back.old ≤ 0 = w.if-old-gt0.false in absurd (omega arith)
    ] in
    let step = merge_step_new c.from_the_back.entries c.args.entries.now c.args.news.now c.args.len c.from_the_back.old new c.requires.room c.from_the_back.auto.entries
    c.requires.ascends c.requires.ascend c.from_the_back.invariant.front c.from_the_back.invariant.merging vacant some (c.requires.absent (new - 1) 0 (omega arith)) least in
    record { front = step.0; merging = step.1 }

pub returns-clause-ascends : goal.returns-clause-ascends
returns-clause-ascends c =
    let done = merge_all c.from_the_back.entries c.args.entries.now c.args.news.now c.args.len c.from_the_back.old c.from_the_back.new c.requires.room c.from_the_back.auto.entries
    c.requires.ascends c.requires.ascend c.from_the_back.invariant.front c.from_the_back.invariant.merging c.from_the_back-test.false in
    merged-up _ _ _ _ _ c.requires.ascends done.1 done.0

pub returns-clause-same : goal.returns-clause-same
returns-clause-same c =
    let done = merge_all c.from_the_back.entries c.args.entries.now c.args.news.now c.args.len c.from_the_back.old c.from_the_back.new c.requires.room c.from_the_back.auto.entries
    c.requires.ascends c.requires.ascend c.from_the_back.invariant.front c.from_the_back.invariant.merging c.from_the_back-test.false in
    merged-same _ _ _ _ _ c.requires.ascends done.1 done.0

pub returns-clause-kept : goal.returns-clause-kept
returns-clause-kept c =
    let done = merge_all c.from_the_back.entries c.args.entries.now c.args.news.now c.args.len c.from_the_back.old c.from_the_back.new c.requires.room c.from_the_back.auto.entries
    c.requires.ascends c.requires.ascend c.from_the_back.invariant.front c.from_the_back.invariant.merging c.from_the_back-test.false in
    merged-kept _ _ _ _ _ c.requires.ascends done.1 done.0

pub returns-clause-made : goal.returns-clause-made
returns-clause-made c =
    let done = merge_all c.from_the_back.entries c.args.entries.now c.args.news.now c.args.len c.from_the_back.old c.from_the_back.new c.requires.room c.from_the_back.auto.entries
    c.requires.ascends c.requires.ascend c.from_the_back.invariant.front c.from_the_back.invariant.merging c.from_the_back-test.false in
    merged-made _ _ _ _ _ c.requires.ascends done.1 done.0

pub returns-clause-only : goal.returns-clause-only
returns-clause-only c =
    let done = merge_all c.from_the_back.entries c.args.entries.now c.args.news.now c.args.len c.from_the_back.old c.from_the_back.new c.requires.room c.from_the_back.auto.entries
    c.requires.ascends c.requires.ascend c.from_the_back.invariant.front c.from_the_back.invariant.merging c.from_the_back-test.false in
    merged-only _ _ _ _ _ c.requires.ascends done.1 done.0
