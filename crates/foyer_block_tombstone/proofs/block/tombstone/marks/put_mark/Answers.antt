use Rattle.std.proofs.lemmas.Option.{slice_get-get_or}
use Rattle.foyer_block_tombstone.proofs.RingLemmas.{put_here}
use Rattle.foyer_block_tombstone.proofs.block.tombstone.marks.put_mark.Goals as goal

pub returns-in-Some-clause-put : goal.returns-in-Some-clause-put
returns-in-Some-clause-put c =
    let e = c.in-Some.ensures.some in
    put_here c.args.slots c.args.start c.args.slot c.in-Some.k c.args.marks.now _ _ e.0 e.1 e.2 (rw (c.write_mark.ensures.put) (slice_get-get_or c.args.marks.now c.in-Some.k _ e.0))
