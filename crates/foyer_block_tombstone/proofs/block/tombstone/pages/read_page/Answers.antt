use Rattle.std.proofs.Common.{sym, arith}
use Rattle.foyer_block_tombstone.specs.Pages.{PageAt, places}
use Rattle.foyer_block_tombstone.proofs.LocateLemmas.{has_at, located_within, on_ok}
use Rattle.foyer_block_tombstone.proofs.block.tombstone.pages.read_page.Goals as goal

pub returns-clause-read : goal.returns-clause-read
returns-clause-read g c = λ d known.
    let h = rw c.into_inner.ensures at (c.read.ensures.read d known) in
    let at : PageAt = record { extent = g.P.Partition.extent c.in-Some.partition.now; size = g.P.Partition.bytes c.in-Some.partition.now; offset = c.in-Some.offset } in
    on_ok c.into_inner.result.1 (λ read. record { at = at; located = sym c.in-Some.ensures; read = read }) h

pub returns-clause-outside : goal.returns-clause-outside
returns-clause-outside g c = λ d known refused.
    let h = rw c.into_inner.ensures at (c.read.ensures.outside d known) in
    let at : PageAt = record { extent = g.P.Partition.extent c.in-Some.partition.now; size = g.P.Partition.bytes c.in-Some.partition.now; offset = c.in-Some.offset } in
    has_at at (sym c.in-Some.ensures) (rw c.requires at (h refused))

pub returns-clause-absent : goal.returns-clause-absent
returns-clause-absent g c = λ few.
    let at : PageAt = record { extent = g.P.Partition.extent c.in-Some.partition.now; size = g.P.Partition.bytes c.in-Some.partition.now; offset = c.in-Some.offset } in
    absurd (omega (arith, located_within (places g.P.Partition.extent g.P.Partition.bytes c.args.partitions.now) c.args.page at (sym c.in-Some.ensures), few))
