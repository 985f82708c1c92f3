use Rattle.std.proofs.Common.{◌≡◌, ◌∙◌, ap}
use Rattle.foyer_block_tombstone.specs.Pages.{places}
use Rattle.foyer_block_tombstone.proofs.block.tombstone.page.PageBuffer.load.Goals as goal

pub returns-in-Err-clause-outside : goal.returns-in-Err-clause-outside
returns-in-Err-clause-outside g c = λ d known refused.
    let same = c.self.view_is ∙ c.unload.ensures in
    let parts : places g.P.Partition.extent g.P.Partition.bytes c.deref.result.now ≡ c.args.self.now.places =
    ap (λ ps. places g.P.Partition.extent g.P.Partition.bytes ps) c.deref.ensures.value ∙ ap (λ v. v.places) same in
    let disk : g.E.IoEngine.disk c.self.inside.engine ≡ g.E.IoEngine.disk c.args.self.now.engine = ap (λ v. g.E.IoEngine.disk v.engine) same in
    rw parts at (c.read_page-memory.ensures.outside d (disk ∙ known) (c.in-Err.is ∙ refused))

pub returns-clause-read : goal.returns-clause-read
returns-clause-read g c = λ d known.
    let same = c.self.view_is ∙ c.unload.ensures in
    let parts : places g.P.Partition.extent g.P.Partition.bytes c.deref.result.now ≡ c.args.self.now.places =
    ap (λ ps. places g.P.Partition.extent g.P.Partition.bytes ps) c.deref.ensures.value ∙ ap (λ v. v.places) same in
    let disk : g.E.IoEngine.disk c.self.inside.engine ≡ g.E.IoEngine.disk c.args.self.now.engine = ap (λ v. g.E.IoEngine.disk v.engine) same in
    let read = rw c.in_default.is at (c.read_page-memory.ensures.read d (disk ∙ known)) in
    rw c.swap.ensures.x_after (rw parts at read)
