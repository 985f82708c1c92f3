use Rattle.std.proofs.Common.{◌≡◌, sym, ap, ◌∙◌, subst}
use Rattle.foyer_core_laws.specs.Content.{meaning}
use Rattle.foyer_core_threads.specs.Asking.{HasSizes}
use Rattle.foyer_storage_history.proofs.engine.HistoryEngine.open.Goals as goal

pub returns-clause-seen : goal.returns-clause-seen
returns-clause-seen g c =
    let same : c.new-6.result.told.witness.me.0.seen ≡ c.in_ok-shared.all.witness.me.0.seen = ap (λ t. t.witness.me.0.seen) c.new-6.ensures ∙ ap (λ x. x.0.seen) c.split-caller.ensures.seen.1 in
    let opened = c.in_ok-shared.ensures.seen in (opened.0, opened.1, opened.2, opened.3, same ∙ opened.4, opened.5, opened.6)

pub returns-clause-sizes : goal.returns-clause-sizes
returns-clause-sizes g c =
    let same : c.new-6.result.told.witness.me.0.seen ≡ c.in_ok-shared.all.witness.me.0.seen = ap (λ t. t.witness.me.0.seen) c.new-6.ensures ∙ ap (λ x. x.0.seen) c.split-caller.ensures.seen.1 in
    subst (λ l. HasSizes (meaning g.K.Code.encoding g.V.Code.encoding g.K.Code.is_encodable g.V.Code.is_encodable g.K.Code.is_decodable g.V.Code.is_decodable g.P.Properties.age) g.D.Disk.byte_at l c.args.settings) (sym same) c.in_ok-shared.ensures.sizes
