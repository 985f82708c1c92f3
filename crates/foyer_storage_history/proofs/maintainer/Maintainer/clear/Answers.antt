use Rattle.std.proofs.Common.{sym, subst, ◌∙◌}
use Rattle.foyer_core_laws.specs.Content.{meaning}
use Rattle.foyer_core_laws.specs.Settings.{Settings}
use Rattle.foyer_storage_history.specs.HistoryCalls.{IsCleared}
use Rattle.foyer_storage_history.proofs.HistoryLemmas.{cleared_after, goes_on, ok_cleared}
use Rattle.foyer_storage_history.proofs.maintainer.Maintainer.clear.Goals as goal

pub returns-in-Some-cleared_of-clause-cleared : goal.returns-in-Some-cleared_of-clause-cleared
returns-in-Some-cleared_of-clause-cleared g c =
    ok_cleared c.try_clear.result c.in-Some-cleared_of.done (sym c.cleared_of.ensures.answer ∙ c.in-Some-cleared_of.is) (λ is.
    subst (λ (t : Settings). IsCleared (meaning g.K.Code.encoding g.V.Code.encoding g.K.Code.is_encodable g.V.Code.is_encodable g.K.Code.is_decodable g.V.Code.is_decodable g.P.Properties.age) g.D.Disk.byte_at c.args.self.now.told.witness.me.0 c.try_clear.new.self.told.witness.me.0 t.blocks) (c.drain_all.ensures.settings ∙ c.tries.invariant.1)
    (cleared_after (meaning g.K.Code.encoding g.V.Code.encoding g.K.Code.is_encodable g.V.Code.is_encodable g.K.Code.is_decodable g.V.Code.is_decodable g.P.Properties.age) g.D.Disk.byte_at c.args.self.now.told.witness.me.0 c.drain_all.new.self.told.witness.me.0 c.try_clear.new.self.told.witness.me.0 c.drain_all.new.self.settings.blocks c.try_clear.result
    (goes_on (meaning g.K.Code.encoding g.V.Code.encoding g.K.Code.is_encodable g.V.Code.is_encodable g.K.Code.is_decodable g.V.Code.is_decodable g.P.Properties.age) g.D.Disk.byte_at c.args.self.now.told.witness.me.0 c.tries.self.told.witness.me.0 c.drain_all.new.self.told.witness.me.0 c.tries.invariant.0 c.drain_all.ensures.on) c.try_clear.ensures.told is c.try_clear.ensures.issued))

pub returns-in-Some-cleared_of-clause-on : goal.returns-in-Some-cleared_of-clause-on
returns-in-Some-cleared_of-clause-on g c = goes_on (meaning g.K.Code.encoding g.V.Code.encoding g.K.Code.is_encodable g.V.Code.is_encodable g.K.Code.is_decodable g.V.Code.is_decodable g.P.Properties.age) g.D.Disk.byte_at c.args.self.now.told.witness.me.0 c.drain_all.new.self.told.witness.me.0 c.try_clear.new.self.told.witness.me.0 (goes_on (meaning g.K.Code.encoding g.V.Code.encoding g.K.Code.is_encodable g.V.Code.is_encodable g.K.Code.is_decodable g.V.Code.is_decodable g.P.Properties.age) g.D.Disk.byte_at c.args.self.now.told.witness.me.0 c.tries.self.told.witness.me.0 c.drain_all.new.self.told.witness.me.0 c.tries.invariant.0 c.drain_all.ensures.on) c.try_clear.ensures.on

pub tries-preserved : goal.tries-preserved
tries-preserved g c = (goes_on (meaning g.K.Code.encoding g.V.Code.encoding g.K.Code.is_encodable g.V.Code.is_encodable g.K.Code.is_decodable g.V.Code.is_decodable g.P.Properties.age) g.D.Disk.byte_at c.args.self.now.told.witness.me.0 c.drain_all.new.self.told.witness.me.0 c.try_clear.new.self.told.witness.me.0 (goes_on (meaning g.K.Code.encoding g.V.Code.encoding g.K.Code.is_encodable g.V.Code.is_encodable g.K.Code.is_decodable g.V.Code.is_decodable g.P.Properties.age) g.D.Disk.byte_at c.args.self.now.told.witness.me.0 c.tries.self.told.witness.me.0 c.drain_all.new.self.told.witness.me.0 c.tries.invariant.0 c.drain_all.ensures.on) c.try_clear.ensures.on, c.try_clear.ensures.settings ∙ c.drain_all.ensures.settings ∙ c.tries.invariant.1)
