use Rattle.std.proofs.Common.{ap}
use Rattle.foyer_core_laws.specs.Content.{meaning}
use Rattle.foyer_core_threads.proofs.GoingLemmas.{same_on}
use Rattle.foyer_storage_history.proofs.engine.HistoryEngine.split.Goals as goal

pub returns-clause-on : goal.returns-clause-on
returns-clause-on g c = same_on (meaning g.K.Code.encoding g.V.Code.encoding g.K.Code.is_encodable g.V.Code.is_encodable g.K.Code.is_decodable g.V.Code.is_decodable g.P.Properties.age) g.D.Disk.byte_at c.args.session.now.told.witness.me.0 _ (ap (λ x. x.0) c.split.ensures.same.1)
