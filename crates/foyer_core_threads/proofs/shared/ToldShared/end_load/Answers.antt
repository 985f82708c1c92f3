use Rattle.std.proofs.Common.{ap}
use Rattle.foyer_core_laws.specs.Content.{meaning}
use Rattle.foyer_core_threads.proofs.GoingLemmas.{same_on, stepped_on}
use Rattle.foyer_core_threads.proofs.shared.ToldShared.end_load.Goals as goal

pub returns-in-Ok-clause-on : goal.returns-in-Ok-clause-on
returns-in-Ok-clause-on g c = stepped_on (meaning g.K.Code.encoding g.V.Code.encoding g.K.Code.is_encodable g.V.Code.is_encodable g.K.Code.is_decodable g.V.Code.is_decodable g.P.Properties.age) g.D.Disk.byte_at c.args.session.now.witness.me.0 c.end_judged.new.session.witness.me.0 _ c.in-Ok.answer.0 c.in-Ok.ensures.told.0 c.in-Ok.ensures.told.1

pub returns-clause-on : goal.returns-clause-on
returns-clause-on g c = same_on (meaning g.K.Code.encoding g.V.Code.encoding g.K.Code.is_encodable g.V.Code.is_encodable g.K.Code.is_decodable g.V.Code.is_decodable g.P.Properties.age) g.D.Disk.byte_at c.args.session.now.witness.me.0 c.end_judged.new.session.witness.me.0 (ap (λ x. x.witness.me.0) c.in-Err.ensures.roomless.1)
