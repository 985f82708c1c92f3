use Rattle.std.proofs.Common.{ap}
use Rattle.foyer_core_laws.specs.Content.{meaning}
use Rattle.foyer_core_threads.proofs.HistoryJoins.{both_seen}
use Rattle.foyer_core_threads.proofs.session.ToldSession.join.Goals as goal

pub returns-clause-joined : goal.returns-clause-joined
returns-clause-joined g c = both_seen (meaning g.K.Code.encoding g.V.Code.encoding g.K.Code.is_encodable g.V.Code.is_encodable g.K.Code.is_decodable g.V.Code.is_decodable g.P.Properties.age) g.D.Disk.byte_at c.args.self.now.witness.me.0 c.args.other.witness.me.0 c.take.new.witness.me.0 c.look.new.witness.me.0 (ap (λ x. x.0) c.take.ensures.1) c.look.ensures.seen
