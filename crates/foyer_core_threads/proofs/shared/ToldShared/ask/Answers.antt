use Rattle.foyer_core_laws.specs.Content.{meaning}
use Rattle.foyer_core_threads.proofs.PlainSteps.{encodes_as, plain_brings, plain_takes}
use Rattle.foyer_core_threads.proofs.shared.ToldShared.ask.Goals as goal

pub step-requires-clause-rights : goal.step-requires-clause-rights
step-requires-clause-rights g c = λ k taken. absurd (plain_takes c.args.step k c.requires.plain taken)

pub step-requires-clause-brings : goal.step-requires-clause-brings
step-requires-clause-brings g c = plain_brings (meaning g.K.Code.encoding g.V.Code.encoding g.K.Code.is_encodable g.V.Code.is_encodable g.K.Code.is_decodable g.V.Code.is_decodable g.P.Properties.age) g.D.Disk.byte_at (encodes_as g.K.Code.encoding g.V.Code.encoding g.K.Code.is_encodable g.V.Code.is_encodable g.K.Code.is_decodable g.V.Code.is_decodable g.P.Properties.age g.met.K.Code.is_encoded g.met.V.Code.is_encoded) c.args.session.now.witness.me.0 c.args.step c.requires.plain
