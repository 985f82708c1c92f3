use Rattle.foyer_core_laws.specs.Content.{meaning}
use Rattle.foyer_core_threads.proofs.PlainSteps.{encodes_as, plain_brings, plain_repeats, plain_takes}
use Rattle.foyer_core_threads.proofs.shared.ToldShared.ask_again.Goals as goal

pub step_again-requires-clause-rights : goal.step_again-requires-clause-rights
step_again-requires-clause-rights g c = λ k taken. absurd (plain_takes c.args.step k c.requires.plain taken)

pub step_again-requires-clause-brings : goal.step_again-requires-clause-brings
step_again-requires-clause-brings g c = plain_brings (meaning g.K.Code.encoding g.V.Code.encoding g.K.Code.is_encodable g.V.Code.is_encodable g.K.Code.is_decodable g.V.Code.is_decodable g.P.Properties.age) g.D.Disk.byte_at (encodes_as g.K.Code.encoding g.V.Code.encoding g.K.Code.is_encodable g.V.Code.is_encodable g.K.Code.is_decodable g.V.Code.is_decodable g.P.Properties.age g.met.K.Code.is_encoded g.met.V.Code.is_encoded) c.args.session.now.witness.me.0 c.args.step c.requires.plain

pub step_again-requires-clause-again : goal.step_again-requires-clause-again
step_again-requires-clause-again g c = plain_repeats c.args.step c.requires.plain
