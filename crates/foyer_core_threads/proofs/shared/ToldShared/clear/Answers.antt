use Rattle.foyer_core_laws.specs.Content.{meaning}
use Rattle.foyer_core_threads.proofs.DestroyLemmas.{are_to_clean}
use Rattle.foyer_core_threads.proofs.shared.ToldShared.clear.Goals as goal

pub returns-clause-issued : goal.returns-clause-issued
returns-clause-issued g c = λ block sizes knows below is.
    are_to_clean (meaning g.K.Code.encoding g.V.Code.encoding g.K.Code.is_encodable g.V.Code.is_encodable g.K.Code.is_decodable g.V.Code.is_decodable g.P.Properties.age) g.D.Disk.byte_at c.args.session.now.witness.me.0 c.ask_again.new.session.witness.me.0 block sizes c.ask_again.result c.ask_again.ensures.told knows below is
