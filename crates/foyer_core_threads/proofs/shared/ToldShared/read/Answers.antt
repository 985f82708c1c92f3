use Rattle.std.proofs.Common.{ap, refl}
use Rattle.foyer_core_laws.specs.Content.{meaning}
use Rattle.foyer_core_threads.proofs.GoingLemmas.{read_on, same_on}
use Rattle.foyer_core_threads.proofs.shared.ToldShared.read.Goals as goal

pub returns-in_err-alloc-clause-on : goal.returns-in_err-alloc-clause-on
returns-in_err-alloc-clause-on g c = same_on (meaning g.K.Code.encoding g.V.Code.encoding g.K.Code.is_encodable g.V.Code.is_encodable g.K.Code.is_decodable g.V.Code.is_decodable g.P.Properties.age) g.D.Disk.byte_at c.args.session.now.witness.me.0 c.args.session.now.witness.me.0 refl

pub returns-in_err-outcome-clause-on : goal.returns-in_err-outcome-clause-on
returns-in_err-outcome-clause-on g c = same_on (meaning g.K.Code.encoding g.V.Code.encoding g.K.Code.is_encodable g.V.Code.is_encodable g.K.Code.is_decodable g.V.Code.is_decodable g.P.Properties.age) g.D.Disk.byte_at c.args.session.now.witness.me.0 c.read.new.mine.me.0 (ap (λ w. w.me.0) c.in_err-outcome.ensures.untold)

pub returns-clause-on : goal.returns-clause-on
returns-clause-on g c = read_on (meaning g.K.Code.encoding g.V.Code.encoding g.K.Code.is_encodable g.V.Code.is_encodable g.K.Code.is_decodable g.V.Code.is_decodable g.P.Properties.age) g.D.Disk.byte_at c.args.session.now.witness.me.0 c.read.new.mine.me.0 c.args.number c.in_ok-outcome.outcome c.in_ok-outcome.ensures.told
