use Rattle.std.proofs.Common.{[], ap, ◌∙◌}
use Rattle.foyer_core_chronicle.specs.SharedHistory.{viewer, joined}
use Rattle.foyer_core_laws.specs.Content.{meaning}
use Rattle.foyer_core_threads.proofs.GoingLemmas.{joined_on}
use Rattle.foyer_core_threads.proofs.HistoryJoins.{both_seen}
use Rattle.foyer_core_threads.proofs.session.ToldSession.see.Goals as goal

pub returns-clause-joined : goal.returns-clause-joined
returns-clause-joined g c =
    both_seen (meaning g.K.Code.encoding g.V.Code.encoding g.K.Code.is_encodable g.V.Code.is_encodable g.K.Code.is_decodable g.V.Code.is_decodable g.P.Properties.age) g.D.Disk.byte_at c.args.self.now.witness.me.0 (viewer c.args.other.now.witness.me.0.seen []) c.take.new.witness.me.0 c.look.new.witness.me.0
    (ap (λ x. x.0) c.take.ensures.1 ∙ ap (λ x. joined c.args.self.now.witness.me.0 x.0) c.give_seen-seen.ensures.given.1) c.look.ensures.seen

pub returns-clause-on : goal.returns-clause-on
returns-clause-on g c =
    joined_on (meaning g.K.Code.encoding g.V.Code.encoding g.K.Code.is_encodable g.V.Code.is_encodable g.K.Code.is_decodable g.V.Code.is_decodable g.P.Properties.age) g.D.Disk.byte_at c.args.self.now.witness.me.0 (viewer c.args.other.now.witness.me.0.seen []) c.look.new.witness.me.0
    (both_seen (meaning g.K.Code.encoding g.V.Code.encoding g.K.Code.is_encodable g.V.Code.is_encodable g.K.Code.is_decodable g.V.Code.is_decodable g.P.Properties.age) g.D.Disk.byte_at c.args.self.now.witness.me.0 (viewer c.args.other.now.witness.me.0.seen []) c.take.new.witness.me.0 c.look.new.witness.me.0
    (ap (λ x. x.0) c.take.ensures.1 ∙ ap (λ x. joined c.args.self.now.witness.me.0 x.0) c.give_seen-seen.ensures.given.1) c.look.ensures.seen)
