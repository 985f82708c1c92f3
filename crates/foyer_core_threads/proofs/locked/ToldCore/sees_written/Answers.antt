use Rattle.std.proofs.Common.{sym, ap, ◌∙◌, subst}
use Rattle.foyer_core_chronicle.specs.SharedHistory.{joined}
use Rattle.foyer_core_laws.specs.Content.{meaning}
use Rattle.foyer_core_told.specs.Telling.{StandsAt}
use Rattle.foyer_core_threads.specs.Queued.{AreNoted, HasSeenLeave}
use Rattle.foyer_core_threads.proofs.NotedLemmas.{seen_written, some_left}
use Rattle.foyer_core_threads.proofs.SeeingLemmas.{have_seen, sees_on, sees_core, sees_tickets, sees_noted}
use Rattle.foyer_core_threads.proofs.locked.ToldCore.sees_written.Goals as goal

pub invariant_of-self : goal.invariant_of-self
invariant_of-self g c =
    let seen = have_seen (meaning g.K.Code.encoding g.V.Code.encoding g.K.Code.is_encodable g.V.Code.is_encodable g.K.Code.is_decodable g.V.Code.is_decodable g.P.Properties.age) g.D.Disk.byte_at c.self.inside.witness.me.0 c.args.session.now.witness.me.0 c.take.new.witness.me.0 c.look.new.witness.me.0 c.give_others.new.witness.me.0 c.give_others.result.me.0
    (ap (λ x. x.0) c.take.ensures.1 ∙ ap (λ x. joined c.self.inside.witness.me.0 x.0) c.give_all-brought.ensures.given.1) c.look.ensures.seen (ap (λ x. x.0) c.give_others.ensures.same.1) (ap (λ x. x.0) c.give_others.ensures.given.1) in (
      c.give_others.ensures.same.0 ∙ c.look.ensures.same.0 ∙ c.take.ensures.0 ∙ c.self.invariant.0,
      ap (λ x. x.1) c.give_others.ensures.same.1 ∙ c.look.ensures.same.1 ∙ ap (λ x. x.1) c.take.ensures.1 ∙ c.self.invariant.1,
      seen.right c.self.invariant.2,
      c.self.invariant.3 ∙ sym (sees_tickets (meaning g.K.Code.encoding g.V.Code.encoding g.K.Code.is_encodable g.V.Code.is_encodable g.K.Code.is_decodable g.V.Code.is_decodable g.P.Properties.age) g.D.Disk.byte_at c.self.inside.witness.me.0 c.args.session.now.witness.me.0 c.give_others.new.witness.me.0 c.give_others.result.me.0 seen c.self.invariant.2),
      sees_core (meaning g.K.Code.encoding g.V.Code.encoding g.K.Code.is_encodable g.V.Code.is_encodable g.K.Code.is_decodable g.V.Code.is_decodable g.P.Properties.age) g.D.Disk.byte_at c.self.inside.witness.me.0 c.args.session.now.witness.me.0 c.give_others.new.witness.me.0 c.give_others.result.me.0 seen c.self.inside.locked.noted.core c.self.invariant.2 c.self.invariant.4,
      sees_noted (meaning g.K.Code.encoding g.V.Code.encoding g.K.Code.is_encodable g.V.Code.is_encodable g.K.Code.is_decodable g.V.Code.is_decodable g.P.Properties.age) g.D.Disk.byte_at c.self.inside.witness.me.0 c.args.session.now.witness.me.0 c.give_others.new.witness.me.0 c.give_others.result.me.0 seen c.self.inside.places c.self.invariant.2 c.self.invariant.5,
    )

pub returns-clause-on : goal.returns-clause-on
returns-clause-on g c =
    let seen = have_seen (meaning g.K.Code.encoding g.V.Code.encoding g.K.Code.is_encodable g.V.Code.is_encodable g.K.Code.is_decodable g.V.Code.is_decodable g.P.Properties.age) g.D.Disk.byte_at c.self.inside.witness.me.0 c.args.session.now.witness.me.0 c.take.new.witness.me.0 c.look.new.witness.me.0 c.give_others.new.witness.me.0 c.give_others.result.me.0
    (ap (λ x. x.0) c.take.ensures.1 ∙ ap (λ x. joined c.self.inside.witness.me.0 x.0) c.give_all-brought.ensures.given.1) c.look.ensures.seen (ap (λ x. x.0) c.give_others.ensures.same.1) (ap (λ x. x.0) c.give_others.ensures.given.1) in
    sees_on (meaning g.K.Code.encoding g.V.Code.encoding g.K.Code.is_encodable g.V.Code.is_encodable g.K.Code.is_decodable g.V.Code.is_decodable g.P.Properties.age) g.D.Disk.byte_at c.self.inside.witness.me.0 c.args.session.now.witness.me.0 c.give_others.new.witness.me.0 c.give_others.result.me.0 seen

pub returns-clause-written : goal.returns-clause-written
returns-clause-written g c = λ is.
    let m = meaning g.K.Code.encoding g.V.Code.encoding g.K.Code.is_encodable g.V.Code.is_encodable g.K.Code.is_decodable g.V.Code.is_decodable g.P.Properties.age in
    let seen = have_seen m g.D.Disk.byte_at c.self.inside.witness.me.0 c.args.session.now.witness.me.0 c.take.new.witness.me.0 c.look.new.witness.me.0 c.give_others.new.witness.me.0 c.give_others.result.me.0
    (ap (λ x. x.0) c.take.ensures.1 ∙ ap (λ x. joined c.self.inside.witness.me.0 x.0) c.give_all-brought.ensures.given.1) c.look.ensures.seen (ap (λ x. x.0) c.give_others.ensures.same.1) (ap (λ x. x.0) c.give_others.ensures.given.1) in
    let same = seen.own_seen ∙ sym seen.seen in
    seen_written m g.D.Disk.byte_at c.self.inside.places c.args.hash c.give_others.result.me.0.seen c.self.inside.locked.noted.core
    (subst (AreNoted c.self.inside.places) same (sees_noted m g.D.Disk.byte_at c.self.inside.witness.me.0 c.args.session.now.witness.me.0 c.give_others.new.witness.me.0 c.give_others.result.me.0 seen c.self.inside.places c.self.invariant.2 c.self.invariant.5))
    (subst (λ l. StandsAt m g.D.Disk.byte_at l c.self.inside.locked.noted.core) same (sees_core m g.D.Disk.byte_at c.self.inside.witness.me.0 c.args.session.now.witness.me.0 c.give_others.new.witness.me.0 c.give_others.result.me.0 seen c.self.inside.locked.noted.core c.self.invariant.2 c.self.invariant.4))
    (subst (λ n. HasSeenLeave c.self.inside.places n c.args.hash) (ap (λ x. x.flushers) (c.settings-flushers.ensures ∙ ap (λ x. x.settings) c.core.ensures)) (some_left c.have_left.result (HasSeenLeave c.self.inside.places c.settings-flushers.result.flushers c.args.hash) (sym c.is_some.ensures ∙ is) c.have_left.ensures.left))
