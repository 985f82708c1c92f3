use Rattle.std.proofs.Common.{ap, ◌∙◌}
use Rattle.foyer_core_chronicle.specs.SharedHistory.{joined}
use Rattle.foyer_core_chronicle.proofs.ChronicleSteps.{went_on}
use Rattle.foyer_core_chronicle.proofs.Chronicle.add_with.Goals as goal

pub returns-clause-added : goal.returns-clause-added
returns-clause-added g c =
    went_on _ _ _ _ _ c.args.own.now.me.0 c.args.mine.now.me.0 c.take.new.witness.me.0 c.add.new.witness.me.0 c.give_others.new.witness.me.0 c.give_others.result.me.0 c.args.event.now
    (ap (λ x. x.0) c.take.ensures.1 ∙ ap (λ x. joined c.args.own.now.me.0 x.0) c.give_all-brought.ensures.given.1) c.add.ensures.added
    (ap (λ x. x.0) c.give_others.ensures.same.1) (ap (λ x. x.0) c.give_others.ensures.given.1)
