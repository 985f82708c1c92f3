use Rattle.std.proofs.Common.{refl, subst}
use Rattle.foyer_core_laws.specs.Content.{meaning}
use Rattle.foyer_core_steps.specs.declared.step.Step.TheVariants as steps
use Rattle.foyer_core_threads.specs.Going.{IsMadeAgain}
use Rattle.foyer_storage_history.proofs.HistoryLemmas.{closes_named, ok_map}
use Rattle.foyer_storage_history.proofs.engine.HistoryEngine.close_core.Goals as goal

pub returns-clause-made : goal.returns-clause-made
returns-clause-made g c =
    ok_map c.closed_of.result (λ is. subst (IsMadeAgain (meaning g.K.Code.encoding g.V.Code.encoding g.K.Code.is_encodable g.V.Code.is_encodable g.K.Code.is_decodable g.V.Code.is_decodable g.P.Properties.age) g.D.Disk.byte_at c.args.session.now.told.witness.me.0 c.ask_again-reply.new.session.witness.me.0 steps.Close) is c.ask_again-reply.ensures.told) c.closed_of.ensures.done

pub returns-clause-named : goal.returns-clause-named
returns-clause-named g c = closes_named c.args.session.now.told.session c.ask_again-reply.new.session.session steps.Close c.ask_again-reply.result refl refl c.ask_again-reply.ensures.noted
