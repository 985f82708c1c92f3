use Rattle.std.proofs.Common.{refl}
use Rattle.foyer_core_shared.specs.Briefs.{reply_brief}
use Rattle.foyer_core_steps.specs.declared.step.Step.TheVariants as steps
use Rattle.foyer_storage_history.proofs.HistoryLemmas.{destroys_named, ok_map}
use Rattle.foyer_storage_history.proofs.begun.begin_destroy.Goals as goal

pub returns-clause-asks : goal.returns-clause-asks
returns-clause-asks g c = ok_map c.begun_of.result (λ taken. (reply_brief c.ask_again-reply.result, c.ask_again-reply.ensures.noted.2.newest, taken)) c.begun_of.ensures.taken

pub returns-clause-named : goal.returns-clause-named
returns-clause-named g c = destroys_named c.args.session.now.told.session c.ask_again-reply.new.session.session steps.DestroyBegin c.ask_again-reply.result refl refl c.ask_again-reply.ensures.noted
