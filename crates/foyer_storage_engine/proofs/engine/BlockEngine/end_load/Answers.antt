use Rattle.foyer_core_shared.specs.Step.TheVariants as step
use Rattle.foyer_core_shared.specs.Asked.{went_well}
use Rattle.foyer_storage_engine.proofs.AnsweringLemmas.{end_of}
use Rattle.foyer_storage_engine.proofs.RefusalLemmas.{end_refused, end_throttled}
use Rattle.foyer_storage_engine.proofs.engine.BlockEngine.end_load.Goals as goal

pub returns-clause-answer : goal.returns-clause-answer
returns-clause-answer g c =
    end_of g.K.Code.is_decodable g.V.Code.is_decodable g.K.Code.encoding g.V.Code.encoding g.N.Noting.keeps c.args.session.now c.end_load-reply.new.session c.args.ticket c.args.outcome c.end_load-reply.result.0 c.load_of.result
    c.end_load-reply.ensures.noted c.end_load-reply.ensures.answer c.load_of.ensures.answer

pub returns-clause-refused : goal.returns-clause-refused
returns-clause-refused g c =
    end_refused g.N.Noting.keeps (went_well c.args.outcome) (step.LoadEnd c.args.ticket c.args.outcome) c.end_load-reply.result.0 c.load_of.result
    c.end_load-reply.ensures.replied (c.load_of.ensures.refused (went_well c.args.outcome)) c.load_of.ensures.answer

pub returns-clause-throttled : goal.returns-clause-throttled
returns-clause-throttled g c = λ said.
    end_throttled g.N.Noting.keeps (went_well c.args.outcome) (step.LoadEnd c.args.ticket c.args.outcome) c.end_load-reply.result.0 c.load_of.result
    c.end_load-reply.ensures.replied c.load_of.ensures.answer said
