use Rattle.std.proofs.Common.{◌≡◌, true, subst}
use Rattle.foyer_core_shared.specs.Step.TheVariants as step
use Rattle.foyer_storage_engine.specs.Accessing.{IsReadBy}
use Rattle.foyer_storage_engine.specs.Answering.{IsLoadOf, is_load_error}
use Rattle.foyer_core_shared.specs.Replies.{is_look_up_reply}
use Rattle.std.specs.Result.{IfErr}
use Rattle.foyer_storage_engine.proofs.AnsweringLemmas.{ended, looked_up}
use Rattle.foyer_storage_engine.proofs.RefusalLemmas.{look_up_refused, look_up_throttled}
use Rattle.foyer_storage_engine.proofs.engine.BlockEngine.load_by.Goals as goal

pub returns-in-Err-clause-answer : goal.returns-in-Err-clause-answer
returns-in-Err-clause-answer g c =
    looked_up g.K.Code.is_decodable g.V.Code.is_decodable g.K.Code.encoding g.V.Code.encoding g.N.Noting.keeps (IsReadBy g.D.Disk.is_known g.D.Disk.byte_at g.D.Disk.may_answer) c.args.session.now c.step.new.session c.args.hash c.args.throttled c.step.result c.load_of.result c.step.ensures.noted c.step.ensures.answer
    c.in-Err.ensures.1 (subst (λ r. IsLoadOf r c.load_of.result) c.in-Err.ensures.0 c.load_of.ensures.answer)

pub returns-in-Err-clause-refused : goal.returns-in-Err-clause-refused
returns-in-Err-clause-refused g c =
    look_up_refused g.N.Noting.keeps c.args.throttled (step.LoadBegin c.args.hash c.args.throttled) c.step.result c.load_of.result c.step.ensures.replied
    (subst (λ r. is_look_up_reply c.args.throttled r ≡ true → IfErr c.load_of.result (λ e. is_load_error e ≡ true)) c.in-Err.ensures.0 (c.load_of.ensures.unread c.args.throttled))
    (subst (λ r. IsLoadOf r c.load_of.result) c.in-Err.ensures.0 c.load_of.ensures.answer)

pub returns-in-Err-clause-throttled : goal.returns-in-Err-clause-throttled
returns-in-Err-clause-throttled g c =
    look_up_throttled g.N.Noting.keeps c.args.throttled (step.LoadBegin c.args.hash c.args.throttled) c.step.result c.load_of.result c.step.ensures.replied
    (subst (λ r. IsLoadOf r c.load_of.result) c.in-Err.ensures.0 c.load_of.ensures.answer)

pub returns-clause-answer : goal.returns-clause-answer
returns-clause-answer g c =
    ended g.K.Code.is_decodable g.V.Code.is_decodable g.K.Code.encoding g.V.Code.encoding g.N.Noting.keeps (IsReadBy g.D.Disk.is_known g.D.Disk.byte_at g.D.Disk.may_answer) c.args.session.now c.step.new.session c.end_load.new.session c.args.hash c.args.throttled c.in-Ok.ticket c.in_ok-outcome.outcome
    c.step.result c.end_load.result c.in-Ok.ensures c.step.ensures.noted c.step.ensures.answer c.in_ok-outcome.ensures.len c.in_ok-outcome.ensures.by c.end_load.ensures.answer

pub returns-clause-throttled : goal.returns-clause-throttled
returns-clause-throttled g c = λ said. absurd (c.end_load.ensures.throttled said)
