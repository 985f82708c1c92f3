use Rattle.std.proofs.Common.{inr, refl, subst, ap, ◌∙◌, sym}
use Rattle.foyer_core_laws.specs.Content.{meaning}
use Rattle.foyer_core_steps.specs.declared.reply.Reply.TheVariants as replies
use Rattle.foyer_core_steps.specs.declared.step.Step.TheVariants as steps
use Rattle.foyer_core_shared.specs.Answers.{IsAnswer}
use Rattle.foyer_core_threads.proofs.LoadLemmas.{looked_known, end_brings, was_newest, was_missed, was_missed_late, no_entry, stepped_as, ended_as, may_miss, miss_no_refusal, entry_no_refusal, read_no_refusal}
use Rattle.foyer_core_threads.specs.Done.{IsNoted}
use Rattle.foyer_core_threads.proofs.DoneLemmas.{made_of, made_as, noted_of, noted_as, only_looked, noted_look_up, look_up_replied, end_replied}
use Rattle.foyer_core_threads.proofs.GoingLemmas.{on_on}
use Rattle.foyer_core_threads.proofs.HistoryJoins.{ticket_above}
use Rattle.foyer_core_told.specs.ToldRights.{ticket_right}
use Rattle.foyer_core_threads.proofs.shared.ToldShared.load.Goals as goal

pub returns-in-Err-clause-newest : goal.returns-in-Err-clause-newest
returns-in-Err-clause-newest g c = λ key value age is.
    absurd (no_entry c.args.throttled c.args.hash c.ask-reply.result.0 key value age c.ask-reply.ensures.replied (sym c.in-Err.ensures.0 ∙ is))

pub returns-in-Err-clause-missed : goal.returns-in-Err-clause-missed
returns-in-Err-clause-missed g c = λ is.
    was_missed (meaning g.K.Code.encoding g.V.Code.encoding g.K.Code.is_encodable g.V.Code.is_encodable g.K.Code.is_decodable g.V.Code.is_decodable g.P.Properties.age) g.D.Disk.byte_at c.args.session.now.witness.me.0 c.ask-reply.new.session.witness.me.0 c.args.hash c.args.throttled c.ask-reply.result.1
    (stepped_as (meaning g.K.Code.encoding g.V.Code.encoding g.K.Code.is_encodable g.V.Code.is_encodable g.K.Code.is_decodable g.V.Code.is_decodable g.P.Properties.age) g.D.Disk.byte_at c.args.session.now.witness.me.0 c.ask-reply.new.session.witness.me.0 (steps.LoadBegin c.args.hash c.args.throttled) c.ask-reply.result.0 replies.Miss c.ask-reply.result.1 c.ask-reply.ensures.told (sym c.in-Err.ensures.0 ∙ is) miss_no_refusal)

pub read-requires-clause-right : goal.read-requires-clause-right
read-requires-clause-right g c = (stepped_as (meaning g.K.Code.encoding g.V.Code.encoding g.K.Code.is_encodable g.V.Code.is_encodable g.K.Code.is_decodable g.V.Code.is_decodable g.P.Properties.age) g.D.Disk.byte_at c.args.session.now.witness.me.0 c.ask-reply.new.session.witness.me.0 (steps.LoadBegin c.args.hash c.args.throttled) c.ask-reply.result.0 (replies.Read c.in-Ok.ticket) c.ask-reply.result.1 c.ask-reply.ensures.told c.in-Ok.ensures (read_no_refusal c.in-Ok.ticket)).ticket refl

pub read-requires-clause-ticket : goal.read-requires-clause-ticket
read-requires-clause-ticket g c = looked_known (meaning g.K.Code.encoding g.V.Code.encoding g.K.Code.is_encodable g.V.Code.is_encodable g.K.Code.is_decodable g.V.Code.is_decodable g.P.Properties.age) g.D.Disk.byte_at c.args.session.now.witness.me.0 c.ask-reply.new.session.witness.me.0 c.args.hash c.args.throttled c.in-Ok.ticket c.ask-reply.result.1 (stepped_as (meaning g.K.Code.encoding g.V.Code.encoding g.K.Code.is_encodable g.V.Code.is_encodable g.K.Code.is_decodable g.V.Code.is_decodable g.P.Properties.age) g.D.Disk.byte_at c.args.session.now.witness.me.0 c.ask-reply.new.session.witness.me.0 (steps.LoadBegin c.args.hash c.args.throttled) c.ask-reply.result.0 (replies.Read c.in-Ok.ticket) c.ask-reply.result.1 c.ask-reply.ensures.told c.in-Ok.ensures (read_no_refusal c.in-Ok.ticket))

pub end_load-reply-requires-clause-brings : goal.end_load-reply-requires-clause-brings
end_load-reply-requires-clause-brings g c =
    end_brings (meaning g.K.Code.encoding g.V.Code.encoding g.K.Code.is_encodable g.V.Code.is_encodable g.K.Code.is_decodable g.V.Code.is_decodable g.P.Properties.age) g.D.Disk.byte_at c.read.new.session.witness.me.0 c.ask-reply.result.1 c.in-Ok.ticket c.in_ok-outcome.outcome (c.in_ok-outcome.ensures.told.rights (ticket_right c.ask-reply.result.1) (ticket_above c.ask-reply.result.1) ((stepped_as (meaning g.K.Code.encoding g.V.Code.encoding g.K.Code.is_encodable g.V.Code.is_encodable g.K.Code.is_decodable g.V.Code.is_decodable g.P.Properties.age) g.D.Disk.byte_at c.args.session.now.witness.me.0 c.ask-reply.new.session.witness.me.0 (steps.LoadBegin c.args.hash c.args.throttled) c.ask-reply.result.0 (replies.Read c.in-Ok.ticket) c.ask-reply.result.1 c.ask-reply.ensures.told c.in-Ok.ensures (read_no_refusal c.in-Ok.ticket)).ticket refl)) c.in_ok-outcome.ensures.read

pub returns-clause-newest : goal.returns-clause-newest
returns-clause-newest g c = λ key value age is.
    let looks = subst (IsAnswer g.K.Code.is_decodable g.V.Code.is_decodable g.K.Code.encoding g.V.Code.encoding (steps.LoadBegin c.args.hash c.args.throttled)) c.in-Ok.ensures c.ask-reply.ensures.answer in
    let ended = ended_as (meaning g.K.Code.encoding g.V.Code.encoding g.K.Code.is_encodable g.V.Code.is_encodable g.K.Code.is_decodable g.V.Code.is_decodable g.P.Properties.age) g.D.Disk.byte_at c.read.new.session.witness.me.0 c.end_load-reply.new.session.witness.me.0 (steps.LoadEnd c.in-Ok.ticket c.in_ok-outcome.outcome) c.end_load-reply.result.0 (replies.Entry key value age) c.end_load-reply.ensures.told is (entry_no_refusal key value age) in
    was_newest (meaning g.K.Code.encoding g.V.Code.encoding g.K.Code.is_encodable g.V.Code.is_encodable g.K.Code.is_decodable g.V.Code.is_decodable g.P.Properties.age) g.D.Disk.byte_at c.args.session.now.witness.me.0 c.ask-reply.new.session.witness.me.0 c.read.new.session.witness.me.0 c.end_load-reply.new.session.witness.me.0 c.args.hash c.args.throttled c.in-Ok.ticket c.ask-reply.result.1 ended.0 c.in_ok-outcome.outcome key value age (stepped_as (meaning g.K.Code.encoding g.V.Code.encoding g.K.Code.is_encodable g.V.Code.is_encodable g.K.Code.is_decodable g.V.Code.is_decodable g.P.Properties.age) g.D.Disk.byte_at c.args.session.now.witness.me.0 c.ask-reply.new.session.witness.me.0 (steps.LoadBegin c.args.hash c.args.throttled) c.ask-reply.result.0 (replies.Read c.in-Ok.ticket) c.ask-reply.result.1 c.ask-reply.ensures.told c.in-Ok.ensures (read_no_refusal c.in-Ok.ticket)) c.in_ok-outcome.ensures.told ended.1 looks.0

pub returns-clause-missed : goal.returns-clause-missed
returns-clause-missed g c = λ is.
    let looks = subst (IsAnswer g.K.Code.is_decodable g.V.Code.is_decodable g.K.Code.encoding g.V.Code.encoding (steps.LoadBegin c.args.hash c.args.throttled)) c.in-Ok.ensures c.ask-reply.ensures.answer in
    let ended = ended_as (meaning g.K.Code.encoding g.V.Code.encoding g.K.Code.is_encodable g.V.Code.is_encodable g.K.Code.is_decodable g.V.Code.is_decodable g.P.Properties.age) g.D.Disk.byte_at c.read.new.session.witness.me.0 c.end_load-reply.new.session.witness.me.0 (steps.LoadEnd c.in-Ok.ticket c.in_ok-outcome.outcome) c.end_load-reply.result.0 replies.Miss c.end_load-reply.ensures.told is miss_no_refusal in
    was_missed_late (meaning g.K.Code.encoding g.V.Code.encoding g.K.Code.is_encodable g.V.Code.is_encodable g.K.Code.is_decodable g.V.Code.is_decodable g.P.Properties.age) g.D.Disk.byte_at c.args.session.now.witness.me.0 c.ask-reply.new.session.witness.me.0 c.read.new.session.witness.me.0 c.end_load-reply.new.session.witness.me.0 c.args.hash c.args.throttled c.in-Ok.ticket c.ask-reply.result.1 ended.0 c.in_ok-outcome.outcome (stepped_as (meaning g.K.Code.encoding g.V.Code.encoding g.K.Code.is_encodable g.V.Code.is_encodable g.K.Code.is_decodable g.V.Code.is_decodable g.P.Properties.age) g.D.Disk.byte_at c.args.session.now.witness.me.0 c.ask-reply.new.session.witness.me.0 (steps.LoadBegin c.args.hash c.args.throttled) c.ask-reply.result.0 (replies.Read c.in-Ok.ticket) c.ask-reply.result.1 c.ask-reply.ensures.told c.in-Ok.ensures (read_no_refusal c.in-Ok.ticket)) c.in_ok-outcome.ensures.told ended.1
    (may_miss (steps.LoadEnd c.in-Ok.ticket c.in_ok-outcome.outcome) c.end_load-reply.result.0 c.end_load-reply.ensures.replied is) looks.0

pub returns-in-Err-clause-told : goal.returns-in-Err-clause-told
returns-in-Err-clause-told g c =
    only_looked (meaning g.K.Code.encoding g.V.Code.encoding g.K.Code.is_encodable g.V.Code.is_encodable g.K.Code.is_decodable g.V.Code.is_decodable g.P.Properties.age) g.D.Disk.byte_at c.args.session.now.witness.me.0 c.ask-reply.new.session.witness.me.0 c.args.hash c.args.throttled c.ask-reply.result.0 c.in-Err.reply g.N.Noting.keeps
    (made_of (meaning g.K.Code.encoding g.V.Code.encoding g.K.Code.is_encodable g.V.Code.is_encodable g.K.Code.is_decodable g.V.Code.is_decodable g.P.Properties.age) g.D.Disk.byte_at c.args.session.now.witness.me.0 c.ask-reply.new.session.witness.me.0 (steps.LoadBegin c.args.hash c.args.throttled) c.ask-reply.result.0 c.ask-reply.result.1 g.N.Noting.keeps _ (λ same. ap (λ x. x.witness.me.0) same) c.ask-reply.ensures.told)
    c.in-Err.ensures.0 c.in-Err.ensures.1

pub returns-in-Err-clause-noted : goal.returns-in-Err-clause-noted
returns-in-Err-clause-noted g c =
    noted_look_up c.args.session.now.session c.ask-reply.new.session.session c.args.hash c.args.throttled c.ask-reply.result.0 c.in-Err.reply g.N.Noting.keeps
    (noted_of c.args.session.now.session c.ask-reply.new.session.session (steps.LoadBegin c.args.hash c.args.throttled) c.ask-reply.result.0 g.N.Noting.keeps _ (λ same. ap (λ x. x.session) same) c.ask-reply.ensures.noted)
    c.in-Err.ensures.0

pub returns-clause-told : goal.returns-clause-told
returns-clause-told g c = inr (record {
  looked = c.ask-reply.new.session.witness.me.0;
  read = c.read.new.session.witness.me.0;
  ticket = c.in-Ok.ticket;
  number = c.ask-reply.result.1;
  outcome = c.in_ok-outcome.outcome;
  look_up = (stepped_as (meaning g.K.Code.encoding g.V.Code.encoding g.K.Code.is_encodable g.V.Code.is_encodable g.K.Code.is_decodable g.V.Code.is_decodable g.P.Properties.age) g.D.Disk.byte_at c.args.session.now.witness.me.0 c.ask-reply.new.session.witness.me.0 (steps.LoadBegin c.args.hash c.args.throttled) c.ask-reply.result.0 (replies.Read c.in-Ok.ticket) c.ask-reply.result.1 c.ask-reply.ensures.told c.in-Ok.ensures (read_no_refusal c.in-Ok.ticket));
  access = c.in_ok-outcome.ensures.told;
  end = made_as (meaning g.K.Code.encoding g.V.Code.encoding g.K.Code.is_encodable g.V.Code.is_encodable g.K.Code.is_decodable g.V.Code.is_decodable g.P.Properties.age) g.D.Disk.byte_at c.read.new.session.witness.me.0 c.end_load-reply.new.session.witness.me.0 (steps.LoadEnd c.in-Ok.ticket c.in_ok-outcome.outcome) c.end_load-reply.result.0 g.N.Noting.keeps _ (λ same. ap (λ x. x.witness.me.0) same) c.end_load-reply.ensures.told;
})

pub returns-clause-noted : goal.returns-clause-noted
returns-clause-noted g c = inr (
  c.ask-reply.new.session.session,
  c.in-Ok.ticket,
  c.in_ok-outcome.outcome,
  noted_as c.args.session.now.session c.ask-reply.new.session.session (steps.LoadBegin c.args.hash c.args.throttled) c.ask-reply.result.0 (replies.Read c.in-Ok.ticket) c.ask-reply.ensures.noted c.in-Ok.ensures (read_no_refusal c.in-Ok.ticket),
  subst (λ x. IsNoted g.N.Noting.keeps x c.end_load-reply.new.session.session (steps.LoadEnd c.in-Ok.ticket c.in_ok-outcome.outcome) c.end_load-reply.result.0) c.read.ensures.same
      (noted_of c.read.new.session.session c.end_load-reply.new.session.session (steps.LoadEnd c.in-Ok.ticket c.in_ok-outcome.outcome) c.end_load-reply.result.0 g.N.Noting.keeps _ (λ same. ap (λ x. x.session) same) c.end_load-reply.ensures.noted),
)

pub returns-in-Err-clause-replied : goal.returns-in-Err-clause-replied
returns-in-Err-clause-replied g c = look_up_replied c.args.hash c.args.throttled c.ask-reply.result.0 c.in-Err.reply g.N.Noting.keeps c.ask-reply.ensures.replied c.in-Err.ensures.0

pub returns-clause-replied : goal.returns-clause-replied
returns-clause-replied g c = end_replied c.args.throttled c.in-Ok.ticket c.in_ok-outcome.outcome c.end_load-reply.result.0 g.N.Noting.keeps c.end_load-reply.ensures.replied

pub returns-in-Err-clause-on : goal.returns-in-Err-clause-on
returns-in-Err-clause-on g c = c.ask-reply.ensures.on

pub returns-clause-on : goal.returns-clause-on
returns-clause-on g c =
    on_on (meaning g.K.Code.encoding g.V.Code.encoding g.K.Code.is_encodable g.V.Code.is_encodable g.K.Code.is_decodable g.V.Code.is_decodable g.P.Properties.age) g.D.Disk.byte_at c.args.session.now.witness.me.0 c.read.new.session.witness.me.0 c.end_load-reply.new.session.witness.me.0
    (on_on (meaning g.K.Code.encoding g.V.Code.encoding g.K.Code.is_encodable g.V.Code.is_encodable g.K.Code.is_decodable g.V.Code.is_decodable g.P.Properties.age) g.D.Disk.byte_at c.args.session.now.witness.me.0 c.ask-reply.new.session.witness.me.0 c.read.new.session.witness.me.0 c.ask-reply.ensures.on c.read.ensures.on) c.end_load-reply.ensures.on
