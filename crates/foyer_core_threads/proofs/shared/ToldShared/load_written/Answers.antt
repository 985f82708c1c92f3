use Rattle.std.proofs.Common.{inr, refl, subst, ap, ◌∙◌, sym}
use Rattle.foyer_core_laws.specs.Content.{meaning}
use Rattle.foyer_core_steps.specs.declared.reply.Reply.TheVariants as replies
use Rattle.foyer_core_steps.specs.declared.step.Step.TheVariants as steps
use Rattle.foyer_core_shared.specs.Answers.{IsAnswer}
use Rattle.foyer_core_shared.specs.Briefed.{IsNotedIn}
use Rattle.foyer_core_told.specs.Telling.{HasStepped}
use Rattle.foyer_core_threads.proofs.LoadLemmas.{looked_as, looked_known, end_brings, was_missed_late_written, was_missed_written, was_put_last, no_entry, ended_as, may_miss, miss_no_refusal, entry_no_refusal, read_no_refusal}
use Rattle.foyer_core_threads.specs.Done.{IsNoted}
use Rattle.foyer_core_threads.proofs.DoneLemmas.{looked_made, made_as, noted_of, noted_as, only_looked, noted_look_up, look_up_replied, end_replied}
use Rattle.foyer_core_threads.proofs.GoingLemmas.{on_on}
use Rattle.foyer_core_threads.proofs.HistoryJoins.{ticket_above}
use Rattle.foyer_core_told.specs.ToldRights.{ticket_right}
use Rattle.foyer_core_threads.proofs.shared.ToldShared.load_written.Goals as goal

pub returns-in-Err-clause-put_last : goal.returns-in-Err-clause-put_last
returns-in-Err-clause-put_last g c = λ key value age is.
    absurd (no_entry c.args.throttled c.args.hash c.in-Some.looked.0 key value age c.in-Some.ensures.replied (sym c.in-Err.ensures.0 ∙ is))

pub returns-in-Err-clause-missed : goal.returns-in-Err-clause-missed
returns-in-Err-clause-missed g c = λ is.
    let look = looked_as (meaning g.K.Code.encoding g.V.Code.encoding g.K.Code.is_encodable g.V.Code.is_encodable g.K.Code.is_decodable g.V.Code.is_decodable g.P.Properties.age) g.D.Disk.byte_at c.args.session.now.witness.me.0 c.look_up-looked.new.session.witness.me.0 (steps.LoadBegin c.args.hash c.args.throttled) c.in-Some.looked.0 replies.Miss c.in-Some.looked.1 c.args.hash c.in-Some.ensures.told (sym c.in-Err.ensures.0 ∙ is) miss_no_refusal in
    was_missed_written (meaning g.K.Code.encoding g.V.Code.encoding g.K.Code.is_encodable g.V.Code.is_encodable g.K.Code.is_decodable g.V.Code.is_decodable g.P.Properties.age) g.D.Disk.byte_at c.args.session.now.witness.me.0 c.look_up-looked.new.session.witness.me.0 c.args.hash c.args.throttled c.in-Some.looked.1 look.0 look.1

pub read-requires-clause-right : goal.read-requires-clause-right
read-requires-clause-right g c = (looked_as (meaning g.K.Code.encoding g.V.Code.encoding g.K.Code.is_encodable g.V.Code.is_encodable g.K.Code.is_decodable g.V.Code.is_decodable g.P.Properties.age) g.D.Disk.byte_at c.args.session.now.witness.me.0 c.look_up-looked.new.session.witness.me.0 (steps.LoadBegin c.args.hash c.args.throttled) c.in-Some.looked.0 (replies.Read c.in-Ok.ticket) c.in-Some.looked.1 c.args.hash c.in-Some.ensures.told c.in-Ok.ensures (read_no_refusal c.in-Ok.ticket)).0.ticket refl

pub read-requires-clause-ticket : goal.read-requires-clause-ticket
read-requires-clause-ticket g c = looked_known (meaning g.K.Code.encoding g.V.Code.encoding g.K.Code.is_encodable g.V.Code.is_encodable g.K.Code.is_decodable g.V.Code.is_decodable g.P.Properties.age) g.D.Disk.byte_at c.args.session.now.witness.me.0 c.look_up-looked.new.session.witness.me.0 c.args.hash c.args.throttled c.in-Ok.ticket c.in-Some.looked.1 (looked_as (meaning g.K.Code.encoding g.V.Code.encoding g.K.Code.is_encodable g.V.Code.is_encodable g.K.Code.is_decodable g.V.Code.is_decodable g.P.Properties.age) g.D.Disk.byte_at c.args.session.now.witness.me.0 c.look_up-looked.new.session.witness.me.0 (steps.LoadBegin c.args.hash c.args.throttled) c.in-Some.looked.0 (replies.Read c.in-Ok.ticket) c.in-Some.looked.1 c.args.hash c.in-Some.ensures.told c.in-Ok.ensures (read_no_refusal c.in-Ok.ticket)).0

pub end_load-reply-requires-clause-brings : goal.end_load-reply-requires-clause-brings
end_load-reply-requires-clause-brings g c =
    end_brings (meaning g.K.Code.encoding g.V.Code.encoding g.K.Code.is_encodable g.V.Code.is_encodable g.K.Code.is_decodable g.V.Code.is_decodable g.P.Properties.age) g.D.Disk.byte_at c.read.new.session.witness.me.0 c.in-Some.looked.1 c.in-Ok.ticket c.in-Ok-read.outcome (c.in-Ok-read.ensures.told.rights (ticket_right c.in-Some.looked.1) (ticket_above c.in-Some.looked.1) ((looked_as (meaning g.K.Code.encoding g.V.Code.encoding g.K.Code.is_encodable g.V.Code.is_encodable g.K.Code.is_decodable g.V.Code.is_decodable g.P.Properties.age) g.D.Disk.byte_at c.args.session.now.witness.me.0 c.look_up-looked.new.session.witness.me.0 (steps.LoadBegin c.args.hash c.args.throttled) c.in-Some.looked.0 (replies.Read c.in-Ok.ticket) c.in-Some.looked.1 c.args.hash c.in-Some.ensures.told c.in-Ok.ensures (read_no_refusal c.in-Ok.ticket)).0.ticket refl)) c.in-Ok-read.ensures.read

pub returns-clause-put_last : goal.returns-clause-put_last
returns-clause-put_last g c = λ key value age is.
    let looks = subst (IsAnswer g.K.Code.is_decodable g.V.Code.is_decodable g.K.Code.encoding g.V.Code.encoding (steps.LoadBegin c.args.hash c.args.throttled)) c.in-Ok.ensures c.in-Some.ensures.answer in
    let ended = ended_as (meaning g.K.Code.encoding g.V.Code.encoding g.K.Code.is_encodable g.V.Code.is_encodable g.K.Code.is_decodable g.V.Code.is_decodable g.P.Properties.age) g.D.Disk.byte_at c.read.new.session.witness.me.0 c.end_load-reply.new.session.witness.me.0 (steps.LoadEnd c.in-Ok.ticket c.in-Ok-read.outcome) c.end_load-reply.result.0 (replies.Entry key value age) c.end_load-reply.ensures.told is (entry_no_refusal key value age) in
    was_put_last (meaning g.K.Code.encoding g.V.Code.encoding g.K.Code.is_encodable g.V.Code.is_encodable g.K.Code.is_decodable g.V.Code.is_decodable g.P.Properties.age) g.D.Disk.byte_at c.args.session.now.witness.me.0 c.look_up-looked.new.session.witness.me.0 c.read.new.session.witness.me.0 c.end_load-reply.new.session.witness.me.0 c.args.hash c.args.throttled c.in-Ok.ticket c.in-Some.looked.1 ended.0 c.in-Ok-read.outcome key value age (looked_as (meaning g.K.Code.encoding g.V.Code.encoding g.K.Code.is_encodable g.V.Code.is_encodable g.K.Code.is_decodable g.V.Code.is_decodable g.P.Properties.age) g.D.Disk.byte_at c.args.session.now.witness.me.0 c.look_up-looked.new.session.witness.me.0 (steps.LoadBegin c.args.hash c.args.throttled) c.in-Some.looked.0 (replies.Read c.in-Ok.ticket) c.in-Some.looked.1 c.args.hash c.in-Some.ensures.told c.in-Ok.ensures (read_no_refusal c.in-Ok.ticket)).0 (looked_as (meaning g.K.Code.encoding g.V.Code.encoding g.K.Code.is_encodable g.V.Code.is_encodable g.K.Code.is_decodable g.V.Code.is_decodable g.P.Properties.age) g.D.Disk.byte_at c.args.session.now.witness.me.0 c.look_up-looked.new.session.witness.me.0 (steps.LoadBegin c.args.hash c.args.throttled) c.in-Some.looked.0 (replies.Read c.in-Ok.ticket) c.in-Some.looked.1 c.args.hash c.in-Some.ensures.told c.in-Ok.ensures (read_no_refusal c.in-Ok.ticket)).1 c.in-Ok-read.ensures.told ended.1 looks.0

pub returns-clause-missed : goal.returns-clause-missed
returns-clause-missed g c = λ is.
    let looks = subst (IsAnswer g.K.Code.is_decodable g.V.Code.is_decodable g.K.Code.encoding g.V.Code.encoding (steps.LoadBegin c.args.hash c.args.throttled)) c.in-Ok.ensures c.in-Some.ensures.answer in
    let ended = ended_as (meaning g.K.Code.encoding g.V.Code.encoding g.K.Code.is_encodable g.V.Code.is_encodable g.K.Code.is_decodable g.V.Code.is_decodable g.P.Properties.age) g.D.Disk.byte_at c.read.new.session.witness.me.0 c.end_load-reply.new.session.witness.me.0 (steps.LoadEnd c.in-Ok.ticket c.in-Ok-read.outcome) c.end_load-reply.result.0 replies.Miss c.end_load-reply.ensures.told is miss_no_refusal in
    was_missed_late_written (meaning g.K.Code.encoding g.V.Code.encoding g.K.Code.is_encodable g.V.Code.is_encodable g.K.Code.is_decodable g.V.Code.is_decodable g.P.Properties.age) g.D.Disk.byte_at c.args.session.now.witness.me.0 c.look_up-looked.new.session.witness.me.0 c.read.new.session.witness.me.0 c.end_load-reply.new.session.witness.me.0 c.args.hash c.args.throttled c.in-Ok.ticket c.in-Some.looked.1 ended.0 c.in-Ok-read.outcome (looked_as (meaning g.K.Code.encoding g.V.Code.encoding g.K.Code.is_encodable g.V.Code.is_encodable g.K.Code.is_decodable g.V.Code.is_decodable g.P.Properties.age) g.D.Disk.byte_at c.args.session.now.witness.me.0 c.look_up-looked.new.session.witness.me.0 (steps.LoadBegin c.args.hash c.args.throttled) c.in-Some.looked.0 (replies.Read c.in-Ok.ticket) c.in-Some.looked.1 c.args.hash c.in-Some.ensures.told c.in-Ok.ensures (read_no_refusal c.in-Ok.ticket)).0 (looked_as (meaning g.K.Code.encoding g.V.Code.encoding g.K.Code.is_encodable g.V.Code.is_encodable g.K.Code.is_decodable g.V.Code.is_decodable g.P.Properties.age) g.D.Disk.byte_at c.args.session.now.witness.me.0 c.look_up-looked.new.session.witness.me.0 (steps.LoadBegin c.args.hash c.args.throttled) c.in-Some.looked.0 (replies.Read c.in-Ok.ticket) c.in-Some.looked.1 c.args.hash c.in-Some.ensures.told c.in-Ok.ensures (read_no_refusal c.in-Ok.ticket)).1 c.in-Ok-read.ensures.told ended.1
    (may_miss (steps.LoadEnd c.in-Ok.ticket c.in-Ok-read.outcome) c.end_load-reply.result.0 c.end_load-reply.ensures.replied is) looks.0

pub returns-in-Err-clause-told : goal.returns-in-Err-clause-told
returns-in-Err-clause-told g c =
    only_looked (meaning g.K.Code.encoding g.V.Code.encoding g.K.Code.is_encodable g.V.Code.is_encodable g.K.Code.is_decodable g.V.Code.is_decodable g.P.Properties.age) g.D.Disk.byte_at c.args.session.now.witness.me.0 c.look_up-looked.new.session.witness.me.0 c.args.hash c.args.throttled c.in-Some.looked.0 c.in-Err.reply g.N.Noting.keeps
    (looked_made (meaning g.K.Code.encoding g.V.Code.encoding g.K.Code.is_encodable g.V.Code.is_encodable g.K.Code.is_decodable g.V.Code.is_decodable g.P.Properties.age) g.D.Disk.byte_at c.args.session.now.witness.me.0 c.look_up-looked.new.session.witness.me.0 (steps.LoadBegin c.args.hash c.args.throttled) c.in-Some.looked.0 c.in-Some.looked.1 c.args.hash g.N.Noting.keeps _ (λ same. ap (λ x. x.witness.me.0) same) c.in-Some.ensures.told)
    c.in-Err.ensures.0 c.in-Err.ensures.1

pub returns-clause-told : goal.returns-clause-told
returns-clause-told g c = inr (record {
  looked = c.look_up-looked.new.session.witness.me.0;
  read = c.read.new.session.witness.me.0;
  ticket = c.in-Ok.ticket;
  number = c.in-Some.looked.1;
  outcome = c.in-Ok-read.outcome;
  look_up = (looked_as (meaning g.K.Code.encoding g.V.Code.encoding g.K.Code.is_encodable g.V.Code.is_encodable g.K.Code.is_decodable g.V.Code.is_decodable g.P.Properties.age) g.D.Disk.byte_at c.args.session.now.witness.me.0 c.look_up-looked.new.session.witness.me.0 (steps.LoadBegin c.args.hash c.args.throttled) c.in-Some.looked.0 (replies.Read c.in-Ok.ticket) c.in-Some.looked.1 c.args.hash c.in-Some.ensures.told c.in-Ok.ensures (read_no_refusal c.in-Ok.ticket)).0;
  access = c.in-Ok-read.ensures.told;
  end = made_as (meaning g.K.Code.encoding g.V.Code.encoding g.K.Code.is_encodable g.V.Code.is_encodable g.K.Code.is_decodable g.V.Code.is_decodable g.P.Properties.age) g.D.Disk.byte_at c.read.new.session.witness.me.0 c.end_load-reply.new.session.witness.me.0 (steps.LoadEnd c.in-Ok.ticket c.in-Ok-read.outcome) c.end_load-reply.result.0 g.N.Noting.keeps _ (λ same. ap (λ x. x.witness.me.0) same) c.end_load-reply.ensures.told;
})

pub returns-in-Err-clause-noted : goal.returns-in-Err-clause-noted
returns-in-Err-clause-noted g c =
    noted_look_up c.args.session.now.session c.look_up-looked.new.session.session c.args.hash c.args.throttled c.in-Some.looked.0 c.in-Err.reply g.N.Noting.keeps
    (noted_of c.args.session.now.session c.look_up-looked.new.session.session (steps.LoadBegin c.args.hash c.args.throttled) c.in-Some.looked.0 g.N.Noting.keeps _ (λ same. ap (λ x. x.session) same) c.in-Some.ensures.noted)
    c.in-Err.ensures.0

pub returns-clause-noted : goal.returns-clause-noted
returns-clause-noted g c = inr (
  c.look_up-looked.new.session.session,
  c.in-Ok.ticket,
  c.in-Ok-read.outcome,
  noted_as c.args.session.now.session c.look_up-looked.new.session.session (steps.LoadBegin c.args.hash c.args.throttled) c.in-Some.looked.0 (replies.Read c.in-Ok.ticket) c.in-Some.ensures.noted c.in-Ok.ensures (read_no_refusal c.in-Ok.ticket),
  subst (λ x. IsNoted g.N.Noting.keeps x c.end_load-reply.new.session.session (steps.LoadEnd c.in-Ok.ticket c.in-Ok-read.outcome) c.end_load-reply.result.0) c.read.ensures.same
      (noted_of c.read.new.session.session c.end_load-reply.new.session.session (steps.LoadEnd c.in-Ok.ticket c.in-Ok-read.outcome) c.end_load-reply.result.0 g.N.Noting.keeps _ (λ same. ap (λ x. x.session) same) c.end_load-reply.ensures.noted),
)

pub returns-in-Err-clause-replied : goal.returns-in-Err-clause-replied
returns-in-Err-clause-replied g c = look_up_replied c.args.hash c.args.throttled c.in-Some.looked.0 c.in-Err.reply g.N.Noting.keeps c.in-Some.ensures.replied c.in-Err.ensures.0

pub returns-clause-replied : goal.returns-clause-replied
returns-clause-replied g c = end_replied c.args.throttled c.in-Ok.ticket c.in-Ok-read.outcome c.end_load-reply.result.0 g.N.Noting.keeps c.end_load-reply.ensures.replied

pub returns-in-Err-clause-on : goal.returns-in-Err-clause-on
returns-in-Err-clause-on g c = c.look_up-looked.ensures.on

pub returns-clause-on : goal.returns-clause-on
returns-clause-on g c =
    on_on (meaning g.K.Code.encoding g.V.Code.encoding g.K.Code.is_encodable g.V.Code.is_encodable g.K.Code.is_decodable g.V.Code.is_decodable g.P.Properties.age) g.D.Disk.byte_at c.args.session.now.witness.me.0 c.read.new.session.witness.me.0 c.end_load-reply.new.session.witness.me.0
    (on_on (meaning g.K.Code.encoding g.V.Code.encoding g.K.Code.is_encodable g.V.Code.is_encodable g.K.Code.is_decodable g.V.Code.is_decodable g.P.Properties.age) g.D.Disk.byte_at c.args.session.now.witness.me.0 c.look_up-looked.new.session.witness.me.0 c.read.new.session.witness.me.0 c.look_up-looked.ensures.on c.read.ensures.on) c.end_load-reply.ensures.on

pub returns-in-Err-read-clause-on : goal.returns-in-Err-read-clause-on
returns-in-Err-read-clause-on g c =
    on_on (meaning g.K.Code.encoding g.V.Code.encoding g.K.Code.is_encodable g.V.Code.is_encodable g.K.Code.is_decodable g.V.Code.is_decodable g.P.Properties.age) g.D.Disk.byte_at c.args.session.now.witness.me.0 c.look_up-looked.new.session.witness.me.0 c.read.new.session.witness.me.0 c.look_up-looked.ensures.on c.read.ensures.on

pub returns-in-Err-read-clause-refused : goal.returns-in-Err-read-clause-refused
returns-in-Err-read-clause-refused g c = (
  c.in-Err-read.ensures.refused.0,
  record {
    ticket = c.in-Ok.ticket;
    number = c.in-Some.looked.1;
    look_up = subst (λ x. HasStepped (meaning g.K.Code.encoding g.V.Code.encoding g.K.Code.is_encodable g.V.Code.is_encodable g.K.Code.is_decodable g.V.Code.is_decodable g.P.Properties.age) g.D.Disk.byte_at c.args.session.now.witness.me.0 x.witness.me.0 (steps.LoadBegin c.args.hash c.args.throttled) (replies.Read c.in-Ok.ticket) c.in-Some.looked.1) (sym c.in-Err-read.ensures.refused.1)
        (looked_as (meaning g.K.Code.encoding g.V.Code.encoding g.K.Code.is_encodable g.V.Code.is_encodable g.K.Code.is_decodable g.V.Code.is_decodable g.P.Properties.age) g.D.Disk.byte_at c.args.session.now.witness.me.0 c.look_up-looked.new.session.witness.me.0 (steps.LoadBegin c.args.hash c.args.throttled) c.in-Some.looked.0 (replies.Read c.in-Ok.ticket) c.in-Some.looked.1 c.args.hash c.in-Some.ensures.told c.in-Ok.ensures (read_no_refusal c.in-Ok.ticket)).0;
    noted = subst (λ x. IsNotedIn {K = g.row.K.Denot} {V = g.row.V.Denot} {P = g.row.P.Denot} {A = g.row.A.Denot} c.args.session.now.session x (steps.LoadBegin c.args.hash c.args.throttled) (replies.Read c.in-Ok.ticket)) (sym c.read.ensures.same)
        (noted_as c.args.session.now.session c.look_up-looked.new.session.session (steps.LoadBegin c.args.hash c.args.throttled) c.in-Some.looked.0 (replies.Read c.in-Ok.ticket) c.in-Some.ensures.noted c.in-Ok.ensures (read_no_refusal c.in-Ok.ticket));
  },
)
