use Rattle.std.proofs.Common.{◌≡◌, false, IfErr, IfOk, ap, ◌∙◌, subst}
use Rattle.foyer_core_laws.specs.Content.{content, meaning}
use Rattle.foyer_core_steps.specs.declared.reply.Reply.TheVariants as reply
use Rattle.foyer_device_page.specs.declared.error.Error.TheVariants.{Memory}
use Rattle.foyer_core_threads.specs.Done.{HasLoaded, HasLookedOnly, IsLoadNoted}
use Rattle.foyer_core_threads.specs.Newest.{WasMissedWritten, WasPutLast}
use Rattle.foyer_storage_history.proofs.engine.HistoryEngine.load_written.Goals as goal

pub returns-in-Some-ended-clause-put_last : goal.returns-in-Some-ended-clause-put_last
returns-in-Some-ended-clause-put_last g c =
    subst (λ x. IfOk c.in-Some-ended.ended (λ answer. (key : g.row.K.Denot) (value : g.row.V.Denot) (age : _) → answer ≡ reply.Entry key value age
    → WasPutLast (meaning g.K.Code.encoding g.V.Code.encoding g.K.Code.is_encodable g.V.Code.is_encodable g.K.Code.is_decodable g.V.Code.is_decodable g.P.Properties.age) g.D.Disk.byte_at x.witness.me.0.seen c.load_written-ended.new.session.witness.me.0.seen c.args.hash (content (meaning g.K.Code.encoding g.V.Code.encoding g.K.Code.is_encodable g.V.Code.is_encodable g.K.Code.is_decodable g.V.Code.is_decodable g.P.Properties.age) key value)))
    c.loop.invariant c.in-Some-ended.ensures.put_last

pub returns-in-Some-ended-clause-missed : goal.returns-in-Some-ended-clause-missed
returns-in-Some-ended-clause-missed g c =
    subst (λ x. IfOk c.in-Some-ended.ended (λ answer. answer ≡ reply.Miss
    → WasMissedWritten (meaning g.K.Code.encoding g.V.Code.encoding g.K.Code.is_encodable g.V.Code.is_encodable g.K.Code.is_decodable g.V.Code.is_decodable g.P.Properties.age) g.D.Disk.byte_at x.witness.me.0.seen c.load_written-ended.new.session.witness.me.0.seen c.args.hash))
    c.loop.invariant c.in-Some-ended.ensures.missed

pub returns-in-Some-ended-clause-told : goal.returns-in-Some-ended-clause-told
returns-in-Some-ended-clause-told g c =
    subst (λ x. IfOk c.in-Some-ended.ended (λ answer. HasLoaded (meaning g.K.Code.encoding g.V.Code.encoding g.K.Code.is_encodable g.V.Code.is_encodable g.K.Code.is_decodable g.V.Code.is_decodable g.P.Properties.age) g.D.Disk.byte_at false x.witness.me.0 c.load_written-ended.new.session.witness.me.0 c.args.hash false answer)) c.loop.invariant c.in-Some-ended.ensures.told

pub returns-in-Some-ended-clause-noted : goal.returns-in-Some-ended-clause-noted
returns-in-Some-ended-clause-noted g c = subst (λ x. IfOk c.in-Some-ended.ended (λ answer. IsLoadNoted false x.session c.load_written-ended.new.session.session c.args.hash false answer)) c.loop.invariant c.in-Some-ended.ensures.noted

pub returns-in-Some-ended-clause-parts : goal.returns-in-Some-ended-clause-parts
returns-in-Some-ended-clause-parts g c = c.load_written-ended.ensures.parts ∙ ap (λ x. x.session.shares.parts) c.loop.invariant

pub returns-in-Some-ended-clause-refused : goal.returns-in-Some-ended-clause-refused
returns-in-Some-ended-clause-refused g c =
    subst (λ x. IfErr c.in-Some-ended.ended (λ e. (e ≡ Memory) × HasLookedOnly (meaning g.K.Code.encoding g.V.Code.encoding g.K.Code.is_encodable g.V.Code.is_encodable g.K.Code.is_decodable g.V.Code.is_decodable g.P.Properties.age) g.D.Disk.byte_at x.witness.me.0 c.load_written-ended.new.session.witness.me.0 x.session c.load_written-ended.new.session.session c.args.hash false)) c.loop.invariant c.in-Some-ended.ensures.refused

pub loop-preserved : goal.loop-preserved
loop-preserved g c = c.in_default.ensures.queued ∙ c.loop.invariant
