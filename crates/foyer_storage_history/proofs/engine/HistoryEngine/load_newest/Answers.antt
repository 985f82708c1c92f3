use Rattle.std.proofs.Common.{rules, ◌≡◌, inl, inr, false, Err, sym, subst}
use Rattle.foyer_core_laws.specs.Content.{content, meaning}
use Rattle.foyer_core_threads.specs.Done.{HasLoaded, HasLookedOnly, IsLoadNoted}
use Rattle.foyer_core_threads.specs.Newest.{WasMissedWritten, WasPutLast}
use Rattle.foyer_device_page.specs.declared.error.Error.TheVariants.{Memory}
use Rattle.foyer_storage_history.specs.HistoryCalls.{IsNewestAnswer}
use Rattle.foyer_storage_history.proofs.HistoryLemmas.{newest_answer}
use Rattle.foyer_storage_history.proofs.engine.HistoryEngine.load_newest.Goals as goal

pub returns-clause-newest : goal.returns-clause-newest
returns-clause-newest g c =
    let m = meaning g.K.Code.encoding g.V.Code.encoding g.K.Code.is_encodable g.V.Code.is_encodable g.K.Code.is_decodable g.V.Code.is_decodable g.P.Properties.age in
    record {
      newest = newest_answer m g.D.Disk.byte_at c.args.session.now.told.witness.me.0 c.load_written.new.session.told.witness.me.0 c.args.lacking.hash c.in_ok-reply.reply c.load_of.result c.in_ok-reply.ensures.replied c.load_of.ensures.answer
          (λ key value age is. subst (λ h. WasPutLast m g.D.Disk.byte_at c.args.session.now.told.witness.me.0.seen c.load_written.new.session.told.witness.me.0.seen h (content m key value)) c.hash.ensures (c.in_ok-reply.ensures.put_last key value age is))
          (λ is. subst (λ h. WasMissedWritten m g.D.Disk.byte_at c.args.session.now.told.witness.me.0.seen c.load_written.new.session.told.witness.me.0.seen h) c.hash.ensures (c.in_ok-reply.ensures.missed is));
      made = inl (
        c.in_ok-reply.reply,
        c.load_of.ensures.answer,
        subst (λ h. HasLoaded m g.D.Disk.byte_at false c.args.session.now.told.witness.me.0 c.load_written.new.session.told.witness.me.0 h false c.in_ok-reply.reply) c.hash.ensures c.in_ok-reply.ensures.told,
        subst (λ h. IsLoadNoted false c.args.session.now.told.session c.load_written.new.session.told.session h false c.in_ok-reply.reply) c.hash.ensures c.in_ok-reply.ensures.noted,
      );
      parts = c.load_written.ensures.parts;
    }

pub returns-in_err-reply-clause-newest : goal.returns-in_err-reply-clause-newest
returns-in_err-reply-clause-newest g c =
    let m = meaning g.K.Code.encoding g.V.Code.encoding g.K.Code.is_encodable g.V.Code.is_encodable g.K.Code.is_decodable g.V.Code.is_decodable g.P.Properties.age in
    let is : c.from_residual.result ≡ Err Memory = search rules in
    record {
      newest = subst (IsNewestAnswer m g.D.Disk.byte_at c.args.session.now.told.witness.me.0 c.load_written.new.session.told.witness.me.0 c.args.lacking.hash) (sym is) tt;
      made = inr (
        is,
        subst (λ h. HasLookedOnly m g.D.Disk.byte_at c.args.session.now.told.witness.me.0 c.load_written.new.session.told.witness.me.0 c.args.session.now.told.session c.load_written.new.session.told.session h false) c.hash.ensures c.in_err-reply.ensures.refused.1,
      );
      parts = c.load_written.ensures.parts;
    }
