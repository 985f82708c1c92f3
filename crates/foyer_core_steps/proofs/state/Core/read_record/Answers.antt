use Rattle.std.proofs.Common.{◌≡◌, ◌++◌, ◌∷◌, [], ◌<◌, ◌%◌, Option, Ok, None, take, length, vec_len, refl, sym, ap, subst, ◌∙◌, arith}
use Rattle.std.specs.Prelude.{IfSome}
use Rattle.foyer_block_index.proofs.Rooms.{kept_itself}
use Rattle.foyer_device_page.specs.declared.error.ErrorKind.TheVariants as kind
use Rattle.foyer_core_flusher.specs.Seen.{seen}
use Rattle.foyer_core_flusher.specs.declared.submission.Submission.TheVariants.{Reinsertion}
use Rattle.foyer_core_model.specs.Reclaim.{issued_at}
use Rattle.foyer_core_model.specs.State as model_state
use Rattle.foyer_core_flusher.specs.CoreRules.{machine}
use Rattle.foyer_core_flusher.specs.Addresses.{address_of}
use Rattle.foyer_core_model.specs.Reply as model_reply
use Rattle.foyer_core_flusher.specs.Settings.{Settings}
use Rattle.foyer_core_steps.specs.Reclaiming.{Reclaiming, reclaim_at, awaited, requeue_count}
use Rattle.foyer_core_steps.specs.Replied.{IsReply}
use Rattle.foyer_core_steps.specs.Scanning.{HasNoVerdicts, scan_reply}
use Rattle.foyer_core_steps.specs.declared.step.Step.TheVariants as step
use Rattle.foyer_core_steps.proofs.JudgedLemmas.{scan_unjudged}
use Rattle.foyer_core_steps.proofs.FlusherLists.{same_seen}
use Rattle.foyer_core_steps.proofs.LoadLemmas.{all_bytes}
use Rattle.foyer_core_steps.proofs.QueueLemmas.{queue_pushed_at}
use Rattle.foyer_core_steps.proofs.ReclaimCame.{follows_at}
use Rattle.foyer_core_steps.proofs.ReclaimRecord.{reinserted, turn_of, next_reclaim, requeued_state, record_turn, rereads, would_requeue, has_queued}
use Rattle.foyer_core_steps.proofs.ReclaimStages.{reads_record, not_as_long_record}
use Rattle.foyer_core_steps.proofs.StateLemmas.{flushers_count}
use Rattle.foyer_core_steps.proofs.TurnLemmas.{is_early, refused, not_now, comes_back, comes_back_late}
use Rattle.foyer_core_steps.proofs.state.Core.read_record.Goals as goal

pub returns-then-is_err-clause-back : goal.returns-then-is_err-clause-back
returns-then-is_err-clause-back g c =
    let found = c.index_mut.result.now in (
      c.reclaim_read-then-is_err.ensures,
      record {
        index = kept_itself c.args.self.now.index;
        next = refl;
        steps = refl;
        closed = refl;
        queued = refl;
        settings = refl;
        flushers = same_seen c.args.self.now.flushers.items c.turn_of-flusher.result found _
            c.index_mut.ensures.value (ap (λ q. record (seen found) { queue = q }) c.reserve.ensures.items);
        manager = refl;
        reclaims = λ b. refl;
        destroy = refl;
      },
    )

pub returns-in-Err-clause-back : goal.returns-in-Err-clause-back
returns-in-Err-clause-back g c =
    let found = c.index_mut.result.now in (
      c.reclaim_read-in-Err.ensures,
      record {
        index = kept_itself c.args.self.now.index;
        next = refl;
        steps = refl;
        closed = refl;
        queued = refl;
        settings = refl;
        flushers = same_seen c.args.self.now.flushers.items c.turn_of-flusher.result found _
            c.index_mut.ensures.value (ap (λ q. record (seen found) { queue = q }) c.reserve.ensures.items);
        manager = refl;
        reclaims = c.in-Err.ensures.unchanged;
        destroy = refl;
      },
    )

pub returns-then-len-entry-clause-meets : goal.returns-then-len-entry-clause-meets
returns-then-len-entry-clause-meets g c = λ m s sound it stands few.
    let core = c.args.self.now in
    let b = c.args.block in
    let e = c.args.entry in
    let reads = reads_record m s sound b (it.place b) (it.filling b) (reclaim_at core.reclaims b) (it.reclaims b) e (stands.reclaims b) c.requires in
    comes_back_late m s sound (step.ReclaimRead b (Ok c.args.bytes)) _ _ it c.reclaim_read.ensures
    (not_now m s sound (step.ReclaimRead b (Ok c.args.bytes)) core _ it (record { index = kept_itself c.args.self.now.index; next = refl; steps = refl; closed = refl; queued = refl; settings = refl; flushers = refl; manager = refl; reclaims = λ q. refl; destroy = refl }) stands (
      is_early m s core it stands few,
      (λ draws. absurd draws),
      (λ turn.
          let long : length c.args.bytes.items ≡ e.address.len = not_as_long_record m s sound b (it.place b) (it.filling b) (reclaim_at core.reclaims b) (it.reclaims b) e c.args.bytes.items reads turn.1 in
          c.if-len-entry.true (omega (arith, long, c.len.ensures))),
    ))

pub returns-then-is_err-clause-meets : goal.returns-then-is_err-clause-meets
returns-then-is_err-clause-meets g c = λ m s sound it stands few.
    let core = c.args.self.now in
    let b = c.args.block in
    let e = c.args.entry in
    let reads = reads_record m s sound b (it.place b) (it.filling b) (reclaim_at core.reclaims b) (it.reclaims b) e (stands.reclaims b) c.requires in
    let long : length c.args.bytes.items ≡ e.address.len = omega (arith, c.len.ensures, c.if-len-entry.false) in
    comes_back m s sound (step.ReclaimRead b (Ok c.args.bytes)) _ kind.Memory _ it c.reclaim_read-then-is_err.ensures
    (refused m s sound (step.ReclaimRead b (Ok c.args.bytes)) core _ it kind.Memory model_reply.Memory refl
    (returns-then-is_err-clause-back g c).1 stands
    (is_early m s core it stands few, would_requeue m s sound it b (reclaim_at core.reclaims b) e c.args.bytes.items reads long))

pub returns-in-Err-clause-meets : goal.returns-in-Err-clause-meets
returns-in-Err-clause-meets g c = λ m s sound it stands few.
    let core = c.args.self.now in
    let b = c.args.block in
    let e = c.args.entry in
    let reads = reads_record m s sound b (it.place b) (it.filling b) (reclaim_at core.reclaims b) (it.reclaims b) e (stands.reclaims b) c.requires in
    let long : length c.args.bytes.items ≡ e.address.len = omega (arith, c.len.ensures, c.if-len-entry.false) in
    comes_back m s sound (step.ReclaimRead b (Ok c.args.bytes)) _ kind.Memory _ it c.reclaim_read-in-Err.ensures
    (refused m s sound (step.ReclaimRead b (Ok c.args.bytes)) core _ it kind.Memory model_reply.Memory refl
    (returns-in-Err-clause-back g c).1 stands
    (is_early m s core it stands few, would_requeue m s sound it b (reclaim_at core.reclaims b) e c.args.bytes.items reads long))

pub returns-in-Ok-clause-meets : goal.returns-in-Ok-clause-meets
returns-in-Ok-clause-meets g c = λ m s sound it stands few.
    let core = c.args.self.now in
    let b = c.args.block in
    let e = c.args.entry in
    let bytes = c.args.bytes.items in
    let o = reclaim_at core.reclaims b in
    let found = c.index_mut.result.now in
    let reads = reads_record m s sound b (it.place b) (it.filling b) o (it.reclaims b) e (stands.reclaims b) c.requires in
    let long : length bytes ≡ e.address.len = omega (arith, c.len.ensures, c.if-len-entry.false) in
    let count : length core.flushers.items ≡ s.flushers = flushers_count m s core.flushers.items it.flushers stands.flushers in
    let len : vec_len core.flushers ≡ length core.flushers.items = omega (arith, core.flushers.ok.0) in
    let number : c.turn_of-flusher.result ≡ requeue_count reads.ours % vec_len core.flushers =
    subst (λ (k : Option Reclaiming). IfSome k (λ r. c.turn_of-flusher.result ≡ requeue_count r % vec_len core.flushers)) reads.mine c.turn_of-flusher.ensures.number in
    let at : c.turn_of-flusher.result ≡ turn_of m s sound it b o e bytes reads =
    number ∙ ap (λ n. n % vec_len core.flushers) (sym reads.stands_as.count) ∙ ap (λ n. length reads.model.requeued % n) (len ∙ count) in
    let within : c.turn_of-flusher.result < length core.flushers.items = omega (arith, c.turn_of-flusher.ensures.within, core.flushers.ok.0) in
    let there : turn_of m s sound it b o e bytes reads < s.flushers = subst (λ k. k < s.flushers) at (subst (λ n. c.turn_of-flusher.result < n) count within) in
    let slice : bytes ≡ take e.address.len bytes = sym (all_bytes e.address.len bytes long) in
    let queued = Reinsertion (record { hash = e.hash; address = e.address; slice = c.args.bytes }) in
    let x = reinserted m s sound it b o e bytes reads in
    let flushers = queue_pushed_at m s core.flushers.items it.flushers c.turn_of-flusher.result (turn_of m s sound it b o e bytes reads) found _ queued x
    at (ap (λ bs. model_state.Reinsert e.hash bs (address_of e.address)) slice) stands.flushers within c.index_mut.ensures.value
    (ap (λ q. record (seen found) { queue = q }) (c.push_back_reserved.ensures.items ∙ ap (λ q. q ++ queued ∷ []) c.reserve.ensures.items)) in
    let size : core.settings.blob_index_size ≡ s.blob_index_size = ap (λ (k : Settings). k.blob_index_size) stands.sizes in
    let d = has_queued m s sound core it stands b e bytes reads _
    (record { index = refl; settings = refl; next = refl; steps = refl; closed = refl; queued = refl; manager = refl; destroy = refl }) there flushers c.in-Ok.ensures.noted in
    let its = next_reclaim m s sound it b o e bytes reads in
    record {
      after = requeued_state m s sound it b o e bytes reads;
      it = issued_at (machine m s sound) it b its.stage [];
      stands = d.stand;
      reply = subst (λ k. IsReply {A = g.row.A.Denot} m k (issued_at (machine m s sound) it b its.stage [])) (sym c.next_read.ensures)
          (subst (λ n. IsReply {A = g.row.A.Denot} m (scan_reply b n (awaited (reclaim_at c.requeue.new.reclaims b)) None) (issued_at (machine m s sound) it b its.stage [])) (sym size) d.reply);
      turns = follows_at m s sound it b bytes its.stage [] (requeued_state m s sound it b o e bytes reads) (record_turn m s sound it b o e bytes reads long) (rereads m s sound it b o e bytes reads);
    }

pub returns-in-Ok-clause-unjudged : goal.returns-in-Ok-clause-unjudged
returns-in-Ok-clause-unjudged g c =
    let core = c.args.self.now in
    subst HasNoVerdicts (sym c.next_read.ensures)
    (scan_unjudged _ _ _ _ c.args.block core.settings.blob_index_size (awaited (reclaim_at c.requeue.new.reclaims c.args.block)))
