use Rattle.std.proofs.Common.{◌≡◌, Ok, option_map, length, refl, sym, ap, subst, arith}
use Rattle.std.specs.Prelude.{IfSome}
use Rattle.foyer_block_index.proofs.Rooms.{kept_itself}
use Rattle.foyer_device_page.specs.declared.error.ErrorKind.TheVariants as kind
use Rattle.foyer_core_model.specs.Reply as model_reply
use Rattle.foyer_core_flusher.specs.Settings.{Settings}
use Rattle.foyer_core_steps.specs.Reclaiming.{ChangesReclaim, IsReread, reclaim_at, after_index, awaited, index_infos, verdict_list}
use Rattle.foyer_core_steps.specs.Replied.{IsReply}
use Rattle.foyer_core_steps.specs.Scanning.{IsJudged, scan_reply}
use Rattle.foyer_core_steps.specs.declared.step.Step.TheVariants as step
use Rattle.foyer_core_steps.proofs.JudgedLemmas.{index_judged, judged_scan}
use Rattle.foyer_core_steps.proofs.ReclaimCame.{read_turn, would_read, reads_listed}
use Rattle.foyer_core_steps.proofs.ReclaimStages.{reads_index, not_as_long}
use Rattle.foyer_core_steps.proofs.TurnLemmas.{is_early, refused, not_now, comes_back, comes_back_late}
use Rattle.foyer_core_steps.proofs.state.Core.read_index.Goals as goal

pub returns-then-len-self-clause-meets : goal.returns-then-len-self-clause-meets
returns-then-len-self-clause-meets g c = λ m s sound it stands few.
    let core = c.args.self.now in
    let b = c.args.block in
    let at = c.requires.0 in
    let reads = reads_index m s sound b (it.place b) (it.filling b) (reclaim_at core.reclaims b) (it.reclaims b) at (stands.reclaims b) c.requires.1 in
    comes_back_late m s sound (step.ReclaimRead b (Ok c.args.bytes)) _ _ it c.reclaim_read.ensures
    (not_now m s sound (step.ReclaimRead b (Ok c.args.bytes)) core _ it (record { index = kept_itself c.args.self.now.index; next = refl; steps = refl; closed = refl; queued = refl; settings = refl; flushers = refl; manager = refl; reclaims = λ q. refl; destroy = refl }) stands (
      is_early m s core it stands few,
      (λ draws. absurd draws),
      (λ turn.
          let long : length c.args.bytes.items ≡ s.blob_index_size = not_as_long m s sound b (it.place b) (it.filling b) (reclaim_at core.reclaims b) (it.reclaims b) at c.args.bytes.items reads turn.1 in
          let size : core.settings.blob_index_size ≡ s.blob_index_size = ap (λ (k : Settings). k.blob_index_size) stands.sizes in
          c.if-len-self.true (omega (arith, long, size, c.len.ensures))),
    ))

pub returns-in-Err-clause-meets : goal.returns-in-Err-clause-meets
returns-in-Err-clause-meets g c = λ m s sound it stands few.
    let core = c.args.self.now in
    let b = c.args.block in
    let at = c.requires.0 in
    let reads = reads_index m s sound b (it.place b) (it.filling b) (reclaim_at core.reclaims b) (it.reclaims b) at (stands.reclaims b) c.requires.1 in
    let size : core.settings.blob_index_size ≡ s.blob_index_size = ap (λ (k : Settings). k.blob_index_size) stands.sizes in
    let long : length c.args.bytes.items ≡ s.blob_index_size = omega (arith, size, c.len.ensures, c.if-len-self.false) in
    comes_back m s sound (step.ReclaimRead b (Ok c.args.bytes)) _ kind.Memory _ it c.reclaim_read-in-Err.ensures
    (refused m s sound (step.ReclaimRead b (Ok c.args.bytes)) core _ it kind.Memory model_reply.Memory refl
    (record { index = kept_itself c.args.self.now.index; next = refl; steps = refl; closed = refl; queued = refl; settings = refl; flushers = refl; manager = refl; reclaims = c.in-Err.ensures.unchanged; destroy = refl }) stands
    (is_early m s core it stands few, would_read m s sound it b (reclaim_at core.reclaims b) at c.args.bytes.items reads long))

pub returns-in-Ok-clause-meets : goal.returns-in-Ok-clause-meets
returns-in-Ok-clause-meets g c = λ m s sound it stands few.
    let core = c.args.self.now in
    let b = c.args.block in
    let at = c.requires.0 in
    let reads = reads_index m s sound b (it.place b) (it.filling b) (reclaim_at core.reclaims b) (it.reclaims b) at (stands.reclaims b) c.requires.1 in
    let size : core.settings.blob_index_size ≡ s.blob_index_size = ap (λ (k : Settings). k.blob_index_size) stands.sizes in
    let long : length c.args.bytes.items ≡ s.blob_index_size = omega (arith, size, c.len.ensures, c.if-len-self.false) in
    let came : c.deref.result.now ≡ c.args.bytes.items = c.deref.ensures.value in
    let d = reads_listed m s sound core it stands b at c.args.bytes.items reads c.in-Ok.verdicts _ g.C.StorageFilterCondition.may_answer c.args.env.now.reinsertion c.args.env.now.io
    (record { settings = refl; next = refl; steps = refl; closed = refl; queued = refl; flushers = refl; destroy = refl }) refl refl
    (subst (λ x. ChangesReclaim core.reclaims c.read.new.reclaims b (option_map (after_index x (verdict_list c.in-Ok.verdicts)) (reclaim_at core.reclaims b))) came c.in-Ok.ensures.read)
    (subst (λ x. IfSome (reclaim_at core.reclaims b) (λ k. IsReread g.C.StorageFilterCondition.may_answer c.args.env.now.reinsertion c.args.env.now.io (index_infos x k) (verdict_list c.in-Ok.verdicts))) came c.in-Ok.ensures.verdicts) in
    record {
      after = d.after;
      it = d.answer;
      stands = d.stand;
      reply = subst (λ k. IsReply m k d.answer) (sym c.next_read.ensures)
          (subst (λ n. IsReply m (scan_reply b n (awaited (reclaim_at c.read.new.reclaims b)) c.in-Ok.verdicts) d.answer) (sym size) d.reply);
      turns = d.follows (read_turn m s sound it b (reclaim_at core.reclaims b) at c.args.bytes.items reads long);
    }

pub returns-in-Ok-clause-judged : goal.returns-in-Ok-clause-judged
returns-in-Ok-clause-judged g c =
    let core = c.args.self.now in
    let b = c.args.block in
    let filter = c.args.env.now.reinsertion in
    let may = g.C.StorageFilterCondition.may_answer in
    let io = c.args.env.now.io in
    let o = reclaim_at core.reclaims b in
    subst (λ k. IsJudged may filter io b (Ok c.args.bytes) k core) (sym c.next_read.ensures)
    (judged_scan may filter io core b b core.settings.blob_index_size (Ok c.args.bytes) (awaited (reclaim_at c.read.new.reclaims b)) c.in-Ok.verdicts
    (index_judged may filter io c.args.bytes o c.requires.0 (verdict_list c.in-Ok.verdicts) c.requires.1
    (subst (λ x. IfSome o (λ k. IsReread may filter io (index_infos x k) (verdict_list c.in-Ok.verdicts))) c.deref.ensures.value c.in-Ok.ensures.verdicts)))
