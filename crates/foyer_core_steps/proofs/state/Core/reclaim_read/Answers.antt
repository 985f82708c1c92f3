use Rattle.std.proofs.Common.{[], Option, Some, None, Err, option_map, refl, sym, ap, subst, ◌∙◌}
use Rattle.foyer_core_model.specs.Numbers.{put}
use Rattle.foyer_core_model.specs.Reclaim.{Rereads}
use Rattle.foyer_core_model.specs.Reply as model_reply
use Rattle.foyer_core_model.specs.State as model_state
use Rattle.foyer_core_model.specs.Step as model_step
use Rattle.foyer_core_flusher.specs.CoreRules.{machine}
use Rattle.foyer_core_flusher.specs.Sizes.{sizes_in}
use Rattle.foyer_block_scan.specs.ScanState.{Scan}
use Rattle.foyer_core_steps.specs.Reclaiming.{Reclaiming, ChangesReclaim, IsStageAs, reclaim_at, after_fault}
use Rattle.foyer_core_steps.specs.declared.step.Step.TheVariants as step
use Rattle.foyer_core_steps.proofs.ReclaimStages.{may_fail}
use Rattle.foyer_core_steps.proofs.ReclaimSteps.{reclaim_stands}
use Rattle.foyer_core_steps.proofs.TurnLemmas.{brought}
use Rattle.foyer_core_steps.proofs.state.Core.reclaim_read.Goals as goal

pub returns-in-Err-clause-meets : goal.returns-in-Err-clause-meets
returns-in-Err-clause-meets g c = λ m s sound it stands few.
    let core = c.args.self.now in
    let b = c.args.block in
    let a = may_fail m s sound b (it.place b) (it.filling b) it (reclaim_at core.reclaims b) (it.reclaims b) c.in-Some.wanted (stands.reclaims b) (sym c.awaited.ensures ∙ c.in-Some.is) in
    let its : model_state.Reclaim = record a.model { stage = model_state.AllListed } in
    let changes : ChangesReclaim core.reclaims c.fail.new.reclaims b (Some (after_fault a.ours)) =
    subst (λ (k : Option Reclaiming). ChangesReclaim core.reclaims c.fail.new.reclaims b (option_map after_fault k)) a.mine c.fail.ensures in
    brought m s sound (step.ReclaimRead b c.args.outcome) (step.ReclaimRead b (Err c.in-Err.field-0)) _ _ it (ap (step.ReclaimRead b) c.in-Err.is) (record {
      after = record it { reclaims = put it.reclaims b (Some its) };
      it = model_reply.Listed [];
      stands = reclaim_stands m s core it stands b _ it.index (Some (after_fault a.ours)) (Some its)
          (record { settings = refl; next = refl; steps = refl; closed = refl; queued = refl; flushers = refl; destroy = refl }) refl stands.index changes (
            a.set,
            record {
              there = a.stands_as.there;
              scan = ap (λ (x : Scan). record x { blob_offset = None }) a.stands_as.scan;
              stage = subst (λ t. IsStageAs t (sizes_in s) None [] model_state.AllListed) (sym a.unforgotten) refl;
              listed = a.stands_as.listed;
              requeued = a.stands_as.requeued;
              count = a.stands_as.count;
            },
          );
      reply = refl;
      turns = (
        (a.stands_as.there, a.turn),
        subst (λ k. Rereads (machine m s sound) it b k model_step.Fault (model_reply.Listed []) (record it { reclaims = put it.reclaims b (Some its) })) (sym a.is) a.scanned,
      );
    })
