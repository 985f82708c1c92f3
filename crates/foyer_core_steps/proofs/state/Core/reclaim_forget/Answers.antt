use Rattle.std.proofs.Common.{◌≡◌, Option, Some, option_map, refl, sym, subst, ◌∙◌}
use Rattle.std.specs.Prelude.{IfSome}
use Rattle.foyer_block_index.specs.Removal.{without_addresses}
use Rattle.foyer_core_model.specs.Index.{forgotten}
use Rattle.foyer_core_model.specs.Numbers.{put}
use Rattle.foyer_core_model.specs.Reclaim.{Forgets, not_among}
use Rattle.foyer_core_model.specs.Reply as model_reply
use Rattle.foyer_core_model.specs.State as model_state
use Rattle.foyer_core_flusher.specs.CoreRules.{machine}
use Rattle.foyer_core_flusher.specs.Standing.{IsIndexedAs}
use Rattle.foyer_core_flusher.proofs.ForgetLemmas.{forgotten_is}
use Rattle.foyer_core_steps.specs.Reclaiming.{Reclaiming, ChangesReclaim, reclaim_at, after_forget, left_in}
use Rattle.foyer_core_steps.proofs.ReclaimLemmas.{left_as}
use Rattle.foyer_core_steps.proofs.ReclaimStages.{forgets, at_stage, unforgotten_at}
use Rattle.foyer_core_steps.proofs.ReclaimSteps.{reclaim_stands}
use Rattle.foyer_core_steps.proofs.state.Core.reclaim_forget.Goals as goal

pub returns-clause-meets : goal.returns-clause-meets
returns-clause-meets g c = λ m s sound it stands few.
    let core = c.args.self.now in
    let b = c.args.block in
    let o = reclaim_at core.reclaims b in
    let at = forgets m s sound b (it.place b) (it.filling b) o (it.reclaims b) (stands.reclaims b) (sym c.may_forget.ensures ∙ c.if-not-may_forget.false) in
    let its : model_state.Reclaim = record at.model { stage = model_state.ToClean } in
    let gone : c.forget.new.index.slots ≡ without_addresses core.index.slots (left_in (at.ours).requeued (at.ours).listed) =
    subst (λ (k : Option Reclaiming). IfSome k (λ r. c.forget.new.index.slots ≡ without_addresses core.index.slots (left_in r.requeued r.listed))) at.mine c.forget.ensures.index in
    let indexed : IsIndexedAs s c.forget.new.index.slots (forgotten (not_among (at.model).requeued (at.model).listed) it.index) =
    subst (λ k. IsIndexedAs s k (forgotten (not_among (at.model).requeued (at.model).listed) it.index)) (sym gone)
    (forgotten_is s core.index.slots it.index (left_in (at.ours).requeued (at.ours).listed) (not_among (at.model).requeued (at.model).listed)
    (left_as (at.model).requeued (at.model).listed (at.ours).requeued (at.ours).listed
    ((at.stands_as).listed (unforgotten_at m s sound b (it.place b) (it.filling b) o (it.reclaims b) at)) (at.stands_as).requeued) stands.index) in
    let changes : ChangesReclaim core.reclaims c.forget.new.reclaims b (Some (after_forget at.ours)) =
    subst (λ (k : Option Reclaiming). ChangesReclaim core.reclaims c.forget.new.reclaims b (option_map after_forget k)) at.mine c.forget.ensures.forgotten in
    record {
      after = record it { index = forgotten (not_among (at.model).requeued (at.model).listed) it.index; reclaims = put it.reclaims b (Some its) };
      it = model_reply.Cleans b;
      stands = reclaim_stands m s core it stands b _ _ (Some (after_forget at.ours)) (Some its)
          (record { settings = refl; next = refl; steps = refl; closed = refl; queued = refl; flushers = refl; destroy = refl }) refl indexed changes (
            at.set,
            record {
              there = (at.stands_as).there;
              scan = (at.stands_as).scan;
              stage = refl;
              listed = λ un p. absurd (cc);
              requeued = (at.stands_as).requeued;
              count = (at.stands_as).count;
            },
          );
      reply = refl;
      turns = (
        ((at.stands_as).there, at_stage m s sound b (it.place b) (it.filling b) model_state.AllListed o (it.reclaims b) at),
        subst (λ k. Forgets (machine m s sound) it b k (model_reply.Cleans b)
            (record it { index = forgotten (not_among (at.model).requeued (at.model).listed) it.index; reclaims = put it.reclaims b (Some its) })) (sym at.is) (refl, refl),
      );
    }
