use Rattle.std.proofs.Common.{◌≡◌, ◌<◌, true, false, IsTrue, refl, sym, subst, ◌∙◌}
use Rattle.foyer_core_model.specs.Reply as model_reply
use Rattle.foyer_core_model.specs.State as model_state
use Rattle.foyer_core_flusher.specs.Standing.{sets_of}
use Rattle.foyer_core_steps.specs.Reclaiming.{reclaim_at}
use Rattle.foyer_core_steps.proofs.ReclaimLemmas.{reclaims_set}
use Rattle.foyer_core_steps.proofs.ReclaimEnds.{finished}
use Rattle.foyer_core_steps.proofs.ReclaimStages.{cleans, at_stage}
use Rattle.foyer_core_steps.proofs.ReclaimSteps.{reclaimed_in}
use Rattle.foyer_core_steps.proofs.state.Core.reclaim_cleaned.Goals as goal

pub returns-then-not-is_reclaimed-clause-meets : goal.returns-then-not-is_reclaimed-clause-meets
returns-then-not-is_reclaimed-clause-meets g c = λ m s sound it stands few.
    let core = c.args.self.now in
    let b = c.args.block in
    let at = cleans m s sound b (it.place b) (it.filling b) (reclaim_at core.reclaims b) (it.reclaims b) (stands.reclaims b) (sym c.may_clean.ensures ∙ c.if-not-may_clean.false) in
    let yes : IsTrue c.is_reclaimed.result = c.is_reclaimed.ensures.1 (reclaimed_in core.manager (sets_of it) b stands.manager.sets (reclaims_set (it.place b) at.set)
    (subst (λ n. b < n) (sym stands.manager.blocks) (at.stands_as).there)) in
    let no_one : IsTrue false = subst IsTrue c.if-not-is_reclaimed.true yes in absurd (let clash : false ≡ true = no_one in cc)

pub returns-clause-meets : goal.returns-clause-meets
returns-clause-meets g c = λ m s sound it stands few.
    let core = c.args.self.now in
    let b = c.args.block in
    let at = cleans m s sound b (it.place b) (it.filling b) (reclaim_at core.reclaims b) (it.reclaims b) (stands.reclaims b) (sym c.may_clean.ensures ∙ c.if-not-may_clean.false) in
    let ended = finished m s sound core it stands b _ c.cleaned.result (record { settings = refl; next = refl; steps = refl; closed = refl; queued = refl; flushers = refl; destroy = refl }) refl
    c.cleaned.ensures.same (c.cleaned.ensures.finished (sets_of it) stands.manager.sets) c.cleaned.ensures.ended (at.stands_as).there (reclaims_set (it.place b) at.set) in
    record {
      after = ended.after;
      it = model_reply.Done;
      stands = ended.stand;
      reply = refl;
      turns = (((at.stands_as).there, at_stage m s sound b (it.place b) (it.filling b) model_state.ToClean (reclaim_at core.reclaims b) (it.reclaims b) at), ended.does);
    }
