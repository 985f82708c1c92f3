use Rattle.std.proofs.Common.{◌≡◌, ◌==◌, refl, sym, ap, ◌∙◌}
use Rattle.foyer_core_model.specs.Reclaim.{running}
use Rattle.foyer_core_model.specs.Reply as model_reply
use Rattle.foyer_block_manager.specs.BlockSets.{reclaim_count}
use Rattle.foyer_core_flusher.specs.Standing.{sets_of}
use Rattle.foyer_core_steps.proofs.ReclaimSteps.{as_many_run}
use Rattle.foyer_core_steps.proofs.state.Core.reclaim_idle.Goals as goal

pub returns-clause-meets : goal.returns-clause-meets
returns-clause-meets g c = λ m s sound it stands few.
    let core = c.args.self.now in
    let is : c.wait_reclaim.result ≡ (running s.blocks it.reclaims == 0) =
    c.wait_reclaim.ensures (sets_of it) stands.manager.sets
    ∙ ap (λ n. reclaim_count n it.place == 0) stands.manager.blocks ∙ ap (λ n. n == 0) (sym (as_many_run m s sound core it stands)) in
    record {
      after = it;
      it = model_reply.Answer c.wait_reclaim.result;
      stands = stands;
      reply = refl;
      turns = (tt, (ap (λ b. model_reply.Answer b) is, refl));
    }
