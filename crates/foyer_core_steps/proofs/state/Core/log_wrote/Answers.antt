use Rattle.std.proofs.Common.{◌≡◌, ◌<◌, Bool, true, length, refl, sym, subst, ◌∙◌, arith}
use Rattle.std.proofs.lemmas.Bool.{false≢true}
use Rattle.foyer_block_index.proofs.Rooms.{kept_itself}
use Rattle.foyer_core_model.specs.Reply as model_reply
use Rattle.foyer_core_model.specs.Step as model_step
use Rattle.foyer_core_steps.specs.Asked.{went_well}
use Rattle.foyer_core_flusher.specs.FlusherSteps.{FlusherStep}
use Rattle.foyer_core_flusher.specs.Seen.{seen}
use Rattle.foyer_core_steps.proofs.FlushTurns.{stands_at, flusher_there, core_stands, log_is, is_unlogged, was_unlogged, not_now, went_is}
use Rattle.foyer_core_steps.proofs.FlusherLists.{same_seen}
use Rattle.foyer_core_steps.specs.declared.step.Step.TheVariants as step
use Rattle.foyer_core_steps.proofs.state.Core.log_wrote.Goals as goal

pub returns-then-not-is_unlogged-clause-meets : goal.returns-then-not-is_unlogged-clause-meets
returns-then-not-is_unlogged-clause-meets g c = λ m s sound it stands few.
    let core = c.args.self.now in
    let f = c.args.flusher in
    let found = c.index_mut-found.result.now in
    let within : f < length core.flushers.items = omega (arith, c.len.ensures, c.if-flusher-len.false) in
    let at = stands_at m s core it f found stands within c.index_mut-found.ensures.value in
    not_now m s sound core _ it (step.LogWrote f c.args.outcome)
    (record {
      index = kept_itself c.args.self.now.index;
      next = refl;
      steps = refl;
      closed = refl;
      queued = refl;
      settings = refl;
      flushers = same_seen core.flushers.items f found found c.index_mut-found.ensures.value refl;
      manager = refl;
      reclaims = λ b. refl;
      destroy = refl;
    }) stands few (λ d. d)
    (λ turn. false≢true (c.if-not-is_unlogged.ensures.1 (was_unlogged m s found.own found.batch (it.flushers f).batch (at.flusher).batch turn.2)))

pub returns-clause-meets : goal.returns-clause-meets
returns-clause-meets g c = λ m s sound it stands few.
    let core = c.args.self.now in
    let f = c.args.flusher in
    let found = c.index_mut-found.result.now in
    let within : f < length core.flushers.items = omega (arith, c.len.ensures, c.if-flusher-len.false) in
    let at = stands_at m s core it f found stands within c.index_mut-found.ensures.value in
    let ok : c.is_ok.result ≡ went_well c.args.outcome = c.is_ok.ensures.value ∙ went_is c.args.outcome in
    let done = subst (λ (b : Bool). FlusherStep m s sound (model_step.LogWrote f b) f it model_reply.Done (seen c.log.new.self) core.index.slots core.manager) ok (c.log.ensures m s sound f it core.index.slots core.manager at) in
    let has_log : s.tombstone_log ≡ true = sym (log_is m s core it stands) ∙ c.if-not-self.false in
    record {
      after = done.after;
      it = model_reply.Done;
      stands = core_stands m s sound core _ it f c.log.new.self _ _ stands within done refl refl refl refl refl refl (λ b. refl) refl;
      reply = refl;
      turns = ((flusher_there m s core it f stands within, has_log, is_unlogged m s found.own found.batch (it.flushers f).batch (at.flusher).batch (c.if-not-is_unlogged.ensures.0 refl)), done.does);
    }
