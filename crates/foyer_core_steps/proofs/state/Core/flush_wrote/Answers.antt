use Rattle.std.proofs.lemmas.Grind.{common_steps}
use Rattle.std.proofs.Common.{◌≡◌, ◌<◌, Bool, length, refl, sym, subst, ◌∙◌, arith}
use Rattle.std.proofs.lemmas.Bool.{false≢true}
use Rattle.foyer_block_index.proofs.Rooms.{kept_itself}
use Rattle.foyer_core_model.specs.Reply as model_reply
use Rattle.foyer_core_model.specs.Step as model_step
use Rattle.foyer_core_steps.specs.Asked.{went_well}
use Rattle.foyer_core_flusher.specs.FlusherSteps.{FlusherStep}
use Rattle.foyer_core_flusher.specs.Seen.{seen}
use Rattle.std.specs.Prelude.{IsSomeAnd}
use Rattle.foyer_core_flusher.specs.Failing.{MustGrowFor}
use Rattle.foyer_block_manager.specs.Shown.{AreShownAll, written_of}
use Rattle.foyer_core_steps.specs.Showing.{own_at}
use Rattle.foyer_core_steps.proofs.ShowingLemmas.{all_back, flusher_read, own_read}
use Rattle.foyer_core_steps.proofs.FlushTurns.{stands_at, flusher_there, core_stands, is_writing, must_write, not_now, went_is}
use Rattle.foyer_core_steps.proofs.FlusherLists.{same_seen}
use Rattle.foyer_core_steps.specs.declared.step.Step.TheVariants as step
use Rattle.foyer_core_steps.proofs.state.Core.flush_wrote.Goals as goal

pub returns-then-not-is_writing-clause-meets : goal.returns-then-not-is_writing-clause-meets
returns-then-not-is_writing-clause-meets g c = λ m s sound it stands few.
    let core = c.args.self.now in
    let f = c.args.flusher in
    let found = c.index_mut-found.result.now in
    let within : f < length core.flushers.items = omega (arith, c.len.ensures, c.if-flusher-len.false) in
    let at = stands_at m s core it f found stands within c.index_mut-found.ensures.value in
    not_now m s sound core _ it (step.FlushWrote f c.args.outcome)
    (record {
      index = kept_itself c.args.self.now.index;
      next = refl;
      steps = refl;
      closed = refl;
      queued = refl;
      settings = refl;
      flushers = same_seen core.flushers.items f found found c.index_mut-found.ensures.value refl;
      manager = refl;
      reclaims = λ b. refl;
      destroy = refl;
    }) stands few (λ d. d)
    (λ turn. false≢true (c.if-not-is_writing.ensures.1 (must_write m s found.own found.batch (it.flushers f).batch (at.flusher).batch turn.1)))

pub returns-in-Next-clause-meets : goal.returns-in-Next-clause-meets
returns-in-Next-clause-meets g c = λ m s sound it stands few.
    let core = c.args.self.now in
    let f = c.args.flusher in
    let found = c.index_mut-found.result.now in
    let within : f < length core.flushers.items = omega (arith, c.len.ensures, c.if-flusher-len.false) in
    let at = stands_at m s core it f found stands within c.index_mut-found.ensures.value in
    let ok : c.is_ok.result ≡ went_well c.args.outcome = c.is_ok.ensures.value ∙ went_is c.args.outcome in
    let done = subst (λ (b : Bool). FlusherStep m s sound (model_step.FlushWrote f b) f it model_reply.Next (seen c.wrote.new.self) c.wrote.new.index.slots c.wrote.new.manager) ok (c.in-Next.ensures.done m s sound f it at) in
    record {
      after = done.after;
      it = model_reply.Next;
      stands = core_stands m s sound core _ it f c.wrote.new.self _ _ stands within done refl refl refl refl refl refl (λ b. refl) refl;
      reply = refl;
      turns = ((flusher_there m s core it f stands within, is_writing m s found.own found.batch (it.flushers f).batch (at.flusher).batch (c.if-not-is_writing.ensures.0 refl)), done.does);
    }

pub returns-in-Committed-clause-meets : goal.returns-in-Committed-clause-meets
returns-in-Committed-clause-meets g c = λ m s sound it stands few.
    let core = c.args.self.now in
    let f = c.args.flusher in
    let found = c.index_mut-found.result.now in
    let within : f < length core.flushers.items = omega (arith, c.len.ensures, c.if-flusher-len.false) in
    let at = stands_at m s core it f found stands within c.index_mut-found.ensures.value in
    let ok : c.is_ok.result ≡ went_well c.args.outcome = c.is_ok.ensures.value ∙ went_is c.args.outcome in
    let done = subst (λ (b : Bool). FlusherStep m s sound (model_step.FlushWrote f b) f it (model_reply.Committed c.in-Committed.count) (seen c.wrote.new.self) c.wrote.new.index.slots c.wrote.new.manager) ok (c.in-Committed.ensures.done m s sound f it at) in
    record {
      after = done.after;
      it = model_reply.Committed c.in-Committed.count;
      stands = core_stands m s sound core _ it f c.wrote.new.self _ _ stands within done refl refl refl refl refl refl (λ b. refl) refl;
      reply = refl;
      turns = ((flusher_there m s core it f stands within, is_writing m s found.own found.batch (it.flushers f).batch (at.flusher).batch (c.if-not-is_writing.ensures.0 refl)), done.does);
    }

pub returns-in-Failed-clause-meets : goal.returns-in-Failed-clause-meets
returns-in-Failed-clause-meets g c = λ m s sound it stands few.
    let core = c.args.self.now in
    let f = c.args.flusher in
    let found = c.index_mut-found.result.now in
    let within : f < length core.flushers.items = omega (arith, c.len.ensures, c.if-flusher-len.false) in
    let at = stands_at m s core it f found stands within c.index_mut-found.ensures.value in
    let ok : c.is_ok.result ≡ went_well c.args.outcome = c.is_ok.ensures.value ∙ went_is c.args.outcome in
    let done = subst (λ (b : Bool). FlusherStep m s sound (model_step.FlushWrote f b) f it model_reply.Failed (seen c.wrote.new.self) c.wrote.new.index.slots c.wrote.new.manager) ok (c.in-Failed.ensures.done m s sound f it at) in
    record {
      after = done.after;
      it = model_reply.Failed;
      stands = core_stands m s sound core _ it f c.wrote.new.self _ _ stands within done refl refl refl refl refl refl (λ b. refl) refl;
      reply = refl;
      turns = ((flusher_there m s core it f stands within, is_writing m s found.own found.batch (it.flushers f).batch (at.flusher).batch (c.if-not-is_writing.ensures.0 refl)), done.does);
    }

pub returns-then-flusher-len-clause-meets : goal.returns-then-flusher-len-clause-meets
returns-then-flusher-len-clause-meets g c = grind (arith, common_steps)

pub returns-then-not-is_writing-clause-back : goal.returns-then-not-is_writing-clause-back
returns-then-not-is_writing-clause-back g c = grind (arith, common_steps)

pub returns-in-Failed-clause-shown : goal.returns-in-Failed-clause-shown
returns-in-Failed-clause-shown g c =
    let core = c.args.self.now in
    let f = c.args.flusher in
    let found = c.index_mut-found.result.now in
    let within : f < length core.flushers.items = omega (arith, c.len.ensures, c.if-flusher-len.false) in
    let at : own_at core f ≡ found.own = own_read core f found within c.index_mut-found.ensures.value in
    all_back g.E.EvictionPicker.learns (written_of core.manager.blocks (own_at core f)) c.args.env.now.pickers.len c.args.env.now.pickers.items c.deref_mut.result.now c.wrote.new.pickers
    c.deref_mut.ensures.value (omega (arith, c.args.env.now.pickers.ok.0)) (subst (λ o. AreShownAll g.E.EvictionPicker.learns (written_of core.manager.blocks o) c.deref_mut.result.now c.wrote.new.pickers) (sym at)
    c.in-Failed.ensures.shown)

pub returns-in-Failed-clause-failed : goal.returns-in-Failed-clause-failed
returns-in-Failed-clause-failed g c = λ answered went.
    let core = c.args.self.now in
    let f = c.args.flusher in
    let found = c.index_mut-found.result.now in
    let within : f < length core.flushers.items = omega (arith, c.len.ensures, c.if-flusher-len.false) in
    subst (λ o. IsSomeAnd o (MustGrowFor core.index)) (sym (flusher_read core f found within c.index_mut-found.ensures.value))
    (c.in-Failed.ensures.failed (c.is_ok.ensures.value ∙ went_is c.args.outcome ∙ went) refl)
