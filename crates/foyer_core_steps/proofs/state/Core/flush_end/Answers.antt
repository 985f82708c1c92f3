use Rattle.std.proofs.lemmas.Grind.{common_steps}
use Rattle.std.proofs.Common.{◌<◌, length, refl, sym, subst, arith}
use Rattle.std.proofs.lemmas.Bool.{false≢true}
use Rattle.foyer_block_index.proofs.Rooms.{kept_itself}
use Rattle.foyer_core_model.specs.InTurn.{IsWritten}
use Rattle.foyer_core_model.specs.Reply as model_reply
use Rattle.foyer_core_steps.proofs.FlushTurns.{stands_at, flusher_there, core_stands, log_is, is_written, was_written, not_now}
use Rattle.foyer_core_steps.proofs.FlusherLists.{same_seen}
use Rattle.foyer_core_steps.specs.declared.step.Step.TheVariants as step
use Rattle.foyer_core_steps.proofs.state.Core.flush_end.Goals as goal

pub returns-then-not-is_written-clause-meets : goal.returns-then-not-is_written-clause-meets
returns-then-not-is_written-clause-meets g c = λ m s sound it stands few.
    let core = c.args.self.now in
    let f = c.args.flusher in
    let found = c.index_mut-found.result.now in
    let within : f < length core.flushers.items = omega (arith, c.len.ensures, c.if-flusher-len.false) in
    let at = stands_at m s core it f found stands within c.index_mut-found.ensures.value in
    not_now m s sound core _ it (step.FlushEnd f)
    (record {
      index = kept_itself c.args.self.now.index;
      next = refl;
      steps = refl;
      closed = refl;
      queued = refl;
      settings = refl;
      flushers = same_seen core.flushers.items f found found c.index_mut-found.ensures.value refl;
      manager = refl;
      reclaims = λ b. refl;
      destroy = refl;
    }) stands few (λ d. d)
    (λ turn. false≢true (c.if-not-is_written.ensures.1 (was_written m s core.settings.tombstone_log found.own found.batch (it.flushers f).batch (at.flusher).batch
    (subst (λ b. IsWritten b (it.flushers f).batch) (sym (log_is m s core it stands)) turn.1))))

pub returns-clause-meets : goal.returns-clause-meets
returns-clause-meets g c = λ m s sound it stands few.
    let core = c.args.self.now in
    let f = c.args.flusher in
    let found = c.index_mut-found.result.now in
    let within : f < length core.flushers.items = omega (arith, c.len.ensures, c.if-flusher-len.false) in
    let at = stands_at m s core it f found stands within c.index_mut-found.ensures.value in
    let done = c.end-pieces.ensures.done m s sound f it at in
    record {
      after = (done.2).after;
      it = model_reply.Ended done.0 c.end-pieces.result.waits.items;
      stands = core_stands m s sound core _ it f c.end-pieces.new.self _ _ stands within done.2 refl refl refl refl refl refl (λ b. refl) refl;
      reply = (done.0, done.1, refl);
      turns = (
        (
          flusher_there m s core it f stands within,
          subst (λ b. IsWritten b (it.flushers f).batch) (log_is m s core it stands)
              (is_written m s core.settings.tombstone_log found.own found.batch (it.flushers f).batch (at.flusher).batch (c.if-not-is_written.ensures.0 refl)),
        ),
        (done.2).does,
      );
    }

pub returns-then-flusher-len-clause-meets : goal.returns-then-flusher-len-clause-meets
returns-then-flusher-len-clause-meets g c = grind (arith, common_steps)

pub returns-then-not-is_written-clause-back : goal.returns-then-not-is_written-clause-back
returns-then-not-is_written-clause-back g c = grind (arith, common_steps)
