use Rattle.std.proofs.lemmas.Grind.{common_steps}
use Rattle.std.proofs.Common.{◌≡◌, ◌<◌, length, map, refl, sym, subst, arith}
use Rattle.std.proofs.lemmas.Bool.{false≢true}
use Rattle.foyer_block_index.proofs.Rooms.{kept_itself}
use Rattle.foyer_core_model.specs.Numbers.{last_number}
use Rattle.foyer_core_model.specs.Reply as model_reply
use Rattle.foyer_core_model.specs.Step as model_step
use Rattle.foyer_core_flusher.specs.FlusherSteps.{FlusherStep, issued_next}
use Rattle.foyer_core_flusher.specs.Issuing.{write_of}
use Rattle.foyer_core_flusher.specs.Seen.{seen}
use Rattle.foyer_core_flusher.specs.Leaving.{left_by}
use Rattle.foyer_block_manager.specs.Shown.{AreShownAll, written_of}
use Rattle.foyer_core_steps.specs.Showing.{left_at}
use Rattle.foyer_core_steps.proofs.ShowingLemmas.{all_back, left_read}
use Rattle.foyer_core_steps.proofs.FlushTurns.{stands_at, flusher_there, core_stands, has_block, wants_block, not_now, would_answer}
use Rattle.foyer_core_steps.proofs.FlusherLists.{same_seen}
use Rattle.foyer_core_steps.proofs.StateLemmas.{unchanged_stands}
use Rattle.foyer_core_flusher.specs.declared.batch.Next.{Next}
use Rattle.foyer_core_steps.specs.declared.step.Step.TheVariants as step
use Rattle.foyer_core_steps.proofs.state.Core.flush_block.Goals as goal

pub returns-then-not-has_block-clause-meets : goal.returns-then-not-has_block-clause-meets
returns-then-not-has_block-clause-meets g c = λ m s sound it stands few.
    let core = c.args.self.now in
    let f = c.args.flusher in
    let found = c.index_mut-found.result.now in
    let within : f < length core.flushers.items = omega (arith, c.len.ensures, c.if-flusher-len.false) in
    let at = stands_at m s core it f found stands within c.index_mut-found.ensures.value in
    not_now m s sound core _ it (step.FlushBlock f)
    (record {
      index = kept_itself c.args.self.now.index;
      next = refl;
      steps = refl;
      closed = refl;
      queued = refl;
      settings = refl;
      flushers = same_seen core.flushers.items f found found c.index_mut-found.ensures.value refl;
      manager = refl;
      reclaims = λ b. refl;
      destroy = refl;
    }) stands few (λ d. d)
    (λ turn. false≢true (c.if-not-has_block.ensures.1 (wants_block m s found.own found.batch (it.flushers f).batch (at.flusher).batch turn.1)))

pub returns-in-Err-clause-meets : goal.returns-in-Err-clause-meets
returns-in-Err-clause-meets g c = λ m s sound it stands few.
    let core = c.args.self.now in
    let f = c.args.flusher in
    let found = c.index_mut-found.result.now in
    let within : f < length core.flushers.items = omega (arith, c.len.ensures, c.if-flusher-len.false) in
    let at = stands_at m s core it f found stands within c.index_mut-found.ensures.value in
    let counted : it.steps ≡ core.steps = stands.steps in
    let early : it.steps < last_number = omega arith in
    record {
      after = it;
      it = model_reply.Refused model_reply.Memory (model_step.FlushBlock f);
      stands = unchanged_stands m s core _ it (record {
        index = kept_itself c.args.self.now.index;
        next = refl;
        steps = refl;
        closed = refl;
        queued = refl;
        settings = refl;
        flushers = same_seen core.flushers.items f found c.next.new.self c.index_mut-found.ensures.value c.in-Err.ensures.refused;
        manager = c.in-Err.ensures.manager_kept;
        reclaims = λ b. refl;
        destroy = refl;
      }) stands;
      reply = (model_reply.Memory, refl, refl);
      turns = (
        refl,
        (
          early,
          (
            (flusher_there m s core it f stands within, has_block m s found.own found.batch (it.flushers f).batch (at.flusher).batch (c.if-not-has_block.ensures.0 refl)),
            would_answer m s sound it f found core.index.slots core.manager at (c.if-not-has_block.ensures.0 refl),
          ),
        ),
        refl,
      );
    }

pub returns-in-Ok-NoBlock-clause-meets : goal.returns-in-Ok-NoBlock-clause-meets
returns-in-Ok-NoBlock-clause-meets g c = λ m s sound it stands few.
    let core = c.args.self.now in
    let f = c.args.flusher in
    let found = c.index_mut-found.result.now in
    let within : f < length core.flushers.items = omega (arith, c.len.ensures, c.if-flusher-len.false) in
    let at = stands_at m s core it f found stands within c.index_mut-found.ensures.value in
    let done = subst (λ (n : Next g.row.A.Denot). FlusherStep m s sound (model_step.FlushBlock f) f it (issued_next n) (seen c.next.new.self) core.index.slots c.next.new.manager) c.in-Ok-NoBlock.field-0-is (c.in-Ok-NoBlock.ensures.done m s sound it core.index.slots at) in
    record {
      after = done.after;
      it = model_reply.NoBlock;
      stands = core_stands m s sound core _ it f c.next.new.self _ _ stands within done refl refl refl refl refl refl (λ b. refl) refl;
      reply = refl;
      turns = ((flusher_there m s core it f stands within, has_block m s found.own found.batch (it.flushers f).batch (at.flusher).batch (c.if-not-has_block.ensures.0 refl)), done.does);
    }

pub returns-in-Ok-Block-clause-meets : goal.returns-in-Ok-Block-clause-meets
returns-in-Ok-Block-clause-meets g c = λ m s sound it stands few.
    let core = c.args.self.now in
    let f = c.args.flusher in
    let found = c.index_mut-found.result.now in
    let within : f < length core.flushers.items = omega (arith, c.len.ensures, c.if-flusher-len.false) in
    let at = stands_at m s core it f found stands within c.index_mut-found.ensures.value in
    let done = subst (λ (n : Next g.row.A.Denot). FlusherStep m s sound (model_step.FlushBlock f) f it (issued_next n) (seen c.next.new.self) core.index.slots c.next.new.manager) c.in-Ok-Block.field-0-is (c.in-Ok-Block.ensures.done m s sound it core.index.slots at) in
    record {
      after = done.after;
      it = model_reply.Written c.in-Ok-Block.block (map write_of c.in-Ok-Block.writes.items);
      stands = core_stands m s sound core _ it f c.next.new.self _ _ stands within done refl refl refl refl refl refl (λ b. refl) refl;
      reply = refl;
      turns = ((flusher_there m s core it f stands within, has_block m s found.own found.batch (it.flushers f).batch (at.flusher).batch (c.if-not-has_block.ensures.0 refl)), done.does);
    }

pub returns-then-flusher-len-clause-meets : goal.returns-then-flusher-len-clause-meets
returns-then-flusher-len-clause-meets g c = grind (arith, common_steps)

pub returns-then-not-has_block-clause-back : goal.returns-then-not-has_block-clause-back
returns-then-not-has_block-clause-back g c = grind (arith, common_steps)

pub returns-in-Err-clause-back : goal.returns-in-Err-clause-back
returns-in-Err-clause-back g c =
    let found = c.index_mut-found.result.now in (
      refl,
      record {
        index = kept_itself c.args.self.now.index;
        next = refl;
        steps = refl;
        closed = refl;
        queued = refl;
        settings = refl;
        flushers = same_seen c.args.self.now.flushers.items c.args.flusher found c.next.new.self c.index_mut-found.ensures.value c.in-Err.ensures.refused;
        manager = c.in-Err.ensures.manager_kept;
        reclaims = λ b. refl;
        destroy = refl;
      },
    )

pub returns-in-Ok-NoBlock-clause-shown : goal.returns-in-Ok-NoBlock-clause-shown
returns-in-Ok-NoBlock-clause-shown g c =
    let core = c.args.self.now in
    let f = c.args.flusher in
    let found = c.index_mut-found.result.now in
    let within : f < length core.flushers.items = omega (arith, c.len.ensures, c.if-flusher-len.false) in
    let at : left_at core f ≡ left_by found.batch found.own = left_read core f found within c.index_mut-found.ensures.value in
    all_back g.E.EvictionPicker.learns (written_of core.manager.blocks (left_at core f)) c.args.env.now.pickers.len c.args.env.now.pickers.items c.deref_mut.result.now c.next.new.pickers
    c.deref_mut.ensures.value (omega (arith, c.args.env.now.pickers.ok.0)) (subst (λ o. AreShownAll g.E.EvictionPicker.learns (written_of core.manager.blocks o) c.deref_mut.result.now c.next.new.pickers) (sym at) c.in-Ok-NoBlock.ensures.shown)

pub returns-in-Ok-Block-clause-shown : goal.returns-in-Ok-Block-clause-shown
returns-in-Ok-Block-clause-shown g c =
    let core = c.args.self.now in
    let f = c.args.flusher in
    let found = c.index_mut-found.result.now in
    let within : f < length core.flushers.items = omega (arith, c.len.ensures, c.if-flusher-len.false) in
    let at : left_at core f ≡ left_by found.batch found.own = left_read core f found within c.index_mut-found.ensures.value in
    all_back g.E.EvictionPicker.learns (written_of core.manager.blocks (left_at core f)) c.args.env.now.pickers.len c.args.env.now.pickers.items c.deref_mut.result.now c.next.new.pickers
    c.deref_mut.ensures.value (omega (arith, c.args.env.now.pickers.ok.0)) (subst (λ o. AreShownAll g.E.EvictionPicker.learns (written_of core.manager.blocks o) c.deref_mut.result.now c.next.new.pickers) (sym at) c.in-Ok-Block.ensures.shown)
