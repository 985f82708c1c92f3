use Rattle.std.proofs.Common.{◌≡◌, ◌+◌, ◌<◌, ◌++◌, ◌∷◌, [], length, refl, ap, ◌∙◌, arith}
use Rattle.foyer_block_index.proofs.Rooms.{kept_itself}
use Rattle.foyer_core_model.specs.Numbers.{put, last_number}
use Rattle.foyer_core_model.specs.Reply.{Memory, Done, Refused}
use Rattle.foyer_core_model.specs.State.{Await}
use Rattle.foyer_core_model.specs.Step as model_step
use Rattle.foyer_core_flusher.specs.declared.submission.Submission.TheVariants.{Wait}
use Rattle.foyer_core_flusher.proofs.SetsLemmas.{managed_kept, blocks_kept}
use Rattle.foyer_core_steps.proofs.QueueLemmas.{with_queued, queue_pushed, size_grown}
use Rattle.foyer_core_steps.proofs.StateLemmas.{flushers_count, unchanged_stands}
use Rattle.foyer_core_flusher.specs.Seen.{seen}
use Rattle.foyer_core_steps.proofs.FlusherLists.{same_seen}
use Rattle.foyer_core_steps.proofs.state.Core.wait.Goals as goal

pub returns-then-is_err-clause-back : goal.returns-then-is_err-clause-back
returns-then-is_err-clause-back g c =
    let found = c.index_mut-found.result.now in (
      refl,
      record {
        index = kept_itself c.args.self.now.index;
        next = refl;
        steps = refl;
        closed = refl;
        queued = refl;
        settings = refl;
        flushers = same_seen c.args.self.now.flushers.items c.args.flusher found _
            c.index_mut-found.ensures.value (ap (λ q. record (seen found) { queue = q }) c.reserve.ensures.items);
        manager = refl;
        reclaims = λ b. refl;
        destroy = refl;
      },
    )

pub returns-then-is_err-clause-meets : goal.returns-then-is_err-clause-meets
returns-then-is_err-clause-meets g c = λ m s sound it stands few.
    let count : length c.args.self.now.flushers.items ≡ s.flushers = flushers_count m s c.args.self.now.flushers.items it.flushers stands.flushers in
    let there : c.args.flusher < s.flushers = omega (arith, c.len.ensures, c.if-flusher-len.false) in
    let steps : it.steps ≡ c.args.self.now.steps = stands.steps in
    let early : it.steps < last_number = omega arith in
    let queued = with_queued (it.flushers c.args.flusher) (Await c.args.id) in
    record {
      after = it;
      it = Refused Memory (model_step.Wait c.args.flusher c.args.id);
      stands = unchanged_stands m s c.args.self.now _ it (returns-then-is_err-clause-back g c).1 stands;
      reply = (Memory, refl, refl);
      turns = (refl, (early, (there, (Done, record it { flushers = put it.flushers c.args.flusher queued }, refl, tt))), refl);
    }

pub returns-clause-meets : goal.returns-clause-meets
returns-clause-meets g c = λ m s sound it stands few.
    let found = c.index_mut-found.result.now in
    let count : length c.args.self.now.flushers.items ≡ s.flushers = flushers_count m s c.args.self.now.flushers.items it.flushers stands.flushers in
    let within : c.args.flusher < length c.args.self.now.flushers.items = omega (arith, c.len.ensures, c.if-flusher-len.false) in
    let there : c.args.flusher < s.flushers = omega arith in
    let more : c.args.self.now.queued ≡ c.args.self.now.queued + 0 = omega arith in
    let queued = with_queued (it.flushers c.args.flusher) (Await c.args.id) in
    record {
      after = record it { flushers = put it.flushers c.args.flusher queued };
      it = Done;
      stands = record {
        sizes = stands.sizes;
        index = stands.index;
        next = stands.next;
        steps = stands.steps;
        closed = stands.closed;
        flushers = queue_pushed m s c.args.self.now.flushers.items it.flushers c.args.flusher found _ (Wait c.args.id)
            stands.flushers within c.index_mut-found.ensures.value
            (ap (λ q. record (seen found) { queue = q }) (c.push_back_reserved.ensures.items ∙ ap (λ q. q ++ Wait c.args.id ∷ []) c.reserve.ensures.items));
        queued = size_grown s it.flushers c.args.flusher (Await c.args.id) c.args.self.now.queued c.args.self.now.next c.args.self.now.queued c.args.self.now.next
            stands.queued there more stands.queued.bound;
        manager = managed_kept s c.args.flusher it c.args.self.now.manager queued (record { own = refl; ready = refl }) stands.manager;
        has = blocks_kept s c.args.flusher it queued (record { own = refl; ready = refl }) stands.has;
        reclaims = stands.reclaims;
        destroy = stands.destroy;
      };
      reply = refl;
      turns = (there, refl);
    }
