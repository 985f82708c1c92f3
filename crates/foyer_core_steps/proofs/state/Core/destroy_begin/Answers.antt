use Rattle.std.proofs.Common.{inr, ◌≡◌, ◌+◌, ◌*◌, ◌^◌, ◌<◌, ◌≤◌, ◌%◌, ◌++◌, ◌∷◌, [], None, length, vec_len, refl, ap, sym, subst, ◌∙◌, arith}
use Rattle.foyer_block_index.proofs.Rooms.{kept_itself}
use Rattle.foyer_device_page.specs.declared.error.ErrorKind.TheVariants as kind
use Rattle.foyer_core_model.specs.Flush.{is_cleaning}
use Rattle.foyer_core_model.specs.Numbers.{put, last_number}
use Rattle.foyer_core_model.specs.Reply as model_reply
use Rattle.foyer_core_model.specs.State as model_state
use Rattle.foyer_core_model.specs.State.{Remove}
use Rattle.foyer_core_flusher.specs.declared.submission.Submission.TheVariants.{Tombstone}
use Rattle.foyer_core_flusher.specs.Seen.{seen}
use Rattle.foyer_core_flusher.specs.Standing.{sets_of, IsManagedAs}
use Rattle.foyer_core_flusher.proofs.SetsLemmas.{managed_kept, blocks_kept}
use Rattle.foyer_core_steps.specs.Destroying.{IsDestroyAs}
use Rattle.foyer_core_steps.specs.declared.step.Step.TheVariants as step
use Rattle.foyer_core_steps.proofs.FlusherLists.{same_seen}
use Rattle.foyer_core_steps.proofs.QueueLemmas.{with_queued, queue_pushed_at, size_grown}
use Rattle.foyer_core_steps.proofs.StateLemmas.{flushers_count}
use Rattle.foyer_core_steps.proofs.TurnLemmas.{is_early, same, refused}
use Rattle.foyer_core_steps.proofs.state.Core.destroy_begin.Goals as goal

pub returns-then-self-clause-meets : goal.returns-then-self-clause-meets
returns-then-self-clause-meets g c = λ m s sound it stands few.
    refused m s sound step.DestroyBegin c.args.self.now _ it kind.Closed model_reply.Closed refl (same c.args.self.now) stands
    (is_early m s c.args.self.now it stands few, (tt, stands.closed ∙ c.if-self.true))

pub returns-then-self-2-clause-meets : goal.returns-then-self-2-clause-meets
returns-then-self-2-clause-meets g c = λ m s sound it stands few.
    let next : it.next ≡ c.args.self.now.next = stands.next in
    let full : last_number ≤ it.next = omega (arith, c.if-self-2.true) in
    let absent : it.destroy ≡ model_state.NoDestroy = subst (λ d. IsDestroyAs s.blocks d it.destroy) c.in-Absent.is stands.destroy in
    refused m s sound step.DestroyBegin c.args.self.now _ it kind.SequenceEnd model_reply.SequenceEnd refl (same c.args.self.now) stands
    (inr (is_early m s c.args.self.now it stands few, (absent, tt, stands.closed ∙ c.if-self.false, full)))

pub returns-then-is_err-clause-meets : goal.returns-then-is_err-clause-meets
returns-then-is_err-clause-meets g c = λ m s sound it stands few.
    let old = c.args.self.now in
    let next : it.next ≡ old.next = stands.next in
    let drawn : it.next < last_number = omega (arith, c.if-self-2.false) in
    let found = c.index_mut.result.now in
    let absent : it.destroy ≡ model_state.NoDestroy = subst (λ d. IsDestroyAs s.blocks d it.destroy) c.in-Absent.is stands.destroy in
    refused m s sound step.DestroyBegin old _ it kind.Memory model_reply.Memory refl (record {
      index = kept_itself c.args.self.now.index;
      next = refl;
      steps = refl;
      closed = refl;
      queued = refl;
      settings = refl;
      flushers = same_seen old.flushers.items c.flusher_of-flusher.result found _
          c.index_mut.ensures.value (ap (λ q. record (seen found) { queue = q }) c.reserve.ensures.items);
      manager = refl;
      reclaims = λ b. refl;
      destroy = refl;
    }) stands
    (is_early m s old it stands few, (absent, (model_reply.Destroying it.next, _, (refl, stands.closed ∙ c.if-self.false, drawn, refl), tt)))

pub returns-clause-meets : goal.returns-clause-meets
returns-clause-meets g c = λ m s sound it stands few.
    let old = c.args.self.now in
    let found = c.index_mut.result.now in
    let next : it.next ≡ old.next = stands.next in
    let drawn : it.next < last_number = omega (arith, c.if-self-2.false) in
    let absent : it.destroy ≡ model_state.NoDestroy = subst (λ d. IsDestroyAs s.blocks d it.destroy) c.in-Absent.is stands.destroy in
    let count : length old.flushers.items ≡ s.flushers = flushers_count m s old.flushers.items it.flushers stands.flushers in
    let len : vec_len old.flushers ≡ length old.flushers.items = omega arith in
    let at : c.flusher_of-flusher.result ≡ 0 % s.flushers = c.flusher_of-flusher.ensures.number ∙ ap (λ n. 0 % n) (len ∙ count) in
    let within : c.flusher_of-flusher.result < length old.flushers.items = omega (arith, c.flusher_of-flusher.ensures.within) in
    let there : 0 % s.flushers < s.flushers = subst (λ k. k < s.flushers) at (subst (λ n. c.flusher_of-flusher.result < n) count within) in
    let f = 0 % s.flushers in
    let x = Remove 0 old.next [] in
    let mark = Tombstone (record { hash = 0; sequence = old.next }) None in
    let bound : old.queued ≤ old.next * 2 ^ 64 = stands.queued.bound in
    let more : old.queued ≡ old.queued + 0 = omega arith in
    record {
      after = record it { flushers = put it.flushers f (with_queued (it.flushers f) x); next = old.next + 1; destroy = model_state.Begun };
      it = model_reply.Destroying old.next;
      stands = record {
        sizes = stands.sizes;
        index = stands.index;
        next = refl;
        steps = stands.steps;
        closed = stands.closed;
        flushers = queue_pushed_at m s old.flushers.items it.flushers c.flusher_of-flusher.result f found _ mark x
            at refl stands.flushers within c.index_mut.ensures.value
            (ap (λ q. record (seen found) { queue = q }) (c.push_back_reserved.ensures.items ∙ ap (λ q. q ++ mark ∷ []) c.reserve.ensures.items));
        queued = size_grown s it.flushers f x old.queued old.next old.queued (old.next + 1) stands.queued there more (omega arith);
        manager = subst (λ t. IsManagedAs s old.manager (record (sets_of (record it { flushers = put it.flushers f (with_queued (it.flushers f) x) })) { is_cleaning = t })) (ap is_cleaning absent)
            (managed_kept s f it old.manager (with_queued (it.flushers f) x) (record { own = refl; ready = refl }) stands.manager);
        has = blocks_kept s f it (with_queued (it.flushers f) x) (record { own = refl; ready = refl }) stands.has;
        reclaims = stands.reclaims;
        destroy = refl;
      };
      reply = refl;
      turns = (absent, (sym next, stands.closed ∙ c.if-self.false, drawn, refl));
    }
