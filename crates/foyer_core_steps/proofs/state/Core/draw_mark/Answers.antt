use Rattle.std.proofs.Common.{◌≡◌, ◌+◌, ◌*◌, ◌^◌, ◌<◌, ◌≤◌, ◌%◌, ◌++◌, ◌∷◌, [], length, vec_len, Result, Ok, Err, OnErr, refl, ap, sym, subst, ◌∙◌, arith}
use Rattle.std.specs.FinMap as finite
use Rattle.foyer_block_index.proofs.Rooms.{kept_itself}
use Rattle.foyer_block_index.specs.declared.indexer.Index.TheVariants as index
use Rattle.foyer_core_model.specs.Index.{inserted}
use Rattle.foyer_core_model.specs.Numbers.{put}
use Rattle.foyer_core_model.specs.Queue.{invalidated_by}
use Rattle.foyer_core_model.specs.Record.{Mark}
use Rattle.foyer_core_model.specs.State.{Remove}
use Rattle.foyer_core_flusher.proofs.MarkLemmas.{pushed_out}
use Rattle.foyer_core_flusher.specs.Flushing.{invalid_of_all}
use Rattle.foyer_core_flusher.specs.Seen.{seen}
use Rattle.foyer_core_flusher.specs.declared.submission.Submission.TheVariants.{Tombstone}
use Rattle.foyer_core_flusher.specs.CoreRules.{machine}
use Rattle.foyer_core_flusher.proofs.SetsLemmas.{managed_kept, blocks_kept}
use Rattle.foyer_core_flusher.proofs.SlotLemmas.{index_inserted}
use Rattle.foyer_core_flusher.specs.Standing.{IsIndexedAs}
use Rattle.foyer_core_steps.proofs.FlusherLists.{same_seen}
use Rattle.foyer_core_steps.proofs.QueueLemmas.{with_queued, queue_pushed_at, size_grown}
use Rattle.foyer_core_steps.proofs.StateLemmas.{flushers_count}
use Rattle.foyer_core_steps.proofs.state.Core.draw_mark.Goals as goal

on_err : {T E P : Type 0} (r : Result T E) → P → OnErr r P
on_err (Ok x) p = tt
on_err (Err e) p = p

pub returns-in_err-reserve-clause-refused : goal.returns-in_err-reserve-clause-refused
returns-in_err-reserve-clause-refused g c =
    let found = c.index_mut.result.now in
    on_err c.from_residual.result (record {
      index = kept_itself c.args.self.now.index;
      next = refl;
      steps = refl;
      closed = refl;
      queued = refl;
      settings = refl;
      flushers = same_seen c.args.self.now.flushers.items c.flusher_of-flusher.result found _
          c.index_mut.ensures.value (ap (λ q. record (seen found) { queue = q }) c.reserve.ensures.items);
      manager = refl;
      reclaims = λ b. refl;
      destroy = refl;
    })

pub returns-in_err-info-clause-refused : goal.returns-in_err-info-clause-refused
returns-in_err-info-clause-refused g c =
    let found = c.index_mut.result.now in
    on_err c.from_residual-in_err-info.result (record {
      index = c.in_err-info.ensures.kept;
      next = refl;
      steps = refl;
      closed = refl;
      queued = refl;
      settings = refl;
      flushers = same_seen c.args.self.now.flushers.items c.flusher_of-flusher.result found _
          c.index_mut.ensures.value (ap (λ q. record (seen found) { queue = q }) c.reserve.ensures.items);
      manager = refl;
      reclaims = λ b. refl;
      destroy = refl;
    })

pub returns-clause-meets : goal.returns-clause-meets
returns-clause-meets g c = λ m s sound it stands.
    let old = c.args.self.now in
    let found = c.index_mut.result.now in
    let info = c.in_ok-info.info in
    let count : length old.flushers.items ≡ s.flushers = flushers_count m s old.flushers.items it.flushers stands.flushers in
    let len : vec_len old.flushers ≡ length old.flushers.items = omega arith in
    let at : c.flusher_of-flusher.result ≡ c.args.hash % s.flushers = c.flusher_of-flusher.ensures.number ∙ ap (λ n. c.args.hash % n) (len ∙ count) in
    let within : c.flusher_of-flusher.result < length old.flushers.items = omega (arith, c.flusher_of-flusher.ensures.within) in
    let there : c.args.hash % s.flushers < s.flushers = subst (λ k. k < s.flushers) at (subst (λ n. c.flusher_of-flusher.result < n) count within) in
    let f = c.args.hash % s.flushers in
    let hash : info.tombstone.hash ≡ c.args.hash = c.in_ok-info.ensures.hash in
    let sequence : info.tombstone.sequence ≡ old.next = c.in_ok-info.ensures.sequence in
    let invalidated : invalid_of_all info.stats ≡ invalidated_by (machine m s sound) old.next (it.index c.args.hash) =
    c.in_ok-info.ensures.invalid ∙ pushed_out m s sound (finite.get old.index.slots c.args.hash) old.next
    ∙ ap (invalidated_by (machine m s sound) old.next) (sym (stands.index.slot c.args.hash)) in
    let x = Remove c.args.hash old.next (invalidated_by (machine m s sound) old.next (it.index c.args.hash)) in
    let bound : old.queued ≤ old.next * 2 ^ 64 = stands.queued.bound in
    let more : old.queued ≡ old.queued + 0 = omega arith in
    record {
      sizes = stands.sizes;
      index = subst (λ k. IsIndexedAs s k (put it.index c.args.hash (inserted (it.index c.args.hash) (Mark old.next)))) (sym c.in_ok-info.ensures.entered)
          (index_inserted s old.index.slots it.index c.args.hash (index.Tombstone old.next) tt stands.index);
      next = refl;
      steps = stands.steps;
      closed = stands.closed;
      flushers = queue_pushed_at m s old.flushers.items it.flushers c.flusher_of-flusher.result f found _ (Tombstone info.tombstone info.stats) x
          at (λ i. Remove (hash i) (sequence i) (invalidated i)) stands.flushers within c.index_mut.ensures.value
          (ap (λ q. record (seen found) { queue = q }) (c.push_back_reserved.ensures.items ∙ ap (λ q. q ++ Tombstone info.tombstone info.stats ∷ []) c.reserve.ensures.items));
      queued = size_grown s it.flushers f x old.queued old.next old.queued (old.next + 1) stands.queued there more (omega arith);
      manager = managed_kept s f it old.manager (with_queued (it.flushers f) x) (record { own = refl; ready = refl }) stands.manager;
      has = blocks_kept s f it (with_queued (it.flushers f) x) (record { own = refl; ready = refl }) stands.has;
      reclaims = stands.reclaims;
      destroy = stands.destroy;
    }
