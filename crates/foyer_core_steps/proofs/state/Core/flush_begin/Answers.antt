use Rattle.std.proofs.lemmas.Grind.{common_steps}
use Rattle.std.proofs.Common.{true, false, ◌≡◌, ◌<◌, map, length, None, refl, ap, sym, ◌∙◌, arith}
use Rattle.foyer_block_index.proofs.Rooms.{kept_itself}
use Rattle.foyer_device_page.specs.declared.error.ErrorKind.TheVariants as kind
use Rattle.foyer_core_model.specs.Receive.{HasReceived, turned}
use Rattle.foyer_core_model.specs.Reply as model_reply
use Rattle.foyer_core_flusher.specs.BatchBegun.{HasBegun}
use Rattle.foyer_core_flusher.specs.Begun.{IsBegun}
use Rattle.foyer_core_flusher.specs.Flushing.{IsFlusherAs}
use Rattle.foyer_core_flusher.specs.CoreRules.{machine}
use Rattle.foyer_core_flusher.specs.Addresses.{mark_of}
use Rattle.foyer_core_flusher.specs.Seen.{seen}
use Rattle.foyer_core_flusher.specs.Taking.{size_in}
use Rattle.foyer_core_flusher.proofs.SetsLemmas.{managed_kept, blocks_kept}
use Rattle.foyer_core_steps.specs.declared.step.Step.TheVariants as step
use Rattle.foyer_core_flusher.proofs.BeginLemmas.{has_begun}
use Rattle.foyer_core_flusher.proofs.BeginTurns.{may_begin, may_begin_back}
use Rattle.foyer_core_flusher.proofs.LawLemmas.{are_rules}
use Rattle.foyer_core_steps.proofs.QueueLemmas.{size_kept}
use Rattle.foyer_core_steps.proofs.StateLemmas.{flushers_count, flusher_at, flusher_put}
use Rattle.foyer_core_steps.proofs.TurnLemmas.{is_early, refused, not_now}
use Rattle.foyer_core_steps.proofs.FlushTurns.{begun_count}
use Rattle.foyer_core_steps.proofs.FlusherLists.{same_seen}
use Rattle.foyer_core_steps.proofs.state.Core.flush_begin.Goals as goal

pub returns-then-not-may_begin-clause-meets : goal.returns-then-not-may_begin-clause-meets
returns-then-not-may_begin-clause-meets g c = λ m s sound it stands few.
    let old = c.args.self.now in
    let f = c.args.flusher in
    let count : length old.flushers.items ≡ s.flushers = flushers_count m s old.flushers.items it.flushers stands.flushers in
    let within : f < length old.flushers.items = omega (arith, c.len.ensures, c.if-flusher-len.false) in
    let there : f < s.flushers = omega arith in
    let found = c.index_mut-found.result.now in
    let before : IsFlusherAs m s (seen found) (it.flushers f) = flusher_at m s old.flushers.items it.flushers f found stands.flushers within c.index_mut-found.ensures.value in
    not_now m s sound (step.FlushBegin f) old _ it (record {
      index = kept_itself c.args.self.now.index;
      next = refl;
      steps = refl;
      closed = refl;
      queued = refl;
      settings = refl;
      flushers = same_seen old.flushers.items f found found c.index_mut-found.ensures.value refl;
      manager = refl;
      reclaims = λ b. refl;
      destroy = refl;
    }) stands (
      is_early m s old it stands few,
      (λ draws. absurd draws),
      (λ turn. let e : false ≡ true = c.if-not-may_begin.ensures.1 (may_begin_back m s found (it.flushers f) before (turn.1, turn.2)) in cc),
    )

pub returns-in-Ok-clause-meets : goal.returns-in-Ok-clause-meets
returns-in-Ok-clause-meets g c = λ m s sound it stands few.
    let old = c.args.self.now in
    let f = c.args.flusher in
    let count : length old.flushers.items ≡ s.flushers = flushers_count m s old.flushers.items it.flushers stands.flushers in
    let within : f < length old.flushers.items = omega (arith, c.len.ensures, c.if-flusher-len.false) in
    let there : f < s.flushers = omega arith in
    let found = c.index_mut-found.result.now in
    let before : IsFlusherAs m s (seen found) (it.flushers f) = flusher_at m s old.flushers.items it.flushers f found stands.flushers within c.index_mut-found.ensures.value in
    let turn : ((it.flushers f).batch ≡ None) × HasReceived (it.flushers f) = may_begin m s found (it.flushers f) before (c.if-not-may_begin.ensures.0 refl) in
    let is : IsBegun found c.begin.new.self c.in-Ok.marks.items = c.in-Ok.ensures.begins in
    let has : HasBegun m (machine m s sound) s it f (seen c.begin.new.self) (length (is.batch).blocks.items) c.in-Ok.marks.items =
    has_begun m (machine m s sound) s it f found c.begin.new.self c.in-Ok.marks.items (are_rules m.is_key m.is_value s sound) refl before is in
    record {
      after = turned (machine m s sound) it f has.after;
      it = model_reply.Began has.layouts (map mark_of c.in-Ok.marks.items);
      stands = record {
        sizes = stands.sizes;
        index = stands.index;
        next = stands.next;
        steps = stands.steps;
        closed = stands.closed;
        flushers = flusher_put m s old.flushers.items it.flushers f c.begin.new.self has.after stands.flushers within has.stands;
        queued = size_kept s it.flushers f has.after old.queued old.next stands.queued there (ap size_in (sym has.queue));
        manager = managed_kept s f it old.manager has.after has.keeps stands.manager;
        has = blocks_kept s f it has.after has.keeps stands.has;
        reclaims = stands.reclaims;
        destroy = stands.destroy;
      };
      reply = (has.layouts, has.count ∙ begun_count m s c.begin.new.self.batch is.batch c.block_count.result (ap (λ x. x.batch) is.left) c.block_count.ensures, refl);
      turns = ((there, turn.0, turn.1), has.begins);
    }

pub returns-in-Err-clause-meets : goal.returns-in-Err-clause-meets
returns-in-Err-clause-meets g c = λ m s sound it stands few.
    let old = c.args.self.now in
    let f = c.args.flusher in
    let count : length old.flushers.items ≡ s.flushers = flushers_count m s old.flushers.items it.flushers stands.flushers in
    let within : f < length old.flushers.items = omega (arith, c.len.ensures, c.if-flusher-len.false) in
    let there : f < s.flushers = omega arith in
    let found = c.index_mut-found.result.now in
    let before : IsFlusherAs m s (seen found) (it.flushers f) = flusher_at m s old.flushers.items it.flushers f found stands.flushers within c.index_mut-found.ensures.value in
    let turn : ((it.flushers f).batch ≡ None) × HasReceived (it.flushers f) = may_begin m s found (it.flushers f) before (c.if-not-may_begin.ensures.0 refl) in
    refused m s sound (step.FlushBegin f) old _ it kind.Memory model_reply.Memory refl (record {
      index = kept_itself c.args.self.now.index;
      next = refl;
      steps = refl;
      closed = refl;
      queued = refl;
      settings = refl;
      flushers = same_seen old.flushers.items f found c.begin.new.self c.index_mut-found.ensures.value c.in-Err.ensures.refused;
      manager = refl;
      reclaims = λ b. refl;
      destroy = refl;
    }) stands
    (is_early m s old it stands few, ((there, turn.0, turn.1), tt))

pub returns-then-flusher-len-clause-meets : goal.returns-then-flusher-len-clause-meets
returns-then-flusher-len-clause-meets g c = grind (arith, common_steps)

pub returns-then-not-may_begin-clause-back : goal.returns-then-not-may_begin-clause-back
returns-then-not-may_begin-clause-back g c = grind (arith, common_steps)

pub returns-in-Err-clause-back : goal.returns-in-Err-clause-back
returns-in-Err-clause-back g c =
    let found = c.index_mut-found.result.now in (
      refl,
      record {
        index = kept_itself c.args.self.now.index;
        next = refl;
        steps = refl;
        closed = refl;
        queued = refl;
        settings = refl;
        flushers = same_seen c.args.self.now.flushers.items c.args.flusher found c.begin.new.self c.index_mut-found.ensures.value c.in-Err.ensures.refused;
        manager = refl;
        reclaims = λ b. refl;
        destroy = refl;
      },
    )
