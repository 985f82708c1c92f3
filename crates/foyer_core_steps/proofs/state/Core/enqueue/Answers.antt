use Rattle.std.proofs.Common.{true, false, inr, ◌≡◌, ◌+◌, ◌*◌, ◌^◌, ◌<◌, ◌≤◌, ◌%◌, ◌++◌, ◌∷◌, [], min, length, vec_len, refl, ap, sym, subst, ◌∙◌, arith}
use Rattle.foyer_block_index.proofs.Rooms.{kept_itself}
use Rattle.foyer_device_page.specs.declared.error.ErrorKind.TheVariants as kind
use Rattle.foyer_core_model.specs.Numbers.{put, last_number}
use Rattle.foyer_core_model.specs.Queue.{IsCrowded}
use Rattle.foyer_core_model.specs.Reply as model_reply
use Rattle.foyer_core_model.specs.State.{Piece}
use Rattle.foyer_core_model.specs.Step.{Young}
use Rattle.foyer_core_flusher.proofs.SetsLemmas.{managed_kept, blocks_kept}
use Rattle.foyer_core_steps.specs.Asked.{known_age}
use Rattle.foyer_core_flusher.specs.Content.{content_of}
use Rattle.foyer_core_flusher.specs.CoreRules.{machine}
use Rattle.foyer_core_flusher.specs.declared.submission.Submission.TheVariants.{CacheEntry}
use Rattle.foyer_core_steps.specs.declared.step.Step.TheVariants as step
use Rattle.foyer_core_steps.specs.Marking.{marked}
use Rattle.foyer_core_steps.specs.StateOf.{IsStateOf}
use Rattle.foyer_core_steps.proofs.Enqueued.{known_young, crowded, has_room}
use Rattle.foyer_core_steps.proofs.QueueLemmas.{with_queued, queue_pushed_at, size_grown}
use Rattle.foyer_core_steps.proofs.StateLemmas.{flushers_count}
use Rattle.foyer_core_steps.proofs.TurnLemmas.{is_early, same, refused}
use Rattle.foyer_core_flusher.specs.Seen.{seen}
use Rattle.foyer_core_steps.proofs.FlusherLists.{same_seen}
use Rattle.foyer_core_steps.proofs.state.Core.enqueue.Goals as goal

pub returns-then-is_err-clause-back : goal.returns-then-is_err-clause-back
returns-then-is_err-clause-back g c =
    let found = c.index_mut.result.now in (
      refl,
      record {
        index = kept_itself c.args.self.now.index;
        next = refl;
        steps = refl;
        closed = refl;
        queued = refl;
        settings = refl;
        flushers = same_seen c.args.self.now.flushers.items c.flusher_of-flusher.result found _
            c.index_mut.ensures.value (ap (λ q. record (seen found) { queue = q }) c.reserve.ensures.items);
        manager = refl;
        reclaims = λ b. refl;
        destroy = refl;
      },
    )

pub returns-then-self-clause-meets : goal.returns-then-self-clause-meets
returns-then-self-clause-meets g c = λ m ages s sound it stands few.
    refused m s sound (step.Enqueue c.args.piece c.args.size) c.args.self.now _ it kind.Closed model_reply.Closed refl
    (same c.args.self.now) stands
    (is_early m s c.args.self.now it stands few, (tt, stands.closed ∙ c.if-self.true))

pub returns-then-is_young-clause-meets : goal.returns-then-is_young-clause-meets
returns-then-is_young-clause-meets g c = λ m ages s sound it stands few.
    let old = c.args.self.now in
    let same_age : m.age_of c.args.piece.piece.properties ≡ g.P.Properties.age c.args.piece.piece.properties = ap (λ f. f c.args.piece.piece.properties) ages in
    let issued : g.P.Properties.age c.properties.result.now ≡ g.P.Properties.age c.args.piece.piece.properties = ap g.P.Properties.age c.properties.ensures ∙ ap (λ r. g.P.Properties.age r.properties) c.deref.ensures in
    let young : known_age (m.age_of c.args.piece.piece.properties) ≡ Young = ap known_age (same_age ∙ sym issued ∙ c.if-is_young.ensures.0 refl) in
    record {
      after = it;
      it = model_reply.Ignored (content_of m c.args.piece);
      stands = stands;
      reply = refl;
      turns = (tt, (refl, stands.closed ∙ c.if-self.false, young, refl));
    }

pub returns-then-self-2-clause-meets : goal.returns-then-self-2-clause-meets
returns-then-self-2-clause-meets g c = λ m ages s sound it stands few.
    let old = c.args.self.now in
    let same_age : m.age_of c.args.piece.piece.properties ≡ g.P.Properties.age c.args.piece.piece.properties = ap (λ f. f c.args.piece.piece.properties) ages in
    let issued : g.P.Properties.age c.properties.result.now ≡ g.P.Properties.age c.args.piece.piece.properties = ap g.P.Properties.age c.properties.ensures ∙ ap (λ r. g.P.Properties.age r.properties) c.deref.ensures in
    let not_young : known_age (m.age_of c.args.piece.piece.properties) ≡ Young → ⊥ =
    (λ young. let e : false ≡ true = c.if-is_young.ensures.1 (issued ∙ sym same_age ∙ known_young (m.age_of c.args.piece.piece.properties) young) in cc) in
    let next : it.next ≡ old.next = stands.next in
    let full : last_number ≤ it.next = omega (arith, c.if-self-2.true) in
    refused m s sound (step.Enqueue c.args.piece c.args.size) old _ it kind.SequenceEnd model_reply.SequenceEnd refl (same old) stands
    (inr (is_early m s old it stands few, (tt, not_young, stands.closed ∙ c.if-self.false, full)))

pub returns-in-Ok-clause-meets : goal.returns-in-Ok-clause-meets
returns-in-Ok-clause-meets g c = λ m ages s sound it stands few.
    let old = c.args.self.now in
    let same_age : m.age_of c.args.piece.piece.properties ≡ g.P.Properties.age c.args.piece.piece.properties = ap (λ f. f c.args.piece.piece.properties) ages in
    let issued : g.P.Properties.age c.properties.result.now ≡ g.P.Properties.age c.args.piece.piece.properties = ap g.P.Properties.age c.properties.ensures ∙ ap (λ r. g.P.Properties.age r.properties) c.deref.ensures in
    let not_young : known_age (m.age_of c.args.piece.piece.properties) ≡ Young → ⊥ =
    (λ young. let e : false ≡ true = c.if-is_young.ensures.1 (issued ∙ sym same_age ∙ known_young (m.age_of c.args.piece.piece.properties) young) in cc) in
    let full : old.settings.submit_queue_size_threshold < min old.queued last_number = omega (arith, c.if-min-self.true, c.min.ensures) in
    let next : it.next ≡ old.next = stands.next in
    let drawn : it.next < last_number = omega (arith, c.if-self-2.false) in
    record {
      after = marked (machine m s sound) it c.args.piece.piece.hash c.in-Ok.sequence;
      it = model_reply.Dropped (content_of m c.args.piece) c.in-Ok.sequence;
      stands = subst (λ h. IsStateOf m s c.draw_mark.new.self (marked (machine m s sound) it h c.in-Ok.sequence)) (c.hash.ensures ∙ ap (λ r. r.hash) c.deref-then-min-self.ensures) (c.in-Ok.ensures.meets m s sound it stands);
      reply = refl;
      turns = (tt, (refl, not_young, crowded m s sound old it stands full, (c.in-Ok.ensures.drawn.0 ∙ sym next, stands.closed ∙ c.if-self.false, drawn, refl)));
    }

pub returns-in-Err-clause-meets : goal.returns-in-Err-clause-meets
returns-in-Err-clause-meets g c = λ m ages s sound it stands few.
    let old = c.args.self.now in
    let same_age : m.age_of c.args.piece.piece.properties ≡ g.P.Properties.age c.args.piece.piece.properties = ap (λ f. f c.args.piece.piece.properties) ages in
    let issued : g.P.Properties.age c.properties.result.now ≡ g.P.Properties.age c.args.piece.piece.properties = ap g.P.Properties.age c.properties.ensures ∙ ap (λ r. g.P.Properties.age r.properties) c.deref.ensures in
    let not_young : known_age (m.age_of c.args.piece.piece.properties) ≡ Young → ⊥ =
    (λ young. let e : false ≡ true = c.if-is_young.ensures.1 (issued ∙ sym same_age ∙ known_young (m.age_of c.args.piece.piece.properties) young) in cc) in
    let full : old.settings.submit_queue_size_threshold < min old.queued last_number = omega (arith, c.if-min-self.true, c.min.ensures) in
    let next : it.next ≡ old.next = stands.next in
    let drawn : it.next < last_number = omega (arith, c.if-self-2.false) in
    refused m s sound (step.Enqueue c.args.piece c.args.size) old _ it kind.Memory model_reply.Memory refl c.in-Err.ensures.refused stands (
      is_early m s old it stands few,
      (
        tt,
        (
          model_reply.Dropped (content_of m c.args.piece) it.next,
          marked (machine m s sound) it c.args.piece.piece.hash it.next,
          (refl, not_young, crowded m s sound old it stands full, (refl, stands.closed ∙ c.if-self.false, drawn, refl)),
          tt,
        ),
      ),
    )

pub returns-then-is_err-clause-meets : goal.returns-then-is_err-clause-meets
returns-then-is_err-clause-meets g c = λ m ages s sound it stands few.
    let old = c.args.self.now in
    let same_age : m.age_of c.args.piece.piece.properties ≡ g.P.Properties.age c.args.piece.piece.properties = ap (λ f. f c.args.piece.piece.properties) ages in
    let issued : g.P.Properties.age c.properties.result.now ≡ g.P.Properties.age c.args.piece.piece.properties = ap g.P.Properties.age c.properties.ensures ∙ ap (λ r. g.P.Properties.age r.properties) c.deref.ensures in
    let not_young : known_age (m.age_of c.args.piece.piece.properties) ≡ Young → ⊥ =
    (λ young. let e : false ≡ true = c.if-is_young.ensures.1 (issued ∙ sym same_age ∙ known_young (m.age_of c.args.piece.piece.properties) young) in cc) in
    let less : min old.queued last_number ≤ old.settings.submit_queue_size_threshold = omega (arith, c.if-min-self.false, c.min.ensures) in
    let taken : (known_age (m.age_of c.args.piece.piece.properties) ≡ Young → ⊥) × (IsCrowded (machine m s sound) it → ⊥) = (not_young, has_room m s sound old it stands less) in
    let next : it.next ≡ old.next = stands.next in
    let drawn : it.next < last_number = omega (arith, c.if-self-2.false) in
    let f = c.args.piece.piece.hash % s.flushers in
    let x = Piece c.args.piece.piece.hash it.next c.args.size (content_of m c.args.piece) in
    refused m s sound (step.Enqueue c.args.piece c.args.size) old _ it kind.Memory model_reply.Memory refl
    (returns-then-is_err-clause-back g c).1 stands (
      is_early m s old it stands few,
      (
        tt,
        (
          model_reply.Queued it.next,
          record it { flushers = put it.flushers f (with_queued (it.flushers f) x); next = it.next + 1 },
          (refl, stands.closed ∙ c.if-self.false, taken, drawn, refl),
          tt,
        ),
      ),
    )

pub returns-clause-meets : goal.returns-clause-meets
returns-clause-meets g c = λ m ages s sound it stands few.
    let old = c.args.self.now in
    let found = c.index_mut.result.now in
    let same_age : m.age_of c.args.piece.piece.properties ≡ g.P.Properties.age c.args.piece.piece.properties = ap (λ f. f c.args.piece.piece.properties) ages in
    let issued : g.P.Properties.age c.properties.result.now ≡ g.P.Properties.age c.args.piece.piece.properties = ap g.P.Properties.age c.properties.ensures ∙ ap (λ r. g.P.Properties.age r.properties) c.deref.ensures in
    let not_young : known_age (m.age_of c.args.piece.piece.properties) ≡ Young → ⊥ =
    (λ young. let e : false ≡ true = c.if-is_young.ensures.1 (issued ∙ sym same_age ∙ known_young (m.age_of c.args.piece.piece.properties) young) in cc) in
    let less : min old.queued last_number ≤ old.settings.submit_queue_size_threshold = omega (arith, c.if-min-self.false, c.min.ensures) in
    let taken : (known_age (m.age_of c.args.piece.piece.properties) ≡ Young → ⊥) × (IsCrowded (machine m s sound) it → ⊥) = (not_young, has_room m s sound old it stands less) in
    let next : it.next ≡ old.next = stands.next in
    let drawn : it.next < last_number = omega (arith, c.if-self-2.false) in
    let count : length old.flushers.items ≡ s.flushers = flushers_count m s old.flushers.items it.flushers stands.flushers in
    let len : vec_len old.flushers ≡ length old.flushers.items = omega arith in
    let at : c.flusher_of-flusher.result ≡ c.args.piece.piece.hash % s.flushers =
    c.flusher_of-flusher.ensures.number ∙ ap (λ h. h % vec_len old.flushers) (c.hash-2.ensures ∙ ap (λ r. r.hash) c.deref-2.ensures) ∙ ap (λ n. c.args.piece.piece.hash % n) (len ∙ count) in
    let within : c.flusher_of-flusher.result < length old.flushers.items = omega (arith, c.flusher_of-flusher.ensures.within) in
    let there : c.args.piece.piece.hash % s.flushers < s.flushers = subst (λ k. k < s.flushers) at (subst (λ n. c.flusher_of-flusher.result < n) count within) in
    let f = c.args.piece.piece.hash % s.flushers in
    let x = Piece c.args.piece.piece.hash old.next c.args.size (content_of m c.args.piece) in
    let bound : old.queued ≤ old.next * 2 ^ 64 = stands.queued.bound in
    let more : c.saturating_add-self.result ≡ old.queued + (c.args.size + 0) = omega (arith, c.saturating_add-self.ensures, c.ranges.size.fits) in
    record {
      after = record it { flushers = put it.flushers f (with_queued (it.flushers f) x); next = old.next + 1 };
      it = model_reply.Queued old.next;
      stands = record {
        sizes = stands.sizes;
        index = stands.index;
        next = refl;
        steps = stands.steps;
        closed = stands.closed;
        flushers = queue_pushed_at m s old.flushers.items it.flushers c.flusher_of-flusher.result f found _ (CacheEntry c.args.piece c.args.size old.next) x
            at refl stands.flushers within c.index_mut.ensures.value
            (ap (λ q. record (seen found) { queue = q }) (c.push_back_reserved.ensures.items ∙ ap (λ q. q ++ CacheEntry c.args.piece c.args.size old.next ∷ []) c.reserve.ensures.items));
        queued = size_grown s it.flushers f x old.queued old.next c.saturating_add-self.result (old.next + 1) stands.queued there more (omega arith);
        manager = managed_kept s f it old.manager (with_queued (it.flushers f) x) (record { own = refl; ready = refl }) stands.manager;
        has = blocks_kept s f it (with_queued (it.flushers f) x) (record { own = refl; ready = refl }) stands.has;
        reclaims = stands.reclaims;
        destroy = stands.destroy;
      };
      reply = refl;
      turns = (tt, (sym next, stands.closed ∙ c.if-self.false, taken, drawn, refl));
    }
