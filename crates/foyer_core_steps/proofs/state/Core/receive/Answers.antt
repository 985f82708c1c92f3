use Rattle.std.proofs.Common.{◌≡◌, ◌-◌, ◌<◌, length, [], None, Ok, refl, sym, subst, arith}
use Rattle.foyer_block_index.proofs.Rooms.{kept_itself}
use Rattle.foyer_device_page.specs.declared.error.ErrorKind.TheVariants as kind
use Rattle.foyer_core_model.specs.Receive.{turned, TakesFront as TakesOne}
use Rattle.foyer_core_model.specs.Reply as model_reply
use Rattle.foyer_core_flusher.specs.Content.{meaning}
use Rattle.foyer_core_flusher.specs.Flushing.{IsFlusherAs}
use Rattle.foyer_core_flusher.specs.CoreRules.{machine}
use Rattle.foyer_core_flusher.specs.Content.{returned}
use Rattle.foyer_core_flusher.specs.Taking.{IsReceivedAs, TakesFront}
use Rattle.foyer_core_flusher.specs.Seen.{seen}
use Rattle.foyer_core_flusher.proofs.SetsLemmas.{managed_kept, blocks_kept}
use Rattle.foyer_core_flusher.specs.Standing.{IsIndexedAs}
use Rattle.foyer_core_steps.specs.declared.step.Step.TheVariants as step
use Rattle.foyer_core_steps.proofs.QueueLemmas.{size_shrunk}
use Rattle.foyer_core_steps.proofs.StateLemmas.{flushers_count, flusher_at, flusher_kept, flusher_put}
use Rattle.foyer_core_steps.proofs.TurnLemmas.{is_early, refused, not_now}
use Rattle.foyer_core_steps.proofs.FlusherLists.{same_seen}
use Rattle.foyer_core_steps.proofs.state.Core.receive.Goals as goal

pub returns-in-Err-clause-back : goal.returns-in-Err-clause-back
returns-in-Err-clause-back g c =
    let found = c.index_mut-found.result.now in (
      refl,
      record {
        index = c.in-Err.ensures.kept;
        next = refl;
        steps = refl;
        closed = refl;
        queued = refl;
        settings = refl;
        flushers = same_seen c.args.self.now.flushers.items c.args.flusher found c.receive.new.self
            c.index_mut-found.ensures.value c.in-Err.ensures.refused;
        manager = refl;
        reclaims = λ b. refl;
        destroy = refl;
      },
    )

pub returns-then-flusher-len-clause-meets : goal.returns-then-flusher-len-clause-meets
returns-then-flusher-len-clause-meets g c = λ age_of s sound it stands few.
    let m = meaning g.K.Code.encoding g.V.Code.encoding g.K.Code.is_encodable g.V.Code.is_encodable g.K.Code.is_decodable g.V.Code.is_decodable age_of in
    let old = c.args.self.now in
    let f = c.args.flusher in
    let count : length old.flushers.items ≡ s.flushers = flushers_count m s old.flushers.items it.flushers stands.flushers in
    not_now m s sound (step.Receive f) old _ it (record {
      index = kept_itself c.args.self.now.index;
      next = refl;
      steps = refl;
      closed = refl;
      queued = refl;
      settings = refl;
      flushers = refl;
      manager = refl;
      reclaims = λ b. refl;
      destroy = refl;
    }) stands (is_early m s old it stands few, (λ draws. absurd draws), (λ turn. let lt : f < s.flushers = turn in omega (arith, c.len.ensures, c.if-flusher-len.true)))

pub returns-in-Err-clause-meets : goal.returns-in-Err-clause-meets
returns-in-Err-clause-meets g c = λ age_of s sound it stands few.
    let m = meaning g.K.Code.encoding g.V.Code.encoding g.K.Code.is_encodable g.V.Code.is_encodable g.K.Code.is_decodable g.V.Code.is_decodable age_of in
    let old = c.args.self.now in
    let f = c.args.flusher in
    let count : length old.flushers.items ≡ s.flushers = flushers_count m s old.flushers.items it.flushers stands.flushers in
    let within : f < length old.flushers.items = omega (arith, c.len.ensures, c.if-flusher-len.false) in
    let there : f < s.flushers = omega arith in
    let found = c.index_mut-found.result.now in
    let before : IsFlusherAs m s (seen found) (it.flushers f) = flusher_at m s old.flushers.items it.flushers f found stands.flushers within c.index_mut-found.ensures.value in
    refused m s sound (step.Receive f) old _ it kind.Memory model_reply.Memory refl (returns-in-Err-clause-back g c).1 stands
    (is_early m s old it stands few, (there, c.in-Err.ensures.takes age_of s sound it f before stands.index))

pub returns-in-Ok-Nothing-clause-meets : goal.returns-in-Ok-Nothing-clause-meets
returns-in-Ok-Nothing-clause-meets g c = λ age_of s sound it stands few.
    let m = meaning g.K.Code.encoding g.V.Code.encoding g.K.Code.is_encodable g.V.Code.is_encodable g.K.Code.is_decodable g.V.Code.is_decodable age_of in
    let old = c.args.self.now in
    let f = c.args.flusher in
    let count : length old.flushers.items ≡ s.flushers = flushers_count m s old.flushers.items it.flushers stands.flushers in
    let within : f < length old.flushers.items = omega (arith, c.len.ensures, c.if-flusher-len.false) in
    let there : f < s.flushers = omega arith in
    let found = c.index_mut-found.result.now in
    let before : IsFlusherAs m s (seen found) (it.flushers f) = flusher_at m s old.flushers.items it.flushers f found stands.flushers within c.index_mut-found.ensures.value in
    let none : ((it.flushers f).queue ≡ []) × IsFlusherAs m s (seen c.receive.new.self) (it.flushers f) × IsIndexedAs s c.receive.new.index.slots it.index =
    subst (λ x. TakesFront m s sound it f (Ok x) c.receive.new.self c.receive.new.index.slots) c.in-Ok-Nothing.field-0-is (c.in-Ok-Nothing.ensures.takes age_of s sound it f before stands.index) in
    record {
      after = it;
      it = model_reply.Empty;
      stands = record {
        sizes = stands.sizes;
        index = none.2;
        next = stands.next;
        steps = stands.steps;
        closed = stands.closed;
        flushers = flusher_kept m s old.flushers.items it.flushers f c.receive.new.self stands.flushers within none.1;
        queued = stands.queued;
        manager = stands.manager;
        has = stands.has;
        reclaims = stands.reclaims;
        destroy = stands.destroy;
      };
      reply = refl;
      turns = (there, subst (λ q. TakesOne (machine m s sound) it f q model_reply.Empty it) (sym none.0) refl);
    }

pub returns-in-Ok-Other-clause-meets : goal.returns-in-Ok-Other-clause-meets
returns-in-Ok-Other-clause-meets g c = λ age_of s sound it stands few.
    let m = meaning g.K.Code.encoding g.V.Code.encoding g.K.Code.is_encodable g.V.Code.is_encodable g.K.Code.is_decodable g.V.Code.is_decodable age_of in
    let old = c.args.self.now in
    let f = c.args.flusher in
    let count : length old.flushers.items ≡ s.flushers = flushers_count m s old.flushers.items it.flushers stands.flushers in
    let within : f < length old.flushers.items = omega (arith, c.len.ensures, c.if-flusher-len.false) in
    let there : f < s.flushers = omega arith in
    let found = c.index_mut-found.result.now in
    let before : IsFlusherAs m s (seen found) (it.flushers f) = flusher_at m s old.flushers.items it.flushers f found stands.flushers within c.index_mut-found.ensures.value in
    let taken : IsReceivedAs m s sound it f 0 None c.receive.new.self c.receive.new.index.slots =
    subst (λ x. TakesFront m s sound it f (Ok x) c.receive.new.self c.receive.new.index.slots) c.in-Ok-Other.field-0-is (c.in-Ok-Other.ensures.takes age_of s sound it f before stands.index) in
    let all : old.queued ≡ old.queued - 0 = omega arith in
    record {
      after = record (turned (machine m s sound) it f taken.after) { index = taken.index };
      it = model_reply.Received None;
      stands = record {
        sizes = stands.sizes;
        index = taken.indexed;
        next = stands.next;
        steps = stands.steps;
        closed = stands.closed;
        flushers = flusher_put m s old.flushers.items it.flushers f c.receive.new.self taken.after stands.flushers within taken.stands;
        queued = size_shrunk s it.flushers f taken.after old.queued 0 old.queued old.next stands.queued there taken.size_is all;
        manager = managed_kept s f it old.manager taken.after taken.keeps stands.manager;
        has = blocks_kept s f it taken.after taken.keeps stands.has;
        reclaims = stands.reclaims;
        destroy = stands.destroy;
      };
      reply = refl;
      turns = (there, taken.receives);
    }

pub returns-in-Ok-Piece-clause-meets : goal.returns-in-Ok-Piece-clause-meets
returns-in-Ok-Piece-clause-meets g c = λ age_of s sound it stands few.
    let m = meaning g.K.Code.encoding g.V.Code.encoding g.K.Code.is_encodable g.V.Code.is_encodable g.K.Code.is_decodable g.V.Code.is_decodable age_of in
    let old = c.args.self.now in
    let f = c.args.flusher in
    let count : length old.flushers.items ≡ s.flushers = flushers_count m s old.flushers.items it.flushers stands.flushers in
    let within : f < length old.flushers.items = omega (arith, c.len.ensures, c.if-flusher-len.false) in
    let there : f < s.flushers = omega arith in
    let found = c.index_mut-found.result.now in
    let before : IsFlusherAs m s (seen found) (it.flushers f) = flusher_at m s old.flushers.items it.flushers f found stands.flushers within c.index_mut-found.ensures.value in
    let taken : IsReceivedAs m s sound it f c.in-Ok-Piece.size (returned m c.in-Ok-Piece.back) c.receive.new.self c.receive.new.index.slots =
    subst (λ x. TakesFront m s sound it f (Ok x) c.receive.new.self c.receive.new.index.slots) c.in-Ok-Piece.field-0-is (c.in-Ok-Piece.ensures.takes age_of s sound it f before stands.index) in
    record {
      after = record (turned (machine m s sound) it f taken.after) { index = taken.index };
      it = model_reply.Received (returned m c.in-Ok-Piece.back);
      stands = record {
        sizes = stands.sizes;
        index = taken.indexed;
        next = stands.next;
        steps = stands.steps;
        closed = stands.closed;
        flushers = flusher_put m s old.flushers.items it.flushers f c.receive.new.self taken.after stands.flushers within taken.stands;
        queued = size_shrunk s it.flushers f taken.after old.queued c.in-Ok-Piece.size c.saturating_sub-self.result old.next stands.queued there taken.size_is c.saturating_sub-self.ensures;
        manager = managed_kept s f it old.manager taken.after taken.keeps stands.manager;
        has = blocks_kept s f it taken.after taken.keeps stands.has;
        reclaims = stands.reclaims;
        destroy = stands.destroy;
      };
      reply = refl;
      turns = (there, taken.receives);
    }
