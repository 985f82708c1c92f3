use Rattle.std.proofs.Common.{◌≡◌, Some, None, slice_get, refl, ap, sym, subst, ◌∙◌}
use Rattle.std.specs.FinMap as finite
use Rattle.foyer_block_index.specs.declared.indexer.Index.TheVariants.{Address}
use Rattle.foyer_core_model.specs.Load.{Looks, accessed}
use Rattle.foyer_core_model.specs.Numbers.{put}
use Rattle.foyer_core_model.specs.Record.{Indexed}
use Rattle.foyer_core_model.specs.Reply as model_reply
use Rattle.foyer_block_manager.specs.BlockSets.{IsBlockAs}
use Rattle.foyer_core_flusher.specs.Addresses.{address_of}
use Rattle.foyer_core_steps.specs.Asked.{ticket_of}
use Rattle.foyer_core_flusher.specs.CoreRules.{machine}
use Rattle.foyer_core_flusher.specs.Standing.{slot_of, IsIndexedAs, sets_of}
use Rattle.foyer_core_steps.specs.declared.step.Ticket.{Ticket}
use Rattle.foyer_core_flusher.proofs.SlotLemmas.{held_address, index_removed, without_itself}
use Rattle.foyer_core_steps.proofs.state.Core.load_begin.Goals as goal

pub returns-then-address-state-clause-meets : goal.returns-then-address-state-clause-meets
returns-then-address-state-clause-meets g c = λ m s sound it stands few.
    let old = c.args.self.now in
    let a = c.in-Some.address in
    let held : finite.get old.index.slots c.args.hash ≡ Some (Address a) = held_address (finite.get old.index.slots c.args.hash) a (sym c.in-Some.ensures) in
    let slot : it.index c.args.hash ≡ Some (Indexed (address_of a)) = stands.index.slot c.args.hash ∙ ap slot_of held in
    let found = c.in-Some-known.state in
    let at : slice_get old.manager.blocks a.block ≡ Some found = sym c.known.ensures ∙ c.in-Some-known.is in
    let known : IsBlockAs found (it.place a.block) (it.filling a.block) (it.stats a.block) = stands.manager.sets.blocks a.block found at in
    record {
      after = record it { index = put it.index c.args.hash None };
      it = model_reply.Miss;
      stands = record {
        sizes = stands.sizes;
        index = subst (λ o. IsIndexedAs s c.remove.new.self.slots (put it.index c.args.hash o)) (without_itself (address_of a) (it.index c.args.hash) slot)
            (index_removed s old.index.slots c.remove.new.self.slots it.index c.args.hash a c.remove.result c.remove.ensures.answer c.remove.ensures.removed c.remove.ensures.unchanged stands.index);
        next = stands.next;
        steps = stands.steps;
        closed = stands.closed;
        flushers = stands.flushers;
        queued = stands.queued;
        manager = stands.manager;
        has = stands.has;
        reclaims = stands.reclaims;
        destroy = stands.destroy;
      };
      reply = refl;
      turns = (
        tt,
        subst (λ o. Looks (machine m s sound) it c.args.hash c.args.throttled o model_reply.Miss (record it { index = put it.index c.args.hash None })) (sym slot)
            (c.if-throttled.false, (λ same. c.if-address-state.true (same ∙ known.filling)), refl),
      );
    }

pub returns-clause-meets : goal.returns-clause-meets
returns-clause-meets g c = λ m s sound it stands few.
    let old = c.args.self.now in
    let a = c.in-Some.address in
    let held : finite.get old.index.slots c.args.hash ≡ Some (Address a) = held_address (finite.get old.index.slots c.args.hash) a (sym c.in-Some.ensures) in
    let slot : it.index c.args.hash ≡ Some (Indexed (address_of a)) = stands.index.slot c.args.hash ∙ ap slot_of held in
    let found = c.in-Some-known.state in
    let at : slice_get old.manager.blocks a.block ≡ Some found = sym c.known.ensures ∙ c.in-Some-known.is in
    let known : IsBlockAs found (it.place a.block) (it.filling a.block) (it.stats a.block) = stands.manager.sets.blocks a.block found at in
    let ticket : Ticket = record { hash = c.args.hash; address = a } in
    record {
      after = record it { stats = accessed (machine m s sound) it a.block };
      it = model_reply.Read (ticket_of ticket);
      stands = record {
        sizes = stands.sizes;
        index = stands.index;
        next = stands.next;
        steps = stands.steps;
        closed = stands.closed;
        flushers = stands.flushers;
        queued = stands.queued;
        manager = record {
          blocks = c.note_access.ensures.same.blocks ∙ stands.manager.blocks;
          flushers = c.note_access.ensures.same.flushers ∙ stands.manager.flushers;
          reclaimers = c.note_access.ensures.same.reclaimers ∙ stands.manager.reclaimers;
          clean_threshold = c.note_access.ensures.same.clean_threshold ∙ stands.manager.clean_threshold;
          sets = c.note_access.ensures.access (sets_of it) stands.manager.sets;
        };
        has = stands.has;
        reclaims = stands.reclaims;
        destroy = stands.destroy;
      };
      reply = refl;
      turns = (
        tt,
        subst (λ o. Looks (machine m s sound) it c.args.hash c.args.throttled o (model_reply.Read (ticket_of ticket)) (record it { stats = accessed (machine m s sound) it a.block })) (sym slot)
            (c.if-throttled.false, (c.if-address-state.false ∙ sym known.filling), refl, refl),
      );
    }
