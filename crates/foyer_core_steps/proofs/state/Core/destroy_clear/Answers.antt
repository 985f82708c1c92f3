use Rattle.std.proofs.Common.{◌≡◌, length, map, [], None, refl, sym, ap, ◌∙◌, arith}
use Rattle.std.proofs.lemmas.Bool.{false≢true}
use Rattle.foyer_device_page.specs.declared.error.ErrorKind.TheVariants as kind
use Rattle.foyer_core_model.specs.Ids.{ids}
use Rattle.foyer_core_model.specs.Reply as model_reply
use Rattle.foyer_core_flusher.specs.Settings.{Settings}
use Rattle.foyer_core_flusher.specs.Standing.{sets_of}
use Rattle.foyer_core_flusher.specs.Cleared.{are_still, cleared}
use Rattle.foyer_core_flusher.specs.Seen.{seen}
use Rattle.foyer_core_steps.specs.declared.step.Step.TheVariants as step
use Rattle.foyer_core_steps.proofs.DestroySteps.{may_clear, must_be_still, must_run_none, after_clear, clears, lent_all, all_left}
use Rattle.foyer_block_manager.specs.Shown.{written_below}
use Rattle.foyer_core_steps.proofs.ShowingLemmas.{all_back}
use Rattle.foyer_core_steps.proofs.FlushTurns.{not_now}
use Rattle.foyer_core_steps.proofs.TurnLemmas.{is_early, same, refused}
use Rattle.foyer_core_steps.proofs.state.Core.destroy_clear.Goals as goal

pub returns-then-not-are_idle-clause-meets : goal.returns-then-not-are_idle-clause-meets
returns-then-not-are_idle-clause-meets g c = λ m s sound it stands few.
    let core = c.args.self.now in
    not_now m s sound core _ it step.DestroyClear (same core) stands few (λ d. d)
    (λ may. false≢true (sym c.if-not-are_idle.true ∙ c.are_idle.ensures ∙ ap are_still c.deref.ensures.value ∙ must_be_still m s sound core it stands may))

pub returns-then-not-wait_reclaim-clause-meets : goal.returns-then-not-wait_reclaim-clause-meets
returns-then-not-wait_reclaim-clause-meets g c = λ m s sound it stands few.
    let core = c.args.self.now in
    not_now m s sound core _ it step.DestroyClear (same core) stands few (λ d. d)
    (λ may. false≢true (sym c.if-not-wait_reclaim.true ∙ c.wait_reclaim.ensures (sets_of it) (stands.manager).sets ∙ must_run_none m s sound core it stands may))

pub returns-in_default-full-clause-meets : goal.returns-in_default-full-clause-meets
returns-in_default-full-clause-meets g c = λ m s sound it stands few.
    let core = c.args.self.now in
    let may = may_clear m s sound core it stands c.in-Begun.is (sym (c.are_idle.ensures ∙ ap are_still c.deref.ensures.value) ∙ c.if-not-are_idle.false) (sym (c.wait_reclaim.ensures (sets_of it) (stands.manager).sets) ∙ c.if-not-wait_reclaim.false) in
    refused m s sound step.DestroyClear core _ it kind.Memory model_reply.Memory refl (same core) stands
    (is_early m s core it stands few, (may, (model_reply.Cleared (ids s.blocks), after_clear m s sound core it stands, (refl, refl), tt)))

pub returns-clause-meets : goal.returns-clause-meets
returns-clause-meets g c = λ m s sound it stands few.
    let core = c.args.self.now in
    let may = may_clear m s sound core it stands c.in-Begun.is (sym (c.are_idle.ensures ∙ ap are_still c.deref.ensures.value) ∙ c.if-not-are_idle.false) (sym (c.wait_reclaim.ensures (sets_of it) (stands.manager).sets) ∙ c.if-not-wait_reclaim.false) in
    let same_count : length c.clear_all.new.flushers ≡ length core.flushers.items = c.clear_all.auto.flushers ∙ ap length c.deref_mut-2.ensures.value in
    record {
      after = after_clear m s sound core it stands;
      it = model_reply.Cleared (ids s.blocks);
      stands = clears m s sound core it stands _ [] may refl refl refl refl refl c.clear.ensures
          (ap (map seen) (lent_all core.flushers.len c.clear_all.new.flushers core.flushers.items same_count core.flushers.ok.0) ∙ c.clear_all.ensures ∙ ap (λ l. map cleared (map seen l)) c.deref_mut-2.ensures.value)
          c.clear-2.ensures.same (c.clear-2.ensures.cleared (sets_of it) (stands.manager).sets) (λ b. refl)
          (ids s.blocks, None, all_left m s sound core it stands c.in-Ok.left.ids (c.in-Ok.ensures.all ∙ ap (λ (k : Settings). ids k.blocks) stands.sizes), refl, refl);
      reply = (ids s.blocks, refl);
      turns = (may, (refl, refl));
    }

pub returns-clause-shown : goal.returns-clause-shown
returns-clause-shown g c =
    let blocks = c.args.self.now.manager.blocks in
    all_back g.E.EvictionPicker.learns (written_below blocks (length blocks)) c.args.env.now.pickers.len c.args.env.now.pickers.items c.deref_mut.result.now c.clear-2.new.pickers
    c.deref_mut.ensures.value (omega (arith, c.args.env.now.pickers.ok.0)) c.clear-2.ensures.shown
