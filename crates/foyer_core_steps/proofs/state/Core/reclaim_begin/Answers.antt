use Rattle.std.proofs.Common.{◌≡◌, ◌<◌, ℕ, true, false, IsTrue, List, [], Option, Some, option_map, length, if◌then◌else◌, nat_eq, slice_get, refl, sym, ap, subst, ◌∙◌, arith}
use Rattle.foyer_block_index.proofs.Rooms.{kept_itself}
use Rattle.foyer_device_page.specs.declared.error.ErrorKind.TheVariants as kind
use Rattle.foyer_core_model.specs.Numbers.{put}
use Rattle.foyer_core_model.specs.Reclaim as model_reclaim
use Rattle.foyer_core_model.specs.Reply as model_reply
use Rattle.foyer_core_model.specs.State as model_state
use Rattle.foyer_block_manager.specs.Pickers.{Answer, answers_of, answers_given, marks_given, picker_info, pick_of}
use Rattle.foyer_block_manager.specs.BlockSets.{BlockSets, Stands, MayReclaim}
use Rattle.foyer_block_manager.specs.Managed.{is_evictable}
use Rattle.foyer_block_manager.specs.ModelPicks.{MatchTheModel}
use Rattle.foyer_block_manager.specs.Picks.{Picks, usable_in}
use Rattle.foyer_block_manager.proofs.ModelPickLemmas.{picks_match}
use Rattle.foyer_core_flusher.specs.Standing.{sets_of}
use Rattle.foyer_core_steps.specs.Reclaiming.{Reclaiming, ChangesReclaim, reclaim_at, reclaiming, first_reclaim}
use Rattle.foyer_core_steps.specs.declared.step.Step.TheVariants as step
use Rattle.foyer_core_steps.proofs.ReclaimEnds.{picked, after_pick, asked_by_all}
use Rattle.foyer_core_steps.proofs.ReclaimSteps.{may_begin, must_begin, would_begin, evictable_there}
use Rattle.foyer_core_steps.proofs.ShowingLemmas.{all_back, one_back}
use Rattle.foyer_core_steps.proofs.TurnLemmas.{is_early, refused, not_now}
use Rattle.foyer_core_steps.proofs.state.Core.reclaim_begin.Goals as goal

pub returns-then-not-may_reclaim-clause-meets : goal.returns-then-not-may_reclaim-clause-meets
returns-then-not-may_reclaim-clause-meets g c = λ m s sound it stands few.
    let core = c.args.self.now in
    not_now m s sound step.ReclaimBegin core _ it (record { index = kept_itself c.args.self.now.index; next = refl; steps = refl; closed = refl; queued = refl; settings = refl; flushers = refl; manager = refl; reclaims = λ b. refl; destroy = refl }) stands (
      is_early m s core it stands few,
      (λ draws. absurd draws),
      (λ turn.
          let yes : IsTrue c.may_reclaim.result = (c.may_reclaim.ensures.may (sets_of it) stands.manager.sets).1 (must_begin m s sound core it stands turn) in
          let no_one : IsTrue false = subst IsTrue c.if-not-may_reclaim.true yes in absurd (let clash : false ≡ true = no_one in cc)),
    )

pub returns-in_default-clause-meets : goal.returns-in_default-clause-meets
returns-in_default-clause-meets g c = λ m s sound it stands few.
    let core = c.args.self.now in
    refused m s sound step.ReclaimBegin core _ it kind.Memory model_reply.Memory refl
    (record { index = kept_itself c.args.self.now.index; next = refl; steps = refl; closed = refl; queued = refl; settings = refl; flushers = refl; manager = refl; reclaims = λ b. ap (option_map reclaiming) (c.reserve.ensures.entries.2 b); destroy = refl }) stands
    (is_early m s core it stands few, would_begin m s sound core it stands ((c.may_reclaim.ensures.may (sets_of it) stands.manager.sets).0 c.if-not-may_reclaim.false))

pub returns-then-is_err-clause-meets : goal.returns-then-is_err-clause-meets
returns-then-is_err-clause-meets g c = λ m s sound it stands few.
    let core = c.args.self.now in
    refused m s sound step.ReclaimBegin core _ it kind.Memory model_reply.Memory refl
    (record { index = kept_itself c.args.self.now.index; next = refl; steps = refl; closed = refl; queued = refl; settings = refl; flushers = refl; manager = refl; reclaims = λ b. ap (option_map reclaiming) (c.reserve.ensures.entries.2 b); destroy = refl }) stands
    (is_early m s core it stands few, would_begin m s sound core it stands ((c.may_reclaim.ensures.may (sets_of it) stands.manager.sets).0 c.if-not-may_reclaim.false))

pub returns-in-Err-clause-meets : goal.returns-in-Err-clause-meets
returns-in-Err-clause-meets g c = λ m s sound it stands few.
    let core = c.args.self.now in
    refused m s sound step.ReclaimBegin core _ it kind.Memory model_reply.Memory refl
    (record { index = kept_itself c.args.self.now.index; next = refl; steps = refl; closed = refl; queued = refl; settings = refl; flushers = refl; manager = c.in-Err.ensures.unchanged.0; reclaims = λ b. ap (option_map reclaiming) (c.reserve.ensures.entries.2 b); destroy = refl }) stands
    (is_early m s core it stands few, would_begin m s sound core it stands ((c.may_reclaim.ensures.may (sets_of it) stands.manager.sets).0 c.if-not-may_reclaim.false))

pub returns-in-Ok-None-clause-meets : goal.returns-in-Ok-None-clause-meets
returns-in-Ok-None-clause-meets g c = λ m s sound it stands few.
    absurd ((c.in-Ok-None.ensures.none c.in-Ok-None.field-0-is).1 (sets_of it) stands.manager.sets ((c.may_reclaim.ensures.may (sets_of it) stands.manager.sets).0 c.if-not-may_reclaim.false))

pub returns-in-Ok-Some-clause-meets : goal.returns-in-Ok-Some-clause-meets
returns-in-Ok-Some-clause-meets g c = λ m s sound it stands few.
    let core = c.args.self.now in
    let r = c.in-Ok-Some.reclaiming in
    let says : List Answer = answers_of g.E.EvictionPicker.answer g.E.EvictionPicker.marks c.deref_mut.result.now (picker_info core.manager.blocks core.manager.evictable (usable_in core.manager)) in
    let flag : is_evictable (slice_get core.manager.blocks r.block) ≡ true = rw c.in-Ok-Some.field-0-is at c.in-Ok-Some.ensures.there in
    let there = evictable_there core.manager (sets_of it) r.block stands.manager.sets flag in
    let match : MatchTheModel core.manager (sets_of it) says = picks_match core.manager (sets_of it) stands.manager.sets says in
    let answered : r.answers.items ≡ answers_given core.manager.blocks says = rw c.in-Ok-Some.field-0-is at c.in-Ok-Some.ensures.answers in
    let first : (d : ℕ) → pick_of core.manager.blocks says ≡ Some d → r.block ≡ d = rw c.in-Ok-Some.field-0-is at c.in-Ok-Some.ensures.first in
    let after : (sets : BlockSets) → Stands core.manager sets → Stands c.reclaim_begin.new.self (record sets { block_set = put sets.block_set r.block model_state.Reclaims; stats = model_reclaim.marked r.probation.items sets.block_set sets.stats }) =
    rw c.in-Ok-Some.field-0-is at c.in-Ok-Some.ensures.after in
    let changes : ChangesReclaim core.reclaims c.begin.new.reclaims r.block (Some (first_reclaim r.block c.filling_of.result (record { block = core.settings.block_size; index = core.settings.blob_index_size }))) =
    λ q. c.begin.ensures q ∙ ap (λ (x : Reclaiming). if nat_eq q r.block then Some x else reclaim_at c.reserve.new.self q) c.new-begun.ensures
    ∙ ap (λ (o : Option Reclaiming). if nat_eq q r.block then Some (first_reclaim r.block c.filling_of.result (record { block = core.settings.block_size; index = core.settings.blob_index_size })) else o)
    (ap (option_map reclaiming) (c.reserve.ensures.entries.2 q)) in
    record {
      after = after_pick m s sound core it stands r.block r.probation.items;
      it = model_reply.Picked r.block r.answers.items r.probation.items;
      stands = picked m s sound core it stands r.block _ r.probation.items c.filling_of.result (record { settings = refl; next = refl; steps = refl; closed = refl; queued = refl; flushers = refl; destroy = refl }) refl
          c.reclaim_begin.ensures.same (after (sets_of it) stands.manager.sets) c.filling_of.ensures changes there.0 there.1;
      reply = refl;
      turns = (
        may_begin m s sound core it stands ((c.may_reclaim.ensures.may (sets_of it) stands.manager.sets).0 c.if-not-may_reclaim.false),
        (
          subst (λ n. r.block < n) stands.manager.blocks there.0,
          there.1,
          subst (λ n. model_reclaim.are_asked (length r.answers.items) n it.place r.answers.items ≡ true) stands.manager.blocks
              (asked_by_all (length says) (length core.manager.blocks) it.place r.answers.items
              (subst (λ l. model_reclaim.are_asked (length says) (length core.manager.blocks) it.place l ≡ true) (sym answered) match.answers_match)),
          (λ d is. first d (sym match.pick_matches
              ∙ subst (λ l. model_reclaim.first_pick (length core.manager.blocks) it.place l ≡ Some d) answered
              (subst (λ n. model_reclaim.first_pick n it.place r.answers.items ≡ Some d) (sym stands.manager.blocks) is))),
          refl,
        ),
      );
    }

pub returns-in-Ok-Some-clause-picks : goal.returns-in-Ok-Some-clause-picks
returns-in-Ok-Some-clause-picks g c = λ sets st.
    let core = c.args.self.now in
    let r = c.in-Ok-Some.reclaiming in
    let says : List Answer = answers_of g.E.EvictionPicker.answer g.E.EvictionPicker.marks c.deref_mut.result.now (picker_info core.manager.blocks core.manager.evictable (usable_in core.manager)) in
    let flag : is_evictable (slice_get core.manager.blocks r.block) ≡ true = rw c.in-Ok-Some.field-0-is at c.in-Ok-Some.ensures.there in
    let there = evictable_there core.manager sets r.block st flag in
    let match : MatchTheModel core.manager sets says = picks_match core.manager sets st says in
    let answered : r.answers.items ≡ answers_given core.manager.blocks says = rw c.in-Ok-Some.field-0-is at c.in-Ok-Some.ensures.answers in
    let marked : r.probation.items ≡ marks_given core.manager.blocks says = rw c.in-Ok-Some.field-0-is at c.in-Ok-Some.ensures.probation in
    let first : (d : ℕ) → pick_of core.manager.blocks says ≡ Some d → r.block ≡ d = rw c.in-Ok-Some.field-0-is at c.in-Ok-Some.ensures.first in
    let after : (k : BlockSets) → Stands core.manager k → Stands c.reclaim_begin.new.self (record k { block_set = put k.block_set r.block model_state.Reclaims; stats = model_reclaim.marked r.probation.items k.block_set k.stats }) =
    rw c.in-Ok-Some.field-0-is at c.in-Ok-Some.ensures.after in
    subst (λ (pickers : List g.row.E.Denot). MayReclaim (length core.manager.blocks) core.manager.reclaimers core.manager.clean_threshold sets
    × Picks core.manager sets (answers_of g.E.EvictionPicker.answer g.E.EvictionPicker.marks pickers (picker_info core.manager.blocks core.manager.evictable (usable_in core.manager))) r.block r.answers.items r.probation.items c.reclaim_begin.new.self)
    c.deref_mut.ensures.value (
      (c.may_reclaim.ensures.may sets st).0 c.if-not-may_reclaim.false,
      record {
        there = there.0;
        evictable = there.1;
        answers_are = answered;
        probation_is = marked;
        are_asked = subst (λ l. model_reclaim.are_asked (length says) (length core.manager.blocks) sets.block_set l ≡ true) (sym answered) match.answers_match;
        first = λ d is. first d (sym match.pick_matches ∙ subst (λ l. model_reclaim.first_pick (length core.manager.blocks) sets.block_set l ≡ Some d) answered is);
        after = after sets st;
      },
    )

pub returns-in-Err-clause-shown : goal.returns-in-Err-clause-shown
returns-in-Err-clause-shown g c =
    all_back g.E.EvictionPicker.learns [] c.args.env.now.pickers.len c.args.env.now.pickers.items c.deref_mut.result.now c.reclaim_begin.new.pickers
    c.deref_mut.ensures.value (omega (arith, c.args.env.now.pickers.ok.0)) c.in-Err.ensures.unchanged.1

pub returns-in-Ok-Some-clause-shown : goal.returns-in-Ok-Some-clause-shown
returns-in-Ok-Some-clause-shown g c =
    let after = c.reclaim_begin.new.self in
    one_back g.E.EvictionPicker.forgets (picker_info after.blocks after.evictable (usable_in after)) (c.in-Ok-Some.reclaiming).block c.args.env.now.pickers.len c.args.env.now.pickers.items c.deref_mut.result.now c.reclaim_begin.new.pickers
    c.deref_mut.ensures.value (omega (arith, c.args.env.now.pickers.ok.0)) (rw c.in-Ok-Some.field-0-is at c.in-Ok-Some.ensures.shown)
