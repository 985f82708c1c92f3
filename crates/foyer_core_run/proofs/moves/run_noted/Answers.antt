use Rattle.std.proofs.Common.{◌≡◌, ◌+◌, ◌++◌, ◌∷◌, [], None, false, arith, length, replicate, sym, ap, subst, ◌∙◌}
use Rattle.foyer_core_model.specs.World.{after_all}
use Rattle.foyer_core_laws.specs.Content.{meaning}
use Rattle.foyer_core_laws.specs.CoreRules.{machine}
use Rattle.foyer_core_run.specs.Causes.{HasCome}
use Rattle.foyer_core_run.specs.Runs.{IsFront, IsRunNoted}
use Rattle.foyer_core_run.proofs.CauseLemmas.{come_before, come_behind}
use Rattle.foyer_core_run.proofs.ListLemmas.{append_none, append_twice, empty_is, pushed_count}
use Rattle.foyer_core_run.proofs.RunLemmas.{IsGoing, err_is, front_none, front_of, going_begun, going_on, going_sure, gone_noted, moved_sure}
use Rattle.foyer_core_run.proofs.moves.run_noted.Goals as goal

pub returns-in_err-kept-clause-front : goal.returns-in_err-kept-clause-front
returns-in_err-kept-clause-front g c = λ known.
    let m = meaning g.K.Code.encoding g.V.Code.encoding g.K.Code.is_encodable g.V.Code.is_encodable g.K.Code.is_decodable g.V.Code.is_decodable g.P.Properties.age in
    err_is c.from_residual.result (front_none m c.args.moves.items c.args.core.now (g.D.Disk.byte_at c.args.disk.now))

pub loop-x-init : goal.loop-x-init
loop-x-init g c =
    let m = meaning g.K.Code.encoding g.V.Code.encoding g.K.Code.is_encodable g.V.Code.is_encodable g.K.Code.is_decodable g.V.Code.is_decodable g.P.Properties.age in
    let kept = c.in_ok-kept.kept in
    let none : length kept.replies.items ≡ 0 = ap length c.in_ok-kept.ensures.replies in
    record {
      few = omega (arith, kept.replies.ok, none);
      rest = sym c.into_iter-x-iterator.ensures.into_iter_gives.0;
      known = λ known. known;
      lies = λ b o n h. h;
      counted = omega arith;
      going = λ known s sound w stands same.
          subst (λ t. IsGoing m s sound (HasCome g.D.Disk.surely_lies g.D.Disk.faults c.args.disk.now c.args.disk.now) t w [] kept.tickets.items kept.issued.items kept.scans.items kept.cleans.items kept.replies.items c.args.core.now (g.D.Disk.byte_at c.args.disk.now)) (sym c.in_ok-kept.ensures.failed)
          (going_begun m s sound (HasCome g.D.Disk.surely_lies g.D.Disk.faults c.args.disk.now c.args.disk.now) w kept.tickets.items kept.issued.items kept.scans.items kept.cleans.items kept.replies.items c.args.core.now (g.D.Disk.byte_at c.args.disk.now) stands same
          c.in_ok-kept.ensures.tickets (c.in_ok-kept.ensures.issued ∙ ap (λ z. replicate z.flushers None) (c.settings.ensures ∙ stands.sizes)) (c.in_ok-kept.ensures.scans ∙ ap (λ z. replicate z.blocks None) (c.settings.ensures ∙ stands.sizes))
          (c.in_ok-kept.ensures.cleans ∙ ap (λ z. replicate z.blocks false) (c.settings.ensures ∙ stands.sizes)) c.in_ok-kept.ensures.replies);
    }

pub loop-x-preserved : goal.loop-x-preserved
loop-x-preserved g c =
    let m = meaning g.K.Code.encoding g.V.Code.encoding g.K.Code.is_encodable g.V.Code.is_encodable g.K.Code.is_decodable g.V.Code.is_decodable g.P.Properties.age in
    let yielded = c.loop-x.yielded in
    let x = c.in-Some.x in
    let more : length (yielded ++ x ∷ []) ≡ length yielded + 1 = pushed_count yielded x in
    let lies = g.D.Disk.surely_lies in
    let faults = g.D.Disk.faults in
    let old = c.args.disk.now in
    let mid = c.loop-x.disk in
    let new = c.make.new.disk in
    let came = HasCome lies faults old new in
    let before = HasCome lies faults old mid in
    let behind = HasCome lies faults mid new in
    record {
      few = omega (arith, c.loop-x.invariant.few, c.in_ok-make.ensures.one, more);
      rest = c.loop-x.invariant.rest ∙ ap (λ xs. yielded ++ xs) c.in-Some.ensures.steps.0 ∙ sym (append_twice yielded (x ∷ []) c.next.new.self.rest.items);
      known = λ known. c.in_ok-make.ensures.known (c.loop-x.invariant.known known);
      lies = λ b o n h. c.in_ok-make.ensures.lies b o n (c.loop-x.invariant.lies b o n h);
      counted = omega (arith, c.loop-x.invariant.counted, c.in_ok-make.ensures.counted);
      going = λ known s sound w stands same.
          let going = going_sure m s sound came before c.loop-x.kept.has_failed (come_before lies faults old mid new c.loop-x.invariant.counted c.in_ok-make.ensures.counted) w yielded
          c.loop-x.kept.tickets.items c.loop-x.kept.issued.items c.loop-x.kept.scans.items c.loop-x.kept.cleans.items c.loop-x.kept.replies.items c.loop-x.core (g.D.Disk.byte_at c.loop-x.disk)
          (c.loop-x.invariant.going known s sound w stands same) in
          let moved = c.in_ok-make.ensures.moved (c.loop-x.invariant.known known) s sound w (after_all (machine m s sound) w going.events) going.running in
          subst (λ t. IsGoing m s sound came t w (yielded ++ x ∷ []) c.make.new.kept.tickets.items c.make.new.kept.issued.items c.make.new.kept.scans.items c.make.new.kept.cleans.items c.make.new.kept.replies.items c.make.new.core (g.D.Disk.byte_at c.make.new.disk)) (sym moved.1)
          (going_on m s sound came c.loop-x.kept.has_failed moved.0 w yielded x c.loop-x.kept.tickets.items c.make.new.kept.tickets.items c.loop-x.kept.issued.items c.make.new.kept.issued.items c.loop-x.kept.scans.items c.make.new.kept.scans.items c.loop-x.kept.cleans.items c.make.new.kept.cleans.items c.loop-x.kept.replies.items c.make.new.kept.replies.items
          c.loop-x.core c.make.new.core (g.D.Disk.byte_at c.loop-x.disk) (g.D.Disk.byte_at c.make.new.disk) going
          (moved_sure m s sound came behind (come_behind lies faults old mid new c.loop-x.invariant.counted c.in_ok-make.ensures.counted c.loop-x.invariant.lies) w _ _ _ _ _ _ _ _ _ _ _ moved.2));
    }

pub returns-in_err-make-clause-front : goal.returns-in_err-make-clause-front
returns-in_err-make-clause-front g c = λ known.
    let m = meaning g.K.Code.encoding g.V.Code.encoding g.K.Code.is_encodable g.V.Code.is_encodable g.K.Code.is_decodable g.V.Code.is_decodable g.P.Properties.age in
    let old = c.args.core.now in
    let bytes = g.D.Disk.byte_at c.args.disk.now in
    err_is c.from_residual-in_err-make.result
    (subst (λ core. IsFront m c.args.moves.items old core bytes (g.D.Disk.byte_at c.make.new.disk)) (sym c.in_err-make.ensures.stays)
    (subst (λ new. IsFront m c.args.moves.items old c.loop-x.core bytes new) (sym c.in_err-make.ensures.same)
    (front_of m (HasCome g.D.Disk.surely_lies g.D.Disk.faults c.args.disk.now c.loop-x.disk) c.loop-x.kept.has_failed c.args.moves.items c.loop-x.yielded c.loop-x.x-iterator.rest.items c.loop-x.kept.tickets.items c.loop-x.kept.issued.items c.loop-x.kept.scans.items c.loop-x.kept.cleans.items c.loop-x.kept.replies.items old c.loop-x.core bytes (g.D.Disk.byte_at c.loop-x.disk)
    c.loop-x.invariant.rest (c.loop-x.invariant.going known))))

pub returns-clause-runs : goal.returns-clause-runs
returns-clause-runs g c = λ known s sound w stands same.
    let m = meaning g.K.Code.encoding g.V.Code.encoding g.K.Code.is_encodable g.V.Code.is_encodable g.K.Code.is_decodable g.V.Code.is_decodable g.P.Properties.age in
    let left = c.loop-x.x-iterator.rest in
    let none : length left.items ≡ 0 = omega (arith, left.ok, c.in-None.ensures.steps.0) in
    let all : c.args.moves.items ≡ c.loop-x.yielded =
    c.loop-x.invariant.rest ∙ ap (λ xs. c.loop-x.yielded ++ xs) (empty_is left.items none) ∙ append_none c.loop-x.yielded in
    subst (λ ms. IsRunNoted m s sound (HasCome g.D.Disk.surely_lies g.D.Disk.faults c.args.disk.now c.loop-x.disk) c.loop-x.kept.has_failed w ms c.loop-x.kept.replies.items c.loop-x.core (g.D.Disk.byte_at c.loop-x.disk)) (sym all)
    (gone_noted m s sound (HasCome g.D.Disk.surely_lies g.D.Disk.faults c.args.disk.now c.loop-x.disk) c.loop-x.kept.has_failed w c.loop-x.yielded c.loop-x.kept.tickets.items c.loop-x.kept.issued.items c.loop-x.kept.scans.items c.loop-x.kept.cleans.items c.loop-x.kept.replies.items c.loop-x.core (g.D.Disk.byte_at c.loop-x.disk)
    (c.loop-x.invariant.going known s sound w stands same))
