use Rattle.std.proofs.Common.{inr, ◌≡◌, ◌<◌, ◌≤◌, refl, sym, ◌∙◌, arith}
use Rattle.foyer_device_page.specs.declared.error.ErrorKind.TheVariants as kind
use Rattle.foyer_core_model.specs.Numbers.{last_number}
use Rattle.foyer_core_model.specs.Reply as model_reply
use Rattle.foyer_core_flusher.specs.CoreRules.{machine}
use Rattle.foyer_core_steps.specs.Marking.{marked}
use Rattle.foyer_core_steps.specs.declared.step.Step.TheVariants as step
use Rattle.foyer_core_steps.proofs.TurnLemmas.{is_early, same, refused}
use Rattle.foyer_core_steps.proofs.state.Core.delete.Goals as goal

pub returns-then-self-clause-meets : goal.returns-then-self-clause-meets
returns-then-self-clause-meets g c = λ m s sound it stands few.
    refused m s sound (step.Delete c.args.hash) c.args.self.now _ it kind.Closed model_reply.Closed refl
    (same c.args.self.now) stands
    (is_early m s c.args.self.now it stands few, (tt, stands.closed ∙ c.if-self.true))

pub returns-then-self-2-clause-meets : goal.returns-then-self-2-clause-meets
returns-then-self-2-clause-meets g c = λ m s sound it stands few.
    let next : it.next ≡ c.args.self.now.next = stands.next in
    let full : last_number ≤ it.next = omega (arith, c.if-self-2.true) in
    refused m s sound (step.Delete c.args.hash) c.args.self.now _ it kind.SequenceEnd model_reply.SequenceEnd refl (same c.args.self.now) stands
    (inr (is_early m s c.args.self.now it stands few, (tt, tt, stands.closed ∙ c.if-self.false, full)))

pub returns-in-Ok-clause-meets : goal.returns-in-Ok-clause-meets
returns-in-Ok-clause-meets g c = λ m s sound it stands few.
    let next : it.next ≡ c.args.self.now.next = stands.next in
    let drawn : it.next < last_number = omega (arith, c.if-self-2.false) in
    record {
      after = marked (machine m s sound) it c.args.hash c.in-Ok.sequence;
      it = model_reply.Deleted c.in-Ok.sequence;
      stands = c.in-Ok.ensures.meets m s sound it stands;
      reply = refl;
      turns = (tt, (c.in-Ok.ensures.drawn.0 ∙ sym next, stands.closed ∙ c.if-self.false, drawn, refl));
    }

pub returns-in-Err-clause-meets : goal.returns-in-Err-clause-meets
returns-in-Err-clause-meets g c = λ m s sound it stands few.
    let next : it.next ≡ c.args.self.now.next = stands.next in
    let drawn : it.next < last_number = omega (arith, c.if-self-2.false) in
    refused m s sound (step.Delete c.args.hash) c.args.self.now _ it kind.Memory model_reply.Memory refl c.in-Err.ensures.refused stands
    (is_early m s c.args.self.now it stands few, (tt, (model_reply.Deleted it.next, marked (machine m s sound) it c.args.hash it.next, (refl, stands.closed ∙ c.if-self.false, drawn, refl), tt)))
