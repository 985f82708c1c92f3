use Rattle.std.proofs.Common.{false, [], ◌∷◌, None, refl, sym, ap, subst, arith}
use Rattle.foyer_core_laws.specs.Content.{meaning}
use Rattle.foyer_io_disk.specs.Disk.{SurelyCame}
use Rattle.foyer_core_steps.specs.Answered.{Describes}
use Rattle.foyer_core_steps.specs.Asked.{came_of}
use Rattle.foyer_core_steps.specs.Refines.{IsRefined, Refines}
use Rattle.foyer_core_steps.specs.declared.step.Step.TheVariants as step
use Rattle.foyer_core_run.specs.Accesses.{load_of}
use Rattle.foyer_core_run.specs.Causes.{is_fault}
use Rattle.foyer_core_run.specs.Driven.{Drives}
use Rattle.foyer_core_run.specs.Running.{ticket_in, with_ticket}
use Rattle.foyer_core_run.specs.Runs.{IsFront}
use Rattle.foyer_core_run.specs.declared.moves.Move.TheVariants as move
use Rattle.foyer_core_run.proofs.AccessLemmas.{Goes, front_is, load_alone, load_whole, no_ticket, says_last, step_alone, uncleaned, unscanned}
use Rattle.foyer_core_run.proofs.DriveLemmas.{says_drive, step_drives}
use Rattle.foyer_core_run.proofs.HonestLemmas.{look_up_fails, load_fails}
use Rattle.foyer_core_run.proofs.LoadLemmas.{come_is}
use Rattle.foyer_core_run.proofs.MissedLemmas.{load_missed, look_up_missed}
use Rattle.foyer_core_run.proofs.NewestLemmas.{load_newest, look_up_newest}
use Rattle.foyer_core_run.proofs.RunLemmas.{err_is}
use Rattle.foyer_core_run.proofs.StepLemmas.{encodings_of}
use Rattle.foyer_core_run.proofs.ThrottleLemmas.{no_read}
use Rattle.foyer_core_run.proofs.accesses.load.Goals as goal

pub returns-in_default : goal.returns-in_default
returns-in_default g c =
    let m = meaning g.K.Code.encoding g.V.Code.encoding g.K.Code.is_encodable g.V.Code.is_encodable g.K.Code.is_decodable g.V.Code.is_decodable g.P.Properties.age in
    let encodes = encodings_of g.K.Code.encoding g.V.Code.encoding g.K.Code.is_encodable g.V.Code.is_encodable g.K.Code.is_decodable g.V.Code.is_decodable g.P.Properties.age g.met.K.Code.is_encoded g.met.V.Code.is_encoded in
    let bytes = g.D.Disk.byte_at c.args.disk.now in
    let h = c.args.hash in
    let throttled = c.args.throttled in
    let answer = c.apply.result in
    let says = says_last m false (load_of h throttled) [] unscanned uncleaned [] answer c.args.core.now c.apply.new.self bytes bytes
    (λ s sound w stands same.
    load_alone m s sound w h throttled answer c.apply.new.self bytes
    (step_alone m s sound encodes w (move.LoadBegin h throttled) (step.LoadBegin h throttled) answer c.args.core.now c.apply.new.self bytes stands same refl tt
    c.apply.ensures.back (λ v at. c.apply.ensures.meets s sound v.core at))
    (no_ticket answer c.in_default.not-Read)) in record {
      runs = λ known. says;
      drives = λ known. says_drive m (load_of h throttled) answer c.args.core.now c.apply.new.self bytes bytes says;
      newest = λ known. look_up_newest m h throttled answer c.args.core.now c.apply.new.self bytes (λ s sound v at. c.apply.ensures.meets s sound v.core at);
      missed = λ known not. look_up_missed m h throttled answer c.args.core.now c.apply.new.self bytes not (no_ticket answer c.in_default.not-Read) (λ s sound v at. c.apply.ensures.meets s sound v.core at);
      honest = look_up_fails m h throttled answer c.args.core.now c.apply.new.self (SurelyCame (g.D.Disk.surely_has c.args.disk.now) (g.D.Disk.surely_lies c.args.disk.now) (g.D.Disk.faults c.args.disk.now) (g.D.Disk.faults c.args.disk.now)) c.apply.ensures.meets;
      front = λ known. tt;
      unread = λ throttles. refl;
      lent = c.apply.ensures.lent;
      known = λ known. known;
      has = λ b o n h. h;
      lies = λ b o n h. h;
      counted = omega arith;
      same = refl;
    }

pub returns-in_err-clone-clause-front : goal.returns-in_err-clone-clause-front
returns-in_err-clone-clause-front g c = λ known.
    let m = meaning g.K.Code.encoding g.V.Code.encoding g.K.Code.is_encodable g.V.Code.is_encodable g.K.Code.is_decodable g.V.Code.is_decodable g.P.Properties.age in
    let encodes = encodings_of g.K.Code.encoding g.V.Code.encoding g.K.Code.is_encodable g.V.Code.is_encodable g.K.Code.is_decodable g.V.Code.is_decodable g.P.Properties.age g.met.K.Code.is_encoded g.met.V.Code.is_encoded in
    let bytes = g.D.Disk.byte_at c.args.disk.now in
    let h = c.args.hash in
    let throttled = c.args.throttled in
    let answer = c.apply.result in
    err_is c.from_residual.result
    (front_is m false (move.LoadBegin h throttled ∷ []) (move.LoadEnd 0 ∷ []) (with_ticket (ticket_in answer) []) unscanned uncleaned (answer ∷ []) c.args.core.now c.apply.new.self bytes bytes
    (λ s sound w stands same.
    step_alone m s sound encodes w (move.LoadBegin h throttled) (step.LoadBegin h throttled) answer c.args.core.now c.apply.new.self bytes stands same refl tt
    c.apply.ensures.back (λ v at. c.apply.ensures.meets s sound v.core at)))

pub returns-in_err-clone-clause-drives : goal.returns-in_err-clone-clause-drives
returns-in_err-clone-clause-drives g c = λ known.
    let m = meaning g.K.Code.encoding g.V.Code.encoding g.K.Code.is_encodable g.V.Code.is_encodable g.K.Code.is_decodable g.V.Code.is_decodable g.P.Properties.age in
    let encodes = encodings_of g.K.Code.encoding g.V.Code.encoding g.K.Code.is_encodable g.V.Code.is_encodable g.K.Code.is_decodable g.V.Code.is_decodable g.P.Properties.age g.met.K.Code.is_encoded g.met.V.Code.is_encoded in
    let bytes = g.D.Disk.byte_at c.args.disk.now in
    step_drives m encodes (step.LoadBegin c.args.hash c.args.throttled) c.apply.result c.args.core.now c.apply.new.self bytes tt c.apply.ensures.back
    (λ s sound v at. c.apply.ensures.meets s sound v.core at)

pub returns-in_err-came-clause-front : goal.returns-in_err-came-clause-front
returns-in_err-came-clause-front g c = λ known.
    let m = meaning g.K.Code.encoding g.V.Code.encoding g.K.Code.is_encodable g.V.Code.is_encodable g.K.Code.is_decodable g.V.Code.is_decodable g.P.Properties.age in
    let encodes = encodings_of g.K.Code.encoding g.V.Code.encoding g.K.Code.is_encodable g.V.Code.is_encodable g.K.Code.is_decodable g.V.Code.is_decodable g.P.Properties.age g.met.K.Code.is_encoded g.met.V.Code.is_encoded in
    let bytes = g.D.Disk.byte_at c.args.disk.now in
    let h = c.args.hash in
    let throttled = c.args.throttled in
    let answer = c.apply.result in
    err_is c.from_residual-in_err-came.result
    (subst (λ new. IsFront m (load_of h throttled) c.args.core.now c.apply.new.self bytes new) (sym c.in_err-came.ensures.same)
    (front_is m false (move.LoadBegin h throttled ∷ []) (move.LoadEnd 0 ∷ []) (with_ticket (ticket_in answer) []) unscanned uncleaned (answer ∷ []) c.args.core.now c.apply.new.self bytes bytes
    (λ s sound w stands same.
    step_alone m s sound encodes w (move.LoadBegin h throttled) (step.LoadBegin h throttled) answer c.args.core.now c.apply.new.self bytes stands same refl tt
    c.apply.ensures.back (λ v at. c.apply.ensures.meets s sound v.core at))))

pub returns-in_err-came-clause-drives : goal.returns-in_err-came-clause-drives
returns-in_err-came-clause-drives g c = λ known.
    let m = meaning g.K.Code.encoding g.V.Code.encoding g.K.Code.is_encodable g.V.Code.is_encodable g.K.Code.is_decodable g.V.Code.is_decodable g.P.Properties.age in
    let encodes = encodings_of g.K.Code.encoding g.V.Code.encoding g.K.Code.is_encodable g.V.Code.is_encodable g.K.Code.is_decodable g.V.Code.is_decodable g.P.Properties.age g.met.K.Code.is_encoded g.met.V.Code.is_encoded in
    let bytes = g.D.Disk.byte_at c.args.disk.now in
    subst (λ new. Drives m c.args.core.now c.apply.new.self bytes new) (sym c.in_err-came.ensures.same)
    (step_drives m encodes (step.LoadBegin c.args.hash c.args.throttled) c.apply.result c.args.core.now c.apply.new.self bytes tt c.apply.ensures.back
    (λ s sound v at. c.apply.ensures.meets s sound v.core at))

pub returns-clause-runs : goal.returns-clause-runs
returns-clause-runs g c = λ known.
    let m = meaning g.K.Code.encoding g.V.Code.encoding g.K.Code.is_encodable g.V.Code.is_encodable g.K.Code.is_decodable g.V.Code.is_decodable g.P.Properties.age in
    let encodes = encodings_of g.K.Code.encoding g.V.Code.encoding g.K.Code.is_encodable g.V.Code.is_encodable g.K.Code.is_decodable g.V.Code.is_decodable g.P.Properties.age g.met.K.Code.is_encoded g.met.V.Code.is_encoded in
    let bytes = g.D.Disk.byte_at c.args.disk.now in
    let h = c.args.hash in
    let throttled = c.args.throttled in
    let issued = c.apply.result in
    let answer = c.apply_load-reply.result.0 in
    let tickets = with_ticket (ticket_in answer) (None ∷ []) in
    says_last m (is_fault (came_of c.in_ok-came.came)) (load_of h throttled) tickets unscanned uncleaned (issued ∷ []) answer c.args.core.now c.apply_load-reply.new.self bytes (g.D.Disk.byte_at c.do_read.new.disk)
    (subst (λ new. Goes m (is_fault (came_of c.in_ok-came.came)) (load_of h throttled) tickets unscanned uncleaned (issued ∷ answer ∷ []) c.args.core.now c.apply_load-reply.new.self bytes new) (sym c.in_ok-came.ensures.same)
    (λ s sound w stands same.
    load_whole m s sound w h throttled c.in-Read.ticket c.in_ok-came.came issued answer c.apply.new.self c.apply_load-reply.new.self bytes
    (step_alone m s sound encodes w (move.LoadBegin h throttled) (step.LoadBegin h throttled) issued c.args.core.now c.apply.new.self bytes stands same refl tt
    c.apply.ensures.back (λ v at. c.apply.ensures.meets s sound v.core at))
    (ap ticket_in c.in-Read.is)
    (come_is bytes c.in-Read.ticket c.in_ok-came.came (c.in_ok-came.ensures.read known) c.in_ok-came.ensures.len)
    (λ v at. c.apply_load-reply.ensures.meets s sound v.core at)))

pub returns-clause-newest : goal.returns-clause-newest
returns-clause-newest g c = λ known.
    let m = meaning g.K.Code.encoding g.V.Code.encoding g.K.Code.is_encodable g.V.Code.is_encodable g.K.Code.is_decodable g.V.Code.is_decodable g.P.Properties.age in
    let bytes = g.D.Disk.byte_at c.args.disk.now in
    load_newest m c.args.hash c.args.throttled c.in-Read.ticket c.in_ok-came.came c.apply_load-reply.result.0 c.args.core.now c.apply.new.self c.apply_load-reply.new.self bytes
    (λ s sound v at. subst (λ r. IsRefined m s sound (step.LoadBegin c.args.hash c.args.throttled) r c.apply.new.self v.core) c.in-Read.is (c.apply.ensures.meets s sound v.core at))
    (come_is bytes c.in-Read.ticket c.in_ok-came.came (c.in_ok-came.ensures.read known) c.in_ok-came.ensures.len)
    (λ s sound v at. c.apply_load-reply.ensures.meets s sound v.core at)

pub returns-clause-missed : goal.returns-clause-missed
returns-clause-missed g c = λ known not.
    let m = meaning g.K.Code.encoding g.V.Code.encoding g.K.Code.is_encodable g.V.Code.is_encodable g.K.Code.is_decodable g.V.Code.is_decodable g.P.Properties.age in
    let bytes = g.D.Disk.byte_at c.args.disk.now in
    load_missed m c.args.hash c.args.throttled c.in-Read.ticket c.in_ok-came.came c.apply_load-reply.result.0 c.args.core.now c.apply.new.self c.apply_load-reply.new.self bytes not
    (λ s sound v at. subst (λ r. IsRefined m s sound (step.LoadBegin c.args.hash c.args.throttled) r c.apply.new.self v.core) c.in-Read.is (c.apply.ensures.meets s sound v.core at))
    (come_is bytes c.in-Read.ticket c.in_ok-came.came (c.in_ok-came.ensures.read known) c.in_ok-came.ensures.len)
    (λ s sound v at. c.apply_load-reply.ensures.meets s sound v.core at)

pub returns-clause-drives : goal.returns-clause-drives
returns-clause-drives g c = λ known.
    let m = meaning g.K.Code.encoding g.V.Code.encoding g.K.Code.is_encodable g.V.Code.is_encodable g.K.Code.is_decodable g.V.Code.is_decodable g.P.Properties.age in
    says_drive m (load_of c.args.hash c.args.throttled) c.apply_load-reply.result.0 c.args.core.now c.apply_load-reply.new.self (g.D.Disk.byte_at c.args.disk.now) (g.D.Disk.byte_at c.do_read.new.disk)
    (returns-clause-runs g c known)

pub returns-in_err-clone-clause-unread : goal.returns-in_err-clone-clause-unread
returns-in_err-clone-clause-unread g c = λ throttles.
    absurd (no_read g.K.Code.is_decodable g.V.Code.is_decodable g.K.Code.encoding g.V.Code.encoding c.args.hash c.args.throttled c.apply.result c.in-Read.ticket c.args.core.now c.apply.new.self c.in-Read.is c.apply.ensures.issued throttles)

pub returns-in_err-came-clause-unread : goal.returns-in_err-came-clause-unread
returns-in_err-came-clause-unread g c = λ throttles.
    absurd (no_read g.K.Code.is_decodable g.V.Code.is_decodable g.K.Code.encoding g.V.Code.encoding c.args.hash c.args.throttled c.apply.result c.in-Read.ticket c.args.core.now c.apply.new.self c.in-Read.is c.apply.ensures.issued throttles)

pub returns-clause-unread : goal.returns-clause-unread
returns-clause-unread g c = λ throttles.
    absurd (no_read g.K.Code.is_decodable g.V.Code.is_decodable g.K.Code.encoding g.V.Code.encoding c.args.hash c.args.throttled c.apply.result c.in-Read.ticket c.args.core.now c.apply.new.self c.in-Read.is c.apply.ensures.issued throttles)

pub returns-clause-honest : goal.returns-clause-honest
returns-clause-honest g c =
    let m = meaning g.K.Code.encoding g.V.Code.encoding g.K.Code.is_encodable g.V.Code.is_encodable g.K.Code.is_decodable g.V.Code.is_decodable g.P.Properties.age in
    let given = step.LoadBegin c.args.hash c.args.throttled in
    load_fails m c.args.hash c.args.throttled c.in-Read.ticket c.in_ok-came.came c.apply_load-reply.result.0 c.args.core.now c.apply.new.self c.apply_load-reply.new.self
    (SurelyCame (g.D.Disk.surely_has c.args.disk.now) (g.D.Disk.surely_lies c.args.disk.now) (g.D.Disk.faults c.args.disk.now) (g.D.Disk.faults c.do_read.new.disk))
    (subst (λ r. Describes g.K.Code.is_decodable g.V.Code.is_decodable g.K.Code.encoding g.V.Code.encoding given r c.args.core.now c.apply.new.self) c.in-Read.is c.apply.ensures.issued)
    (subst (λ r. Refines m given r c.args.core.now c.apply.new.self) c.in-Read.is c.apply.ensures.meets)
    c.in_ok-came.ensures.fails
    c.apply_load-reply.ensures.meets
