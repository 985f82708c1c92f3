use Rattle.std.proofs.Common.{◌≡◌, Ok, Err, inr, refl, sym, subst}
use Rattle.foyer_io_disk.specs.Disk.{SurelyCame}
use Rattle.foyer_core_laws.specs.Content.{meaning}
use Rattle.foyer_device_page.specs.declared.error.Error.TheVariants as error
use Rattle.foyer_device_page.specs.declared.error.ErrorKind.TheVariants as kind
use Rattle.foyer_storage_local.specs.EntryCalls.{IsHashMissedForCause, IsIoForCause, IsNewestOfHash, IsRefusedOnlyAs, IsThrottledIfSaid}
use Rattle.foyer_storage_local.specs.StepAnswers.{is_load_error}
use Rattle.foyer_storage_local.specs.declared.load.Load.TheVariants as load
use Rattle.foyer_storage_local.proofs.LocalAnswers.{missed_got, newest_got}
use Rattle.foyer_storage_local.proofs.RefusedSteps.{io_for_cause, load_refused_as}
use Rattle.foyer_storage_local.proofs.ThrottledLoads.{throttled_only}
use Rattle.foyer_storage_local.proofs.engine.LocalEngine.load_hash.Goals as goal

pub returns-in-Ok-clause-newest : goal.returns-in-Ok-clause-newest
returns-in-Ok-clause-newest g c = λ known.
    let m = meaning g.K.Code.encoding g.V.Code.encoding g.K.Code.is_encodable g.V.Code.is_encodable g.K.Code.is_decodable g.V.Code.is_decodable g.P.Properties.age in
    let core = c.args.self.now.core in
    let bytes = g.D.Disk.byte_at c.args.self.now.disk in
    subst (λ said. IsNewestOfHash m c.args.hash core bytes said) (sym c.answer_load.ensures) (newest_got m c.args.hash core bytes c.in-Ok.last (c.in-Ok.ensures.newest known))

pub returns-in-Ok-clause-missed : goal.returns-in-Ok-clause-missed
returns-in-Ok-clause-missed g c = λ known not.
    let m = meaning g.K.Code.encoding g.V.Code.encoding g.K.Code.is_encodable g.V.Code.is_encodable g.K.Code.is_decodable g.V.Code.is_decodable g.P.Properties.age in
    let core = c.args.self.now.core in
    let bytes = g.D.Disk.byte_at c.args.self.now.disk in
    subst (λ said. IsHashMissedForCause m c.args.hash core bytes said) (sym c.answer_load.ensures) (missed_got m c.args.hash core bytes c.in-Ok.last (c.in-Ok.ensures.missed known not))

pub returns-in-Err-clause-missed : goal.returns-in-Err-clause-missed
returns-in-Err-clause-missed g c = λ known not s sound first events history few b sequence x kept newer some. (kind.Memory, refl, inr refl)

pub returns-in-Ok-clause-throttled : goal.returns-in-Ok-clause-throttled
returns-in-Ok-clause-throttled g c = λ known.
    let m = meaning g.K.Code.encoding g.V.Code.encoding g.K.Code.is_encodable g.V.Code.is_encodable g.K.Code.is_decodable g.V.Code.is_decodable g.P.Properties.age in
    let core = c.args.self.now.core in
    let bytes = g.D.Disk.byte_at c.args.self.now.disk in
    subst (λ said. IsThrottledIfSaid m c.args.throttled core bytes said) (sym c.answer_load.ensures)
    (throttled_only m c.args.hash c.args.throttled c.in-Ok.last core c.load.new.core bytes (g.D.Disk.byte_at c.load.new.disk) (c.in-Ok.ensures.runs known))

pub returns-in-Err-clause-throttled : goal.returns-in-Err-clause-throttled
returns-in-Err-clause-throttled g c = λ known s sound first events history is. absurd (let e : Err error.Memory ≡ Ok load.Throttled = is in cc)

pub returns-in-Ok-clause-honest : goal.returns-in-Ok-clause-honest
returns-in-Ok-clause-honest g c =
    let m = meaning g.K.Code.encoding g.V.Code.encoding g.K.Code.is_encodable g.V.Code.is_encodable g.K.Code.is_decodable g.V.Code.is_decodable g.P.Properties.age in
    let core = c.args.self.now.core in
    let came = SurelyCame (g.D.Disk.surely_has c.args.self.now.disk) (g.D.Disk.surely_lies c.args.self.now.disk) (g.D.Disk.faults c.args.self.now.disk) (g.D.Disk.faults c.load.new.disk) in
    subst (λ said. IsIoForCause m c.args.hash came core said) (sym c.answer_load.ensures) (io_for_cause m c.args.hash came core c.in-Ok.last c.in-Ok.ensures.honest)

pub returns-in-Err-clause-honest : goal.returns-in-Err-clause-honest
returns-in-Err-clause-honest g c = λ is s valid it at. absurd cc

pub returns-in-Ok-clause-refused : goal.returns-in-Ok-clause-refused
returns-in-Ok-clause-refused g c = λ known.
    let m = meaning g.K.Code.encoding g.V.Code.encoding g.K.Code.is_encodable g.V.Code.is_encodable g.K.Code.is_decodable g.V.Code.is_decodable g.P.Properties.age in
    let core = c.args.self.now.core in
    subst (λ said. IsRefusedOnlyAs m is_load_error core said) (sym c.answer_load.ensures)
    (load_refused_as m c.args.hash c.args.throttled c.in-Ok.last core c.load.new.core (g.D.Disk.byte_at c.args.self.now.disk) (g.D.Disk.byte_at c.load.new.disk) (c.in-Ok.ensures.runs known))

pub returns-in-Err-clause-refused : goal.returns-in-Err-clause-refused
returns-in-Err-clause-refused g c = λ known s valid it at. refl
