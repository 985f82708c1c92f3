use Rattle.std.proofs.Common.{Ok, Err, refl, sym, ap, subst}
use Rattle.foyer_io_disk.specs.Disk.{SurelyCame}
use Rattle.foyer_core_laws.specs.Content.{meaning}
use Rattle.foyer_storage_local.specs.EntryCalls.{IsHashLoadedOrRefused, IsHashMissedForCause, IsIoForCause, IsKeyLoaded, IsKeyMissedForCause, IsNewestOfHash, IsNewestOfKey, IsRefusedOnlyAs, IsThrottledIfSaid}
use Rattle.foyer_storage_local.specs.StepAnswers.{is_load_error}
use Rattle.foyer_storage_local.proofs.LocalAnswers.{missed_of_key, newest_of_key, throttled_of_key}
use Rattle.foyer_storage_local.proofs.engine.LocalEngine.load.Goals as goal

pub returns-in-Ok-clause-newest : goal.returns-in-Ok-clause-newest
returns-in-Ok-clause-newest g c = λ known.
    let m = meaning g.K.Code.encoding g.V.Code.encoding g.K.Code.is_encodable g.V.Code.is_encodable g.K.Code.is_decodable g.V.Code.is_decodable g.P.Properties.age in
    let core = c.args.self.now.core in
    let bytes = g.D.Disk.byte_at c.args.self.now.disk in
    let hash = c.hash_one-hash.result in
    let found = subst (λ r. IsNewestOfHash m hash core bytes r) c.in-Ok.is (c.load_hash.ensures.newest known) in
    let newest = newest_of_key m g.K.PartialEq.eq c.args.key.now hash core bytes (Ok c.in-Ok.found) found in
    subst (λ h. IsNewestOfKey m g.K.PartialEq.eq c.args.key.now h core bytes (Ok c.answer_of_key.result)) c.hash_one-hash.ensures
    (subst (λ said. IsNewestOfKey m g.K.PartialEq.eq c.args.key.now hash core bytes (Ok said)) (sym c.answer_of_key.ensures) newest)

pub returns-in-Ok-clause-missed : goal.returns-in-Ok-clause-missed
returns-in-Ok-clause-missed g c = λ known not.
    let m = meaning g.K.Code.encoding g.V.Code.encoding g.K.Code.is_encodable g.V.Code.is_encodable g.K.Code.is_decodable g.V.Code.is_decodable g.P.Properties.age in
    let core = c.args.self.now.core in
    let bytes = g.D.Disk.byte_at c.args.self.now.disk in
    let hash = c.hash_one-hash.result in
    let found = subst (λ r. IsHashMissedForCause m hash core bytes r) c.in-Ok.is (c.load_hash.ensures.missed known not) in
    let missed = missed_of_key m g.K.PartialEq.eq c.args.key.now hash core bytes (Ok c.in-Ok.found) found in
    subst (λ h. IsKeyMissedForCause m g.K.PartialEq.eq c.args.key.now h core bytes (Ok c.answer_of_key.result)) c.hash_one-hash.ensures
    (subst (λ said. IsKeyMissedForCause m g.K.PartialEq.eq c.args.key.now hash core bytes (Ok said)) (sym c.answer_of_key.ensures) missed)

pub returns-in-Err-clause-missed : goal.returns-in-Err-clause-missed
returns-in-Err-clause-missed g c = λ known not.
    let m = meaning g.K.Code.encoding g.V.Code.encoding g.K.Code.is_encodable g.V.Code.is_encodable g.K.Code.is_decodable g.V.Code.is_decodable g.P.Properties.age in
    let core = c.args.self.now.core in
    let bytes = g.D.Disk.byte_at c.args.self.now.disk in
    let hash = c.hash_one-hash.result in
    let found = subst (λ r. IsHashMissedForCause m hash core bytes r) c.in-Err.is (c.load_hash.ensures.missed known not) in
    subst (λ h. IsKeyMissedForCause m g.K.PartialEq.eq c.args.key.now h core bytes (Err c.in-Err.error)) c.hash_one-hash.ensures
    (missed_of_key m g.K.PartialEq.eq c.args.key.now hash core bytes (Err c.in-Err.error) found)

pub returns-in-Ok-clause-throttled : goal.returns-in-Ok-clause-throttled
returns-in-Ok-clause-throttled g c = λ known.
    let m = meaning g.K.Code.encoding g.V.Code.encoding g.K.Code.is_encodable g.V.Code.is_encodable g.K.Code.is_decodable g.V.Code.is_decodable g.P.Properties.age in
    let core = c.args.self.now.core in
    let bytes = g.D.Disk.byte_at c.args.self.now.disk in
    let found = subst (λ r. IsThrottledIfSaid m c.args.throttled core bytes r) c.in-Ok.is (c.load_hash.ensures.throttled known) in
    subst (λ said. IsThrottledIfSaid m c.args.throttled core bytes (Ok said)) (sym c.answer_of_key.ensures)
    (throttled_of_key m g.K.PartialEq.eq c.args.key.now c.hash_one-hash.result core bytes c.args.throttled (Ok c.in-Ok.found) found)

pub returns-in-Err-clause-throttled : goal.returns-in-Err-clause-throttled
returns-in-Err-clause-throttled g c = λ known.
    let m = meaning g.K.Code.encoding g.V.Code.encoding g.K.Code.is_encodable g.V.Code.is_encodable g.K.Code.is_decodable g.V.Code.is_decodable g.P.Properties.age in
    let core = c.args.self.now.core in
    let bytes = g.D.Disk.byte_at c.args.self.now.disk in
    subst (λ r. IsThrottledIfSaid m c.args.throttled core bytes r) c.in-Err.is (c.load_hash.ensures.throttled known)

pub returns-in-Ok-clause-says : goal.returns-in-Ok-clause-says
returns-in-Ok-clause-says g c = λ known.
    let m = meaning g.K.Code.encoding g.V.Code.encoding g.K.Code.is_encodable g.V.Code.is_encodable g.K.Code.is_decodable g.V.Code.is_decodable g.P.Properties.age in
    let bytes = g.D.Disk.byte_at c.args.self.now.disk in
    let after = g.D.Disk.byte_at c.load_hash.new.self.disk in
    let loaded = subst (λ r. IsHashLoadedOrRefused m c.hash_one-hash.result c.args.throttled c.args.self.now.core c.load_hash.new.self.core bytes after r) c.in-Ok.is (c.load_hash.ensures.says known) in
    subst (λ h. IsKeyLoaded m g.K.PartialEq.eq c.args.key.now h c.args.throttled c.args.self.now.core c.load_hash.new.self.core bytes after (Ok c.answer_of_key.result)) c.hash_one-hash.ensures
    (record { found = Ok c.in-Ok.found; loaded = loaded; is = ap (λ r. Ok r) c.answer_of_key.ensures })

pub returns-in-Err-clause-says : goal.returns-in-Err-clause-says
returns-in-Err-clause-says g c = λ known.
    let m = meaning g.K.Code.encoding g.V.Code.encoding g.K.Code.is_encodable g.V.Code.is_encodable g.K.Code.is_decodable g.V.Code.is_decodable g.P.Properties.age in
    let bytes = g.D.Disk.byte_at c.args.self.now.disk in
    let after = g.D.Disk.byte_at c.load_hash.new.self.disk in
    let loaded = subst (λ r. IsHashLoadedOrRefused m c.hash_one-hash.result c.args.throttled c.args.self.now.core c.load_hash.new.self.core bytes after r) c.in-Err.is (c.load_hash.ensures.says known) in
    subst (λ h. IsKeyLoaded m g.K.PartialEq.eq c.args.key.now h c.args.throttled c.args.self.now.core c.load_hash.new.self.core bytes after (Err c.in-Err.error)) c.hash_one-hash.ensures
    (record { found = Err c.in-Err.error; loaded = loaded; is = refl })

pub returns-in-Ok-clause-honest : goal.returns-in-Ok-clause-honest
returns-in-Ok-clause-honest g c = λ is s valid it at. absurd cc

pub returns-in-Err-clause-honest : goal.returns-in-Err-clause-honest
returns-in-Err-clause-honest g c =
    let m = meaning g.K.Code.encoding g.V.Code.encoding g.K.Code.is_encodable g.V.Code.is_encodable g.K.Code.is_decodable g.V.Code.is_decodable g.P.Properties.age in
    let core = c.args.self.now.core in
    let came = SurelyCame (g.D.Disk.surely_has c.args.self.now.disk) (g.D.Disk.surely_lies c.args.self.now.disk) (g.D.Disk.faults c.args.self.now.disk) (g.D.Disk.faults c.load_hash.new.self.disk) in
    subst (λ h. IsIoForCause m h came core (Err c.in-Err.error)) c.hash_one-hash.ensures
    (subst (λ r. IsIoForCause m c.hash_one-hash.result came core r) c.in-Err.is c.load_hash.ensures.honest)

pub returns-in-Ok-clause-refused : goal.returns-in-Ok-clause-refused
returns-in-Ok-clause-refused g c = λ known s valid it at. tt

pub returns-in-Err-clause-refused : goal.returns-in-Err-clause-refused
returns-in-Err-clause-refused g c = λ known.
    let m = meaning g.K.Code.encoding g.V.Code.encoding g.K.Code.is_encodable g.V.Code.is_encodable g.K.Code.is_decodable g.V.Code.is_decodable g.P.Properties.age in
    subst (λ r. IsRefusedOnlyAs m is_load_error c.args.self.now.core r) c.in-Err.is (c.load_hash.ensures.refused known)
