use Rattle.foyer_core_laws.specs.Content.{meaning}
use Rattle.foyer_core_told.specs.ToldRights.{scan_right}
use Rattle.foyer_core_threads.proofs.AgainLemmas.{scanned_next}
use Rattle.foyer_core_threads.proofs.HistoryJoins.{scans_above}
use Rattle.foyer_core_threads.proofs.ReclaimLemmas.{scan_brings}
use Rattle.foyer_core_threads.proofs.GoingLemmas.{on_on, scan_on}
use Rattle.foyer_core_threads.proofs.shared.ToldShared.scan.Goals as goal

pub step_again-requires-clause-brings : goal.step_again-requires-clause-brings
step_again-requires-clause-brings g c =
    scan_brings (meaning g.K.Code.encoding g.V.Code.encoding g.K.Code.is_encodable g.V.Code.is_encodable g.K.Code.is_decodable g.V.Code.is_decodable g.P.Properties.age) g.D.Disk.byte_at c.scan-result.new.mine.me.0 c.args.block c.args.part c.scan-result.result
    (c.scan-result.ensures.told.rights (scan_right c.args.block) (scans_above c.args.block) c.requires.right) c.scan-result.ensures.scanned

pub returns-clause-next : goal.returns-clause-next
returns-clause-next g c = λ other verdicts more is.
    scanned_next (meaning g.K.Code.encoding g.V.Code.encoding g.K.Code.is_encodable g.V.Code.is_encodable g.K.Code.is_decodable g.V.Code.is_decodable g.P.Properties.age) g.D.Disk.byte_at c.scan-result.new.mine.me.0 c.step_again.new.session.witness.me.0 c.args.block other more c.scan-result.result verdicts c.step_again.result c.step_again.ensures.told is

pub returns-clause-told : goal.returns-clause-told
returns-clause-told g c = record {
  scanned = c.scan-result.new.mine.me.0;
  outcome = c.scan-result.result;
  access = c.scan-result.ensures.told;
  read = c.scan-result.ensures.scanned;
  report = c.step_again.ensures.told;
}

pub returns-clause-noted : goal.returns-clause-noted
returns-clause-noted g c = (c.scan-result.result, c.step_again.ensures.noted)

pub returns-clause-on : goal.returns-clause-on
returns-clause-on g c =
    on_on (meaning g.K.Code.encoding g.V.Code.encoding g.K.Code.is_encodable g.V.Code.is_encodable g.K.Code.is_decodable g.V.Code.is_decodable g.P.Properties.age) g.D.Disk.byte_at c.args.session.now.witness.me.0 c.scan-result.new.mine.me.0 c.step_again.new.session.witness.me.0
    (scan_on (meaning g.K.Code.encoding g.V.Code.encoding g.K.Code.is_encodable g.V.Code.is_encodable g.K.Code.is_decodable g.V.Code.is_decodable g.P.Properties.age) g.D.Disk.byte_at c.args.session.now.witness.me.0 c.scan-result.new.mine.me.0 c.args.block c.scan-result.result c.scan-result.ensures.told) c.step_again.ensures.on
