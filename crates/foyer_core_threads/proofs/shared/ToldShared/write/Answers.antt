use Rattle.std.proofs.Common.{[], if◌then◌else◌, is_ok}
use Rattle.foyer_core_laws.specs.Content.{meaning}
use Rattle.foyer_core_told.specs.ToldRights.{writes_right}
use Rattle.foyer_core_threads.proofs.AgainLemmas.{written_next, written_well}
use Rattle.foyer_core_threads.proofs.HistoryJoins.{writes_above}
use Rattle.foyer_core_threads.proofs.WriteLemmas.{write_brings}
use Rattle.foyer_core_threads.proofs.GoingLemmas.{on_on, write_on}
use Rattle.foyer_core_threads.proofs.shared.ToldShared.write.Goals as goal

pub step_again-requires-clause-brings : goal.step_again-requires-clause-brings
step_again-requires-clause-brings g c =
    write_brings (meaning g.K.Code.encoding g.V.Code.encoding g.K.Code.is_encodable g.V.Code.is_encodable g.K.Code.is_decodable g.V.Code.is_decodable g.P.Properties.age) g.D.Disk.byte_at c.write-result.new.mine.me.0 c.args.flusher c.args.block c.write-result.result (if is_ok c.write-result.result then c.requires.write.0 else [])
    (c.write-result.ensures.told.1.rights (writes_right c.args.flusher) (writes_above c.args.flusher) c.requires.right) (c.write-result.ensures.wrote [] c.requires.write.0 c.requires.write.1)

pub returns-clause-next : goal.returns-clause-next
returns-clause-next g c = λ left issued is.
    written_next (meaning g.K.Code.encoding g.V.Code.encoding g.K.Code.is_encodable g.V.Code.is_encodable g.K.Code.is_decodable g.V.Code.is_decodable g.P.Properties.age) g.D.Disk.byte_at c.write-result.new.mine.me.0 c.step_again.new.session.witness.me.0 c.args.flusher c.args.block c.write-result.result left c.step_again.result
    (c.write-result.ensures.told.1.rights (writes_right c.args.flusher) (writes_above c.args.flusher) c.requires.right) (c.write-result.ensures.wrote [] left issued) c.step_again.ensures.told is

pub returns-clause-told : goal.returns-clause-told
returns-clause-told g c = record {
  wrote = c.write-result.new.mine.me.0;
  outcome = c.write-result.result;
  disk = c.write-result.ensures.told.0;
  access = c.write-result.ensures.told.1;
  left = c.write-result.ensures.wrote;
  report = c.step_again.ensures.told;
  well = λ is. written_well (meaning g.K.Code.encoding g.V.Code.encoding g.K.Code.is_encodable g.V.Code.is_encodable g.K.Code.is_decodable g.V.Code.is_decodable g.P.Properties.age) g.D.Disk.byte_at c.write-result.new.mine.me.0 c.step_again.new.session.witness.me.0 c.args.flusher c.write-result.result c.step_again.result c.step_again.ensures.told is;
}

pub returns-clause-noted : goal.returns-clause-noted
returns-clause-noted g c = (c.write-result.result, c.step_again.ensures.noted)

pub returns-clause-on : goal.returns-clause-on
returns-clause-on g c =
    on_on (meaning g.K.Code.encoding g.V.Code.encoding g.K.Code.is_encodable g.V.Code.is_encodable g.K.Code.is_decodable g.V.Code.is_decodable g.P.Properties.age) g.D.Disk.byte_at c.args.session.now.witness.me.0 c.write-result.new.mine.me.0 c.step_again.new.session.witness.me.0
    (write_on (meaning g.K.Code.encoding g.V.Code.encoding g.K.Code.is_encodable g.V.Code.is_encodable g.K.Code.is_decodable g.V.Code.is_decodable g.P.Properties.age) g.D.Disk.byte_at c.args.session.now.witness.me.0 c.write-result.new.mine.me.0 c.args.flusher (is_ok c.write-result.result) c.write-result.ensures.told.0 c.write-result.ensures.told.1) c.step_again.ensures.on
