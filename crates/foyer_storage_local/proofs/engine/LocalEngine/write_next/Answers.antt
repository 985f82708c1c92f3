use Rattle.foyer_core_laws.specs.Content.{meaning}
use Rattle.foyer_storage_local.proofs.LocalRuns.{lies_more, waits_on, waits_written, written_alone, written_reclaimed}
use Rattle.foyer_storage_local.proofs.engine.LocalEngine.write_next.Goals as goal

pub returns-in-Err-NoSpace-clause-leads : goal.returns-in-Err-NoSpace-clause-leads
returns-in-Err-NoSpace-clause-leads g c =
    let m = meaning g.K.Code.encoding g.V.Code.encoding g.K.Code.is_encodable g.V.Code.is_encodable g.K.Code.is_decodable g.V.Code.is_decodable g.P.Properties.age in
    written_reclaimed m c.args.self.now.env.reinsertion c.write_block-wrote.new.env.reinsertion c.write_block-wrote.ensures.lent.0 c.args.flusher c.args.self.now.core c.write_block-wrote.new.core c.make_room.new.self.core c.write_block-wrote.ensures.leads c.make_room.ensures.leads

pub returns-in-Err-NoSpace-clause-waited : goal.returns-in-Err-NoSpace-clause-waited
returns-in-Err-NoSpace-clause-waited g c =
    let m = meaning g.K.Code.encoding g.V.Code.encoding g.K.Code.is_encodable g.V.Code.is_encodable g.K.Code.is_decodable g.V.Code.is_decodable g.P.Properties.age in
    waits_on m g.D.Disk.is_known g.D.Disk.byte_at g.D.Disk.surely_lies g.D.Disk.faults c.args.self.now.core c.write_block-wrote.new.core c.make_room.new.self.core c.args.self.now.disk c.write_block-wrote.new.disk c.make_room.new.self.disk
    (waits_written m g.D.Disk.is_known g.D.Disk.byte_at g.D.Disk.surely_lies g.D.Disk.faults (g.D.Disk.surely_has c.args.self.now.disk) c.args.self.now.core c.write_block-wrote.new.core c.args.self.now.disk c.write_block-wrote.new.disk (c.write_block-wrote.ensures.lies, c.write_block-wrote.ensures.counted) c.write_block-wrote.ensures.known c.write_block-wrote.ensures.caused)
    c.make_room.ensures.waited

pub returns-in_default-clause-leads : goal.returns-in_default-clause-leads
returns-in_default-clause-leads g c =
    let m = meaning g.K.Code.encoding g.V.Code.encoding g.K.Code.is_encodable g.V.Code.is_encodable g.K.Code.is_decodable g.V.Code.is_decodable g.P.Properties.age in
    written_alone m c.args.self.now.env.reinsertion c.args.flusher c.args.self.now.core c.write_block-wrote.new.core c.write_block-wrote.ensures.leads

pub returns-in_default-clause-waited : goal.returns-in_default-clause-waited
returns-in_default-clause-waited g c =
    let m = meaning g.K.Code.encoding g.V.Code.encoding g.K.Code.is_encodable g.V.Code.is_encodable g.K.Code.is_decodable g.V.Code.is_decodable g.P.Properties.age in
    waits_written m g.D.Disk.is_known g.D.Disk.byte_at g.D.Disk.surely_lies g.D.Disk.faults (g.D.Disk.surely_has c.args.self.now.disk) c.args.self.now.core c.write_block-wrote.new.core c.args.self.now.disk c.write_block-wrote.new.disk (c.write_block-wrote.ensures.lies, c.write_block-wrote.ensures.counted) c.write_block-wrote.ensures.known c.write_block-wrote.ensures.caused

pub returns-in_default-2-clause-leads : goal.returns-in_default-2-clause-leads
returns-in_default-2-clause-leads g c =
    let m = meaning g.K.Code.encoding g.V.Code.encoding g.K.Code.is_encodable g.V.Code.is_encodable g.K.Code.is_decodable g.V.Code.is_decodable g.P.Properties.age in
    written_alone m c.args.self.now.env.reinsertion c.args.flusher c.args.self.now.core c.write_block-wrote.new.core c.write_block-wrote.ensures.leads

pub returns-in_default-2-clause-waited : goal.returns-in_default-2-clause-waited
returns-in_default-2-clause-waited g c =
    let m = meaning g.K.Code.encoding g.V.Code.encoding g.K.Code.is_encodable g.V.Code.is_encodable g.K.Code.is_decodable g.V.Code.is_decodable g.P.Properties.age in
    waits_written m g.D.Disk.is_known g.D.Disk.byte_at g.D.Disk.surely_lies g.D.Disk.faults (g.D.Disk.surely_has c.args.self.now.disk) c.args.self.now.core c.write_block-wrote.new.core c.args.self.now.disk c.write_block-wrote.new.disk (c.write_block-wrote.ensures.lies, c.write_block-wrote.ensures.counted) c.write_block-wrote.ensures.known c.write_block-wrote.ensures.caused

pub returns-in-Err-NoSpace-clause-counts : goal.returns-in-Err-NoSpace-clause-counts
returns-in-Err-NoSpace-clause-counts g c = lies_more g.D.Disk.surely_lies g.D.Disk.faults c.args.self.now.disk c.write_block-wrote.new.disk c.make_room.new.self.disk (c.write_block-wrote.ensures.lies, c.write_block-wrote.ensures.counted) c.make_room.ensures.counts

pub returns-in_default-clause-counts : goal.returns-in_default-clause-counts
returns-in_default-clause-counts g c = (c.write_block-wrote.ensures.lies, c.write_block-wrote.ensures.counted)

pub returns-in_default-2-clause-counts : goal.returns-in_default-2-clause-counts
returns-in_default-2-clause-counts g c = (c.write_block-wrote.ensures.lies, c.write_block-wrote.ensures.counted)
