use Rattle.std.proofs.Common.{◌≡◌, ◌<◌, [], map, drop, Option}
use Rattle.foyer_core_chronicle.specs.Rights.{times}
use Rattle.foyer_core_flusher.specs.Issuing.{write_of}
use Rattle.foyer_core_laws.specs.Content.{meaning}
use Rattle.foyer_core_told.specs.ToldRights.{writes_right}
use Rattle.foyer_core_chronicle.specs.declared.View.{View}
use Rattle.foyer_core_steps.specs.declared.reply.Reply.{Reply}
use Rattle.foyer_core_told.specs.declared.event.Told.{Told}
use Rattle.foyer_core_threads.specs.Asking.{AreToWrite}
use Rattle.foyer_core_threads.specs.Done.{HasWroteAll}
use Rattle.foyer_core_threads.specs.Going.{GoesOn}
use Rattle.foyer_core_threads.proofs.shared.ToldShared.write_all.Given as goal

abbrev pub invariant-writes : goal.invariant-writes
invariant-writes g l =
    (l.session.witness.table_id ≡ g.J.HistoryName.table) × (l.session.witness.me.1 ≡ []) × (l.session.session.shares.parts ≡ l.fn.session.session.shares.parts)
    × (0 < times (writes_right l.flusher) l.session.witness.me.0.has)
    × AreToWrite (meaning g.K.Code.encoding g.V.Code.encoding g.K.Code.is_encodable g.V.Code.is_encodable g.K.Code.is_decodable g.V.Code.is_decodable g.P.Properties.age) g.D.Disk.byte_at l.session.witness.me.0.seen l.flusher l.block (map write_of (drop l.write-index l.writes))
    × GoesOn (meaning g.K.Code.encoding g.V.Code.encoding g.K.Code.is_encodable g.V.Code.is_encodable g.K.Code.is_decodable g.V.Code.is_decodable g.P.Properties.age) g.D.Disk.byte_at l.fn.session.witness.me.0 l.session.witness.me.0
    × ((after : View (Told g.row.K.Denot g.row.V.Denot g.row.P.Denot g.row.A.Denot g.row.D.Denot)) (last : Option (Reply g.row.K.Denot g.row.V.Denot g.row.P.Denot g.row.A.Denot))
    → HasWroteAll (meaning g.K.Code.encoding g.V.Code.encoding g.K.Code.is_encodable g.V.Code.is_encodable g.K.Code.is_decodable g.V.Code.is_decodable g.P.Properties.age) g.D.Disk.byte_at g.N.Noting.keeps l.session.witness.me.0 after l.flusher l.block (map write_of (drop l.write-index l.writes)) last
    → HasWroteAll (meaning g.K.Code.encoding g.V.Code.encoding g.K.Code.is_encodable g.V.Code.is_encodable g.K.Code.is_decodable g.V.Code.is_decodable g.P.Properties.age) g.D.Disk.byte_at g.N.Noting.keeps l.fn.session.witness.me.0 after l.flusher l.block (map write_of l.writes) last)
