use Rattle.std.proofs.Common.{refl, ◌∙◌}
use Rattle.foyer_core_laws.specs.Content.{meaning}
use Rattle.foyer_core_told.specs.declared.event.Told.TheVariants as told
use Rattle.foyer_core_told.specs.ToldRights.{scan_right}
use Rattle.foyer_io_told.specs.ToldAccess.{IsScanOf}
use Rattle.foyer_io_told.proofs.ToldAccessLemmas.{access_rights, accessed}
use Rattle.foyer_io_told.proofs.ToldReads.{of_scan, scan_may, scan_lies, scan_known}
use Rattle.foyer_io_told.proofs.disk.ToldDisk.scan.Goals as goal

pub add_with-requires-clause-rights : goal.add_with-requires-clause-rights
add_with-requires-clause-rights g c = access_rights c.self.inside.witness.me.0 c.args.mine.now.me.0 (told.Scans c.args.block c.of.result) (scan_right c.args.block) c.self.invariant.2 c.requires.right (of_scan {K = g.row.K.Denot} {V = g.row.V.Denot} {P = g.row.P.Denot} {A = g.row.A.Denot} {D = g.row.D.Denot} (told.Scans c.args.block c.of.result) c.args.block c.read_bytes-outcome.result (refl, c.of.ensures))

pub add_with-requires-clause-may : goal.add_with-requires-clause-may
add_with-requires-clause-may g c = scan_may (meaning g.K.Code.encoding g.V.Code.encoding g.K.Code.is_encodable g.V.Code.is_encodable g.K.Code.is_decodable g.V.Code.is_decodable g.P.Properties.age) g.D.Disk.byte_at c.self.inside.witness.me.0 c.args.mine.now.me.0 c.self.inside.disk (told.Scans c.args.block c.of.result) c.args.block c.args.part c.read_bytes-outcome.result c.self.invariant.2 c.self.invariant.4 c.requires.right c.requires.scan (refl, c.of.ensures) (c.read_bytes-outcome.ensures.read c.self.invariant.3) c.read_bytes-outcome.ensures.len

pub invariant_of-self : goal.invariant_of-self
invariant_of-self g c =
    let i = c.self.invariant in
    (c.add_with.ensures.same.0 ∙ i.0, c.add_with.ensures.whole.0, c.add_with.ensures.added.right i.2, c.read_bytes-outcome.ensures.known i.3, scan_lies (meaning g.K.Code.encoding g.V.Code.encoding g.K.Code.is_encodable g.V.Code.is_encodable g.K.Code.is_decodable g.V.Code.is_decodable g.P.Properties.age) g.D.Disk.byte_at c.self.inside.witness.me.0 c.args.mine.now.me.0 c.add_with.new.own.me.0 c.add_with.new.mine.me.0 (told.Scans c.args.block c.of.result) c.self.inside.disk c.read_bytes-outcome.new.disk c.args.block c.read_bytes-outcome.result i.2 i.4 c.add_with.ensures.added (refl, c.of.ensures) c.read_bytes-outcome.ensures.same)

pub returns-clause-told : goal.returns-clause-told
returns-clause-told g c = accessed (meaning g.K.Code.encoding g.V.Code.encoding g.K.Code.is_encodable g.V.Code.is_encodable g.K.Code.is_decodable g.V.Code.is_decodable g.P.Properties.age) g.D.Disk.byte_at c.self.inside.witness.me.0 c.args.mine.now.me.0 c.add_with.new.own.me.0 c.add_with.new.mine.me.0 (told.Scans c.args.block c.of.result) (λ e. IsScanOf e c.args.block c.read_bytes-outcome.result) c.add_with.ensures.added (refl, c.of.ensures)

pub returns-clause-scanned : goal.returns-clause-scanned
returns-clause-scanned g c = scan_known (meaning g.K.Code.encoding g.V.Code.encoding g.K.Code.is_encodable g.V.Code.is_encodable g.K.Code.is_decodable g.V.Code.is_decodable g.P.Properties.age) g.D.Disk.byte_at c.self.inside.witness.me.0 c.args.mine.now.me.0 c.add_with.new.own.me.0 c.add_with.new.mine.me.0 (told.Scans c.args.block c.of.result) c.args.block c.args.part c.read_bytes-outcome.result c.requires.right c.requires.scan c.add_with.ensures.added (refl, c.of.ensures)
