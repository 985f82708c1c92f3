use Rattle.std.proofs.Common.{refl, ◌∙◌, is_ok}
use Rattle.foyer_core_laws.specs.Content.{meaning}
use Rattle.foyer_core_told.specs.declared.event.Told.TheVariants as told
use Rattle.foyer_core_flusher.specs.Issuing.{write_of}
use Rattle.foyer_core_told.specs.ToldRights.{writes_right}
use Rattle.foyer_io_told.specs.ToldAccess.{IsWriteOf}
use Rattle.foyer_io_told.proofs.ToldBytes.{done_is}
use Rattle.foyer_io_told.proofs.ToldAccessLemmas.{access_rights, accessed}
use Rattle.foyer_io_told.proofs.ToldWrites.{of_write, write_left, write_may, left_lies, write_known}
use Rattle.foyer_io_told.proofs.disk.ToldDisk.write.Goals as goal

pub add_with-requires-clause-rights : goal.add_with-requires-clause-rights
add_with-requires-clause-rights g c = access_rights c.self.inside.witness.me.0 c.args.mine.now.me.0 (told.Writes c.args.flusher c.is_ok-went_well.result c.of.result) (writes_right c.args.flusher) c.self.invariant.2 c.requires.right (of_write {K = g.row.K.Denot} {V = g.row.V.Denot} {P = g.row.P.Denot} {A = g.row.A.Denot} (told.Writes c.args.flusher c.is_ok-went_well.result c.of.result) c.args.flusher (is_ok c.do_write-outcome.result) c.do_write-outcome.new.disk (refl, c.is_ok-went_well.ensures.value, c.of.ensures))

pub add_with-requires-clause-may : goal.add_with-requires-clause-may
add_with-requires-clause-may g c = write_may (meaning g.K.Code.encoding g.V.Code.encoding g.K.Code.is_encodable g.V.Code.is_encodable g.K.Code.is_decodable g.V.Code.is_decodable g.P.Properties.age) g.D.Disk.byte_at c.self.inside.witness.me.0 c.args.mine.now.me.0 c.self.inside.disk c.do_write-outcome.new.disk (told.Writes c.args.flusher c.is_ok-went_well.result c.of.result) c.args.flusher c.args.block (write_of c.args.write.now) (is_ok c.do_write-outcome.result) c.self.invariant.2 c.self.invariant.4 c.requires.right c.requires.write.0 c.requires.write.1 c.requires.write.2 (refl, c.is_ok-went_well.ensures.value, c.of.ensures)
    (done_is (g.D.Disk.byte_at c.self.inside.disk) (g.D.Disk.byte_at c.do_write-outcome.new.disk) c.args.block (write_of c.args.write.now) c.do_write-outcome.result (is_ok c.do_write-outcome.result) (c.do_write-outcome.ensures.wrote c.self.invariant.3) (c.do_write-outcome.ensures.torn c.self.invariant.3) refl)

pub invariant_of-self : goal.invariant_of-self
invariant_of-self g c =
    let i = c.self.invariant in
    (c.add_with.ensures.same.0 ∙ i.0, c.add_with.ensures.whole.0, c.add_with.ensures.added.right i.2, c.do_write-outcome.ensures.known i.3, left_lies (meaning g.K.Code.encoding g.V.Code.encoding g.K.Code.is_encodable g.V.Code.is_encodable g.K.Code.is_decodable g.V.Code.is_decodable g.P.Properties.age) g.D.Disk.byte_at c.self.inside.witness.me.0 c.args.mine.now.me.0 c.add_with.new.own.me.0 c.add_with.new.mine.me.0 (told.Writes c.args.flusher c.is_ok-went_well.result c.of.result) c.do_write-outcome.new.disk c.add_with.ensures.added (write_left {K = g.row.K.Denot} {V = g.row.V.Denot} {P = g.row.P.Denot} {A = g.row.A.Denot} (told.Writes c.args.flusher c.is_ok-went_well.result c.of.result) c.args.flusher (is_ok c.do_write-outcome.result) c.do_write-outcome.new.disk (refl, c.is_ok-went_well.ensures.value, c.of.ensures)))

pub returns-clause-told : goal.returns-clause-told
returns-clause-told g c = (c.do_write-outcome.new.disk, accessed (meaning g.K.Code.encoding g.V.Code.encoding g.K.Code.is_encodable g.V.Code.is_encodable g.K.Code.is_decodable g.V.Code.is_decodable g.P.Properties.age) g.D.Disk.byte_at c.self.inside.witness.me.0 c.args.mine.now.me.0 c.add_with.new.own.me.0 c.add_with.new.mine.me.0 (told.Writes c.args.flusher c.is_ok-went_well.result c.of.result) (λ e. IsWriteOf e c.args.flusher (is_ok c.do_write-outcome.result) c.do_write-outcome.new.disk) c.add_with.ensures.added (refl, c.is_ok-went_well.ensures.value, c.of.ensures))

pub returns-clause-wrote : goal.returns-clause-wrote
returns-clause-wrote g c = write_known (meaning g.K.Code.encoding g.V.Code.encoding g.K.Code.is_encodable g.V.Code.is_encodable g.K.Code.is_decodable g.V.Code.is_decodable g.P.Properties.age) g.D.Disk.byte_at c.self.inside.witness.me.0 c.args.mine.now.me.0 c.add_with.new.own.me.0 c.add_with.new.mine.me.0 (told.Writes c.args.flusher c.is_ok-went_well.result c.of.result) c.args.flusher c.args.block (write_of c.args.write.now) (is_ok c.do_write-outcome.result) c.do_write-outcome.new.disk c.requires.right c.add_with.ensures.added (refl, c.is_ok-went_well.ensures.value, c.of.ensures)
