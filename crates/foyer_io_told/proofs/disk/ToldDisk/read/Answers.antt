use Rattle.std.proofs.Common.{refl, ◌∙◌}
use Rattle.foyer_core_laws.specs.Content.{meaning}
use Rattle.foyer_core_told.specs.declared.event.Told.TheVariants as told
use Rattle.foyer_core_told.specs.ToldLoads.{IsReadOf}
use Rattle.foyer_core_told.specs.ToldRights.{ticket_right}
use Rattle.foyer_io_told.proofs.ToldAccessLemmas.{access_rights, accessed}
use Rattle.foyer_io_told.proofs.ToldReads.{of_read, read_may, read_lies, read_known}
use Rattle.foyer_io_told.proofs.disk.ToldDisk.read.Goals as goal

pub add_with-requires-clause-rights : goal.add_with-requires-clause-rights
add_with-requires-clause-rights g c = access_rights c.self.inside.witness.me.0 c.args.mine.now.me.0 (told.Reads c.args.number c.of.result) (ticket_right c.args.number) c.self.invariant.2 c.requires.right (of_read {K = g.row.K.Denot} {V = g.row.V.Denot} {P = g.row.P.Denot} {A = g.row.A.Denot} {D = g.row.D.Denot} (told.Reads c.args.number c.of.result) c.args.number c.in-Ok.outcome (refl, c.of.ensures))

pub add_with-requires-clause-may : goal.add_with-requires-clause-may
add_with-requires-clause-may g c = read_may (meaning g.K.Code.encoding g.V.Code.encoding g.K.Code.is_encodable g.V.Code.is_encodable g.K.Code.is_decodable g.V.Code.is_decodable g.P.Properties.age) g.D.Disk.byte_at c.self.inside.witness.me.0 c.args.mine.now.me.0 c.self.inside.disk (told.Reads c.args.number c.of.result) c.args.number c.args.ticket.now c.in-Ok.outcome c.self.invariant.2 c.self.invariant.4 c.requires.right c.requires.ticket (refl, c.of.ensures) (c.in-Ok.ensures.read c.self.invariant.3) c.in-Ok.ensures.len

pub invariant_of-self-2 : goal.invariant_of-self-2
invariant_of-self-2 g c =
    let i = c.self.invariant in
    (c.add_with.ensures.same.0 ∙ i.0, c.add_with.ensures.whole.0, c.add_with.ensures.added.right i.2, c.do_read.ensures.known i.3, read_lies (meaning g.K.Code.encoding g.V.Code.encoding g.K.Code.is_encodable g.V.Code.is_encodable g.K.Code.is_decodable g.V.Code.is_decodable g.P.Properties.age) g.D.Disk.byte_at c.self.inside.witness.me.0 c.args.mine.now.me.0 c.add_with.new.own.me.0 c.add_with.new.mine.me.0 (told.Reads c.args.number c.of.result) c.self.inside.disk c.do_read.new.disk c.args.number c.in-Ok.outcome i.2 i.4 c.add_with.ensures.added (refl, c.of.ensures) c.do_read.ensures.same)

pub returns-clause-told : goal.returns-clause-told
returns-clause-told g c = accessed (meaning g.K.Code.encoding g.V.Code.encoding g.K.Code.is_encodable g.V.Code.is_encodable g.K.Code.is_decodable g.V.Code.is_decodable g.P.Properties.age) g.D.Disk.byte_at c.self.inside.witness.me.0 c.args.mine.now.me.0 c.add_with.new.own.me.0 c.add_with.new.mine.me.0 (told.Reads c.args.number c.of.result) (λ e. IsReadOf e c.args.number c.in-Ok.outcome) c.add_with.ensures.added (refl, c.of.ensures)

pub returns-clause-read : goal.returns-clause-read
returns-clause-read g c = read_known (meaning g.K.Code.encoding g.V.Code.encoding g.K.Code.is_encodable g.V.Code.is_encodable g.K.Code.is_decodable g.V.Code.is_decodable g.P.Properties.age) g.D.Disk.byte_at c.self.inside.witness.me.0 c.args.mine.now.me.0 c.add_with.new.own.me.0 c.add_with.new.mine.me.0 (told.Reads c.args.number c.of.result) c.args.number c.args.ticket.now c.in-Ok.outcome c.requires.right c.requires.ticket c.add_with.ensures.added (refl, c.of.ensures)
