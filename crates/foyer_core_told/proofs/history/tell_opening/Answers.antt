use Rattle.foyer_core_laws.specs.Content.{meaning}
use Rattle.foyer_core_told.specs.declared.event.Told.TheVariants as told
use Rattle.foyer_core_told.proofs.TellingLemmas.{opening_rights, opening_may, opening_has}
use Rattle.foyer_core_told.proofs.history.tell_opening.Goals as goal

pub add-requires-clause-rights : goal.add-requires-clause-rights
add-requires-clause-rights g c =
    opening_rights (meaning g.K.Code.encoding g.V.Code.encoding g.K.Code.is_encodable g.V.Code.is_encodable g.K.Code.is_decodable g.V.Code.is_decodable g.P.Properties.age) g.D.Disk.byte_at c.args.witness.now.me.0 (told.Opened c.of.result c.of-2.result) c.args.core.now c.args.disk.now c.requires.new (c.of.ensures, c.of-2.ensures)

pub add-requires-clause-may : goal.add-requires-clause-may
add-requires-clause-may g c =
    opening_may (meaning g.K.Code.encoding g.V.Code.encoding g.K.Code.is_encodable g.V.Code.is_encodable g.K.Code.is_decodable g.V.Code.is_decodable g.P.Properties.age) g.D.Disk.byte_at c.args.witness.now.me.0 (told.Opened c.of.result c.of-2.result) c.args.core.now c.args.disk.now c.requires.new c.requires.opened (c.of.ensures, c.of-2.ensures)

pub returns-clause-told : goal.returns-clause-told
returns-clause-told g c =
    opening_has (meaning g.K.Code.encoding g.V.Code.encoding g.K.Code.is_encodable g.V.Code.is_encodable g.K.Code.is_decodable g.V.Code.is_decodable g.P.Properties.age) g.D.Disk.byte_at c.args.witness.now.me.0 (told.Opened c.of.result c.of-2.result) c.args.core.now c.args.disk.now c.add.new.witness.me.0 c.requires.new (c.of.ensures, c.of-2.ensures) c.add.ensures.added
