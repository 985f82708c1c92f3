use Rattle.std.proofs.Common.{refl, sym, ◌∙◌}
use Rattle.foyer_core_laws.specs.Content.{meaning}
use Rattle.foyer_core_told.specs.declared.event.Told.TheVariants as told
use Rattle.foyer_core_told.proofs.TellingLemmas.{step_rights, step_may, step_stands, step_counts, step_adds, step_has}
use Rattle.foyer_core_told.proofs.history.tell_step.Goals as goal

pub add_with-requires-clause-rights : goal.add_with-requires-clause-rights
add_with-requires-clause-rights g c = step_rights (meaning g.K.Code.encoding g.V.Code.encoding g.K.Code.is_encodable g.V.Code.is_encodable g.K.Code.is_decodable g.V.Code.is_decodable g.P.Properties.age) g.D.Disk.byte_at c.args.own.now.me.0 c.args.mine.now.me.0 (told.Steps c.args.step c.of.result c.of-2.result) c.args.step.value c.args.reply.now c.args.core.now c.requires.rights (refl, c.of.ensures, c.of-2.ensures)

pub add_with-requires-clause-may : goal.add_with-requires-clause-may
add_with-requires-clause-may g c = step_may (meaning g.K.Code.encoding g.V.Code.encoding g.K.Code.is_encodable g.V.Code.is_encodable g.K.Code.is_decodable g.V.Code.is_decodable g.P.Properties.age) g.D.Disk.byte_at c.args.own.now.me.0 c.args.mine.now.me.0 (told.Steps c.args.step c.of.result c.of-2.result) c.args.step.value c.args.reply.now c.args.core.now c.requires.rights c.requires.core c.requires.brings (refl, c.of.ensures, c.of-2.ensures)

pub returns-clause-core : goal.returns-clause-core
returns-clause-core g c = step_stands (meaning g.K.Code.encoding g.V.Code.encoding g.K.Code.is_encodable g.V.Code.is_encodable g.K.Code.is_decodable g.V.Code.is_decodable g.P.Properties.age) g.D.Disk.byte_at c.args.own.now.me.0 c.args.mine.now.me.0 c.add_with.new.own.me.0 c.add_with.new.mine.me.0 (told.Steps c.args.step c.of.result c.of-2.result) c.args.step.value c.args.reply.now c.args.core.now (refl, c.of.ensures, c.of-2.ensures) c.add_with.ensures.added

pub returns-clause-counted : goal.returns-clause-counted
returns-clause-counted g c =
    step_counts (meaning g.K.Code.encoding g.V.Code.encoding g.K.Code.is_encodable g.V.Code.is_encodable g.K.Code.is_decodable g.V.Code.is_decodable g.P.Properties.age) g.D.Disk.byte_at c.args.own.now.me.0 c.args.mine.now.me.0 c.add_with.new.own.me.0 c.add_with.new.mine.me.0 (told.Steps c.args.step c.of.result c.of-2.result) c.args.step.value c.args.reply.now c.args.core.now c.args.tickets.now c.count_ticket-number.new.tickets (refl, c.of.ensures, c.of-2.ensures) c.requires.rights.0 c.requires.counted c.count_ticket-number.ensures.same c.count_ticket-number.ensures.more c.add_with.ensures.added

pub returns-clause-told : goal.returns-clause-told
returns-clause-told g c = step_has (meaning g.K.Code.encoding g.V.Code.encoding g.K.Code.is_encodable g.V.Code.is_encodable g.K.Code.is_decodable g.V.Code.is_decodable g.P.Properties.age) g.D.Disk.byte_at c.args.own.now.me.0 c.args.mine.now.me.0 c.add_with.new.own.me.0 c.add_with.new.mine.me.0 (told.Steps c.args.step c.of.result c.of-2.result) c.args.step.value c.args.reply.now c.args.core.now c.count_ticket-number.result (refl, c.of.ensures, c.of-2.ensures) c.requires.rights.0 (c.count_ticket-number.ensures.before ∙ c.requires.counted) c.add_with.ensures.added

pub returns-clause-added : goal.returns-clause-added
returns-clause-added g c = step_adds (meaning g.K.Code.encoding g.V.Code.encoding g.K.Code.is_encodable g.V.Code.is_encodable g.K.Code.is_decodable g.V.Code.is_decodable g.P.Properties.age) g.D.Disk.byte_at c.args.own.now.me.0 c.args.mine.now.me.0 c.add_with.new.own.me.0 c.add_with.new.mine.me.0 (told.Steps c.args.step c.of.result c.of-2.result) c.args.step.value c.args.reply.now c.args.core.now (refl, c.of.ensures, c.of-2.ensures) c.requires.rights.0 c.add_with.ensures.added

pub returns-clause-both : goal.returns-clause-both
returns-clause-both g c = c.add_with.ensures.added.own_seen ∙ sym c.add_with.ensures.added.seen
