use Rattle.std.proofs.Common.{refl, ◌∙◌, is_ok}
use Rattle.foyer_core_laws.specs.Content.{meaning}
use Rattle.foyer_core_told.specs.declared.event.Told.TheVariants as told
use Rattle.foyer_core_told.specs.ToldRights.{clean_right}
use Rattle.foyer_io_told.specs.ToldAccess.{IsCleanOf}
use Rattle.foyer_io_told.proofs.ToldBytes.{clean_done_is}
use Rattle.foyer_io_told.proofs.ToldAccessLemmas.{access_rights, accessed}
use Rattle.foyer_io_told.proofs.ToldWrites.{of_clean, clean_left, clean_may, left_lies, clean_known}
use Rattle.foyer_io_told.proofs.disk.ToldDisk.clean.Goals as goal

pub add_with-requires-clause-rights : goal.add_with-requires-clause-rights
add_with-requires-clause-rights g c = access_rights c.self.inside.witness.me.0 c.args.mine.now.me.0 (told.Cleans c.args.block c.is_ok-went_well.result c.of.result) (clean_right c.args.block) c.self.invariant.2 c.requires.right (of_clean {K = g.row.K.Denot} {V = g.row.V.Denot} {P = g.row.P.Denot} {A = g.row.A.Denot} (told.Cleans c.args.block c.is_ok-went_well.result c.of.result) c.args.block (is_ok c.clean-outcome.result) c.clean-outcome.new.disk (refl, c.is_ok-went_well.ensures.value, c.of.ensures))

pub add_with-requires-clause-may : goal.add_with-requires-clause-may
add_with-requires-clause-may g c =
    clean_may (meaning g.K.Code.encoding g.V.Code.encoding g.K.Code.is_encodable g.V.Code.is_encodable g.K.Code.is_decodable g.V.Code.is_decodable g.P.Properties.age) g.D.Disk.byte_at c.self.inside.witness.me.0 c.args.mine.now.me.0 c.self.inside.disk c.clean-outcome.new.disk (told.Cleans c.args.block c.is_ok-went_well.result c.of.result) c.args.block (is_ok c.clean-outcome.result) c.self.invariant.2 c.self.invariant.4 c.requires.right c.requires.clean (refl, c.is_ok-went_well.ensures.value, c.of.ensures)
    (clean_done_is (g.D.Disk.byte_at c.self.inside.disk) (g.D.Disk.byte_at c.clean-outcome.new.disk) c.args.block c.clean-outcome.result (is_ok c.clean-outcome.result) (c.clean-outcome.ensures.cleaned c.self.invariant.3) (c.clean-outcome.ensures.torn c.self.invariant.3) refl)

pub invariant_of-self : goal.invariant_of-self
invariant_of-self g c =
    let i = c.self.invariant in
    (c.add_with.ensures.same.0 ∙ i.0, c.add_with.ensures.whole.0, c.add_with.ensures.added.right i.2, c.clean-outcome.ensures.known i.3, left_lies (meaning g.K.Code.encoding g.V.Code.encoding g.K.Code.is_encodable g.V.Code.is_encodable g.K.Code.is_decodable g.V.Code.is_decodable g.P.Properties.age) g.D.Disk.byte_at c.self.inside.witness.me.0 c.args.mine.now.me.0 c.add_with.new.own.me.0 c.add_with.new.mine.me.0 (told.Cleans c.args.block c.is_ok-went_well.result c.of.result) c.clean-outcome.new.disk c.add_with.ensures.added (clean_left {K = g.row.K.Denot} {V = g.row.V.Denot} {P = g.row.P.Denot} {A = g.row.A.Denot} (told.Cleans c.args.block c.is_ok-went_well.result c.of.result) c.args.block (is_ok c.clean-outcome.result) c.clean-outcome.new.disk (refl, c.is_ok-went_well.ensures.value, c.of.ensures)))

pub returns-clause-told : goal.returns-clause-told
returns-clause-told g c = (c.clean-outcome.new.disk, accessed (meaning g.K.Code.encoding g.V.Code.encoding g.K.Code.is_encodable g.V.Code.is_encodable g.K.Code.is_decodable g.V.Code.is_decodable g.P.Properties.age) g.D.Disk.byte_at c.self.inside.witness.me.0 c.args.mine.now.me.0 c.add_with.new.own.me.0 c.add_with.new.mine.me.0 (told.Cleans c.args.block c.is_ok-went_well.result c.of.result) (λ e. IsCleanOf e c.args.block (is_ok c.clean-outcome.result) c.clean-outcome.new.disk) c.add_with.ensures.added (refl, c.is_ok-went_well.ensures.value, c.of.ensures))

pub returns-clause-cleaned : goal.returns-clause-cleaned
returns-clause-cleaned g c = clean_known (meaning g.K.Code.encoding g.V.Code.encoding g.K.Code.is_encodable g.V.Code.is_encodable g.K.Code.is_decodable g.V.Code.is_decodable g.P.Properties.age) g.D.Disk.byte_at c.self.inside.witness.me.0 c.args.mine.now.me.0 c.add_with.new.own.me.0 c.add_with.new.mine.me.0 (told.Cleans c.args.block c.is_ok-went_well.result c.of.result) c.args.block (is_ok c.clean-outcome.result) c.clean-outcome.new.disk c.requires.right c.requires.clean c.add_with.ensures.added (refl, c.is_ok-went_well.ensures.value, c.of.ensures)
