use Rattle.std.proofs.Common.{sym, ap, subst, ◌∙◌}
use Rattle.foyer_core_laws.specs.Content.{meaning}
use Rattle.foyer_core_told.specs.ToldSteps.{IsOpeningOf}
use Rattle.foyer_core_told.specs.Telling.{StandsAt, WasOpened}
use Rattle.foyer_io_told.specs.ToldAccess.{LiesAt}
use Rattle.foyer_core_threads.proofs.ReclaimLemmas.{sizes_seen}
use Rattle.foyer_core_threads.proofs.ToldOpenings.{all_new, opened_has, opened_seen, rights_parted, opened_stands, opened_lies}
use Rattle.foyer_core_threads.proofs.shared.ToldShared.new.Goals as goal

pub tell_opening-requires-clause-new : goal.tell_opening-requires-clause-new
tell_opening-requires-clause-new g c = all_new c.args.witness.me.0 (ap (λ x. x.0) c.requires.witness.1)

pub tell_opening-requires-clause-opened : goal.tell_opening-requires-clause-opened
tell_opening-requires-clause-opened g c = subst WasOpened (sym c.core.ensures) c.requires.opened

pub new-core-requires-clause-right : goal.new-core-requires-clause-right
new-core-requires-clause-right g c = (rights_parted c.tell_opening.new.witness.me.0 c.give_others-of_disk.new.witness.me.0 c.give_others-of_disk.result.me.0 c.give_others-witness.new.witness.me.0 c.give_others-witness.result.me.0 (opened_has c.args.witness.me.0 c.tell_opening.new.witness.me.0 c.core.result.now c.args.disk (ap (λ x. x.0) c.requires.witness.1) c.tell_opening.ensures.told) (ap (λ x. x.0) c.give_others-of_disk.ensures.same.1) (ap (λ x. x.0) c.give_others-of_disk.ensures.given.1) (ap (λ x. x.0) c.give_others-witness.ensures.same.1) (ap (λ x. x.0) c.give_others-witness.ensures.given.1)).core

pub new-core-requires-clause-opening : goal.new-core-requires-clause-opening
new-core-requires-clause-opening g c =
    let p = rights_parted c.tell_opening.new.witness.me.0 c.give_others-of_disk.new.witness.me.0 c.give_others-of_disk.result.me.0 c.give_others-witness.new.witness.me.0 c.give_others-witness.result.me.0 (opened_has c.args.witness.me.0 c.tell_opening.new.witness.me.0 c.core.result.now c.args.disk (ap (λ x. x.0) c.requires.witness.1) c.tell_opening.ensures.told) (ap (λ x. x.0) c.give_others-of_disk.ensures.same.1) (ap (λ x. x.0) c.give_others-of_disk.ensures.given.1) (ap (λ x. x.0) c.give_others-witness.ensures.same.1) (ap (λ x. x.0) c.give_others-witness.ensures.given.1) in
    let e = c.tell_opening.ensures.told in
    (e.0, c.args.disk, subst (λ x. IsOpeningOf x c.args.disk e.0) c.core.ensures e.1, p.own_seen ∙ opened_seen (meaning g.K.Code.encoding g.V.Code.encoding g.K.Code.is_encodable g.V.Code.is_encodable g.K.Code.is_decodable g.V.Code.is_decodable g.P.Properties.age) g.D.Disk.byte_at c.args.witness.me.0 c.tell_opening.new.witness.me.0 c.core.result.now c.args.disk e)

pub new-core-requires-clause-told : goal.new-core-requires-clause-told
new-core-requires-clause-told g c =
    let p = rights_parted c.tell_opening.new.witness.me.0 c.give_others-of_disk.new.witness.me.0 c.give_others-of_disk.result.me.0 c.give_others-witness.new.witness.me.0 c.give_others-witness.result.me.0 (opened_has c.args.witness.me.0 c.tell_opening.new.witness.me.0 c.core.result.now c.args.disk (ap (λ x. x.0) c.requires.witness.1) c.tell_opening.ensures.told) (ap (λ x. x.0) c.give_others-of_disk.ensures.same.1) (ap (λ x. x.0) c.give_others-of_disk.ensures.given.1) (ap (λ x. x.0) c.give_others-witness.ensures.same.1) (ap (λ x. x.0) c.give_others-witness.ensures.given.1) in
    subst (λ x. StandsAt (meaning g.K.Code.encoding g.V.Code.encoding g.K.Code.is_encodable g.V.Code.is_encodable g.K.Code.is_decodable g.V.Code.is_decodable g.P.Properties.age) g.D.Disk.byte_at c.give_others-of_disk.new.witness.me.0.seen x) c.core.ensures (subst (λ l. StandsAt (meaning g.K.Code.encoding g.V.Code.encoding g.K.Code.is_encodable g.V.Code.is_encodable g.K.Code.is_decodable g.V.Code.is_decodable g.P.Properties.age) g.D.Disk.byte_at l c.core.result.now) (sym p.own_seen) (opened_stands (meaning g.K.Code.encoding g.V.Code.encoding g.K.Code.is_encodable g.V.Code.is_encodable g.K.Code.is_decodable g.V.Code.is_decodable g.P.Properties.age) g.D.Disk.byte_at c.args.witness.me.0 c.tell_opening.new.witness.me.0 c.core.result.now c.args.disk c.tell_opening.ensures.told))

pub new-disk-requires-clause-right : goal.new-disk-requires-clause-right
new-disk-requires-clause-right g c = (rights_parted c.tell_opening.new.witness.me.0 c.give_others-of_disk.new.witness.me.0 c.give_others-of_disk.result.me.0 c.give_others-witness.new.witness.me.0 c.give_others-witness.result.me.0 (opened_has c.args.witness.me.0 c.tell_opening.new.witness.me.0 c.core.result.now c.args.disk (ap (λ x. x.0) c.requires.witness.1) c.tell_opening.ensures.told) (ap (λ x. x.0) c.give_others-of_disk.ensures.same.1) (ap (λ x. x.0) c.give_others-of_disk.ensures.given.1) (ap (λ x. x.0) c.give_others-witness.ensures.same.1) (ap (λ x. x.0) c.give_others-witness.ensures.given.1)).disk

pub new-disk-requires-clause-told : goal.new-disk-requires-clause-told
new-disk-requires-clause-told g c =
    let p = rights_parted c.tell_opening.new.witness.me.0 c.give_others-of_disk.new.witness.me.0 c.give_others-of_disk.result.me.0 c.give_others-witness.new.witness.me.0 c.give_others-witness.result.me.0 (opened_has c.args.witness.me.0 c.tell_opening.new.witness.me.0 c.core.result.now c.args.disk (ap (λ x. x.0) c.requires.witness.1) c.tell_opening.ensures.told) (ap (λ x. x.0) c.give_others-of_disk.ensures.same.1) (ap (λ x. x.0) c.give_others-of_disk.ensures.given.1) (ap (λ x. x.0) c.give_others-witness.ensures.same.1) (ap (λ x. x.0) c.give_others-witness.ensures.given.1) in
    subst (λ l. LiesAt (meaning g.K.Code.encoding g.V.Code.encoding g.K.Code.is_encodable g.V.Code.is_encodable g.K.Code.is_decodable g.V.Code.is_decodable g.P.Properties.age) g.D.Disk.byte_at l c.args.disk) (sym p.disk_seen) (opened_lies (meaning g.K.Code.encoding g.V.Code.encoding g.K.Code.is_encodable g.V.Code.is_encodable g.K.Code.is_decodable g.V.Code.is_decodable g.P.Properties.age) g.D.Disk.byte_at c.args.witness.me.0 c.tell_opening.new.witness.me.0 c.core.result.now c.args.disk c.tell_opening.ensures.told)

pub returns-clause-seen : goal.returns-clause-seen
returns-clause-seen g c =
    let p = rights_parted c.tell_opening.new.witness.me.0 c.give_others-of_disk.new.witness.me.0 c.give_others-of_disk.result.me.0 c.give_others-witness.new.witness.me.0 c.give_others-witness.result.me.0 (opened_has c.args.witness.me.0 c.tell_opening.new.witness.me.0 c.core.result.now c.args.disk (ap (λ x. x.0) c.requires.witness.1) c.tell_opening.ensures.told) (ap (λ x. x.0) c.give_others-of_disk.ensures.same.1) (ap (λ x. x.0) c.give_others-of_disk.ensures.given.1) (ap (λ x. x.0) c.give_others-witness.ensures.same.1) (ap (λ x. x.0) c.give_others-witness.ensures.given.1) in
    let e = c.tell_opening.ensures.told in
    (e.0, subst (λ x. IsOpeningOf x c.args.disk e.0) c.core.ensures e.1, p.rest_seen ∙ opened_seen (meaning g.K.Code.encoding g.V.Code.encoding g.K.Code.is_encodable g.V.Code.is_encodable g.K.Code.is_decodable g.V.Code.is_decodable g.P.Properties.age) g.D.Disk.byte_at c.args.witness.me.0 c.tell_opening.new.witness.me.0 c.core.result.now c.args.disk e)

pub returns-clause-sizes : goal.returns-clause-sizes
returns-clause-sizes g c =
    let p = rights_parted c.tell_opening.new.witness.me.0 c.give_others-of_disk.new.witness.me.0 c.give_others-of_disk.result.me.0 c.give_others-witness.new.witness.me.0 c.give_others-witness.result.me.0 (opened_has c.args.witness.me.0 c.tell_opening.new.witness.me.0 c.core.result.now c.args.disk (ap (λ x. x.0) c.requires.witness.1) c.tell_opening.ensures.told) (ap (λ x. x.0) c.give_others-of_disk.ensures.same.1) (ap (λ x. x.0) c.give_others-of_disk.ensures.given.1) (ap (λ x. x.0) c.give_others-witness.ensures.same.1) (ap (λ x. x.0) c.give_others-witness.ensures.given.1) in
    let e = c.tell_opening.ensures.told in
    sizes_seen (meaning g.K.Code.encoding g.V.Code.encoding g.K.Code.is_encodable g.V.Code.is_encodable g.K.Code.is_decodable g.V.Code.is_decodable g.P.Properties.age) g.D.Disk.byte_at c.give_others-witness.result.me.0.seen e.0 c.args.locked.noted.core c.args.disk (subst (λ x. IsOpeningOf x c.args.disk e.0) c.core.ensures e.1)
    (p.rest_seen ∙ opened_seen (meaning g.K.Code.encoding g.V.Code.encoding g.K.Code.is_encodable g.V.Code.is_encodable g.K.Code.is_decodable g.V.Code.is_decodable g.P.Properties.age) g.D.Disk.byte_at c.args.witness.me.0 c.tell_opening.new.witness.me.0 c.core.result.now c.args.disk e)

pub returns-clause-rights : goal.returns-clause-rights
returns-clause-rights g c = (rights_parted c.tell_opening.new.witness.me.0 c.give_others-of_disk.new.witness.me.0 c.give_others-of_disk.result.me.0 c.give_others-witness.new.witness.me.0 c.give_others-witness.result.me.0 (opened_has c.args.witness.me.0 c.tell_opening.new.witness.me.0 c.core.result.now c.args.disk (ap (λ x. x.0) c.requires.witness.1) c.tell_opening.ensures.told) (ap (λ x. x.0) c.give_others-of_disk.ensures.same.1) (ap (λ x. x.0) c.give_others-of_disk.ensures.given.1) (ap (λ x. x.0) c.give_others-witness.ensures.same.1) (ap (λ x. x.0) c.give_others-witness.ensures.given.1)).others
