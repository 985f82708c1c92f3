use Rattle.std.proofs.Common.{is_ok}
use Rattle.foyer_core_laws.specs.Content.{meaning}
use Rattle.foyer_core_told.specs.ToldRights.{clean_right}
use Rattle.foyer_core_threads.proofs.HistoryJoins.{cleans_above}
use Rattle.foyer_core_threads.proofs.ReclaimLemmas.{clean_brings}
use Rattle.foyer_core_threads.proofs.GoingLemmas.{on_on, clean_on}
use Rattle.foyer_core_threads.proofs.shared.ToldShared.clean.Goals as goal

pub step_again-requires-clause-brings : goal.step_again-requires-clause-brings
step_again-requires-clause-brings g c =
    clean_brings (meaning g.K.Code.encoding g.V.Code.encoding g.K.Code.is_encodable g.V.Code.is_encodable g.K.Code.is_decodable g.V.Code.is_decodable g.P.Properties.age) g.D.Disk.byte_at c.clean-result.new.mine.me.0 c.args.block c.clean-result.result
    (c.clean-result.ensures.told.1.rights (clean_right c.args.block) (cleans_above c.args.block) c.requires.right) c.clean-result.ensures.cleaned

pub returns-clause-told : goal.returns-clause-told
returns-clause-told g c = record {
  cleaned = c.clean-result.new.mine.me.0;
  outcome = c.clean-result.result;
  disk = c.clean-result.ensures.told.0;
  access = c.clean-result.ensures.told.1;
  state = c.clean-result.ensures.cleaned;
  report = c.step_again.ensures.told;
}

pub returns-clause-noted : goal.returns-clause-noted
returns-clause-noted g c = (c.clean-result.result, c.step_again.ensures.noted)

pub returns-clause-on : goal.returns-clause-on
returns-clause-on g c =
    on_on (meaning g.K.Code.encoding g.V.Code.encoding g.K.Code.is_encodable g.V.Code.is_encodable g.K.Code.is_decodable g.V.Code.is_decodable g.P.Properties.age) g.D.Disk.byte_at c.args.session.now.witness.me.0 c.clean-result.new.mine.me.0 c.step_again.new.session.witness.me.0
    (clean_on (meaning g.K.Code.encoding g.V.Code.encoding g.K.Code.is_encodable g.V.Code.is_encodable g.K.Code.is_decodable g.V.Code.is_decodable g.P.Properties.age) g.D.Disk.byte_at c.args.session.now.witness.me.0 c.clean-result.new.mine.me.0 c.args.block (is_ok c.clean-result.result) c.clean-result.ensures.told.0 c.clean-result.ensures.told.1) c.step_again.ensures.on
