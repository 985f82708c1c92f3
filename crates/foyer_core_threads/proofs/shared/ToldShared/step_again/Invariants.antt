use Rattle.std.specs.Prelude.{◌≡◌, ◌<◌, ℕ, [], true}
use Rattle.foyer_core_chronicle.specs.Rights.{times}
use Rattle.foyer_core_laws.specs.Content.{meaning}
use Rattle.foyer_core_told.specs.ToldRights.{step_takes}
use Rattle.foyer_core_told.specs.Telling.{BringsTrue}
use Rattle.foyer_core_threads.specs.Done.{AreNoted}
use Rattle.foyer_core_threads.specs.Going.{IsRefused}
use Rattle.foyer_core_threads.proofs.shared.ToldShared.step_again.Given as goal

abbrev pub invariant-loop : goal.invariant-loop
invariant-loop g l =
    (l.given ≡ l.fn.step) × (l.session.witness.table_id ≡ g.J.HistoryName.table) × (l.session.witness.me.1 ≡ []) × (l.session.session.shares.parts ≡ l.fn.session.session.shares.parts)
    × ((count : ℕ) × IsRefused (meaning g.K.Code.encoding g.V.Code.encoding g.K.Code.is_encodable g.V.Code.is_encodable g.K.Code.is_decodable g.V.Code.is_decodable g.P.Properties.age) g.D.Disk.byte_at count l.fn.step l.fn.session.witness.me.0 l.session.witness.me.0)
    × BringsTrue (meaning g.K.Code.encoding g.V.Code.encoding g.K.Code.is_encodable g.V.Code.is_encodable g.K.Code.is_decodable g.V.Code.is_decodable g.P.Properties.age) g.D.Disk.byte_at l.session.witness.me.0 l.fn.step
    × ((k : ℕ) → step_takes l.fn.step k ≡ true → 0 < times k l.session.witness.me.0.has)
    × ((tries : ℕ) × AreNoted g.N.Noting.keeps tries l.fn.session.session l.session.session l.fn.step)
