use Rattle.std.specs.Prelude.{◌≡◌, ℕ, ◌<◌}
use Rattle.foyer_core_laws.specs.Content.{meaning}
use Rattle.foyer_core_threads.specs.Going.{GoesOn}
use Rattle.foyer_storage_history.specs.HistoryCalls.{IsWaitedFor}
use Rattle.foyer_storage_history.proofs.engine.HistoryEngine.wait_all.Given as goal

abbrev pub invariant-loop-flusher : goal.invariant-loop-flusher
invariant-loop-flusher g l =
    GoesOn (meaning g.K.Code.encoding g.V.Code.encoding g.K.Code.is_encodable g.V.Code.is_encodable g.K.Code.is_decodable g.V.Code.is_decodable g.P.Properties.age) g.D.Disk.byte_at l.fn.session.told.witness.me.0 l.session.told.witness.me.0
    × ((f : ℕ) → f < l.flusher → IsWaitedFor (meaning g.K.Code.encoding g.V.Code.encoding g.K.Code.is_encodable g.V.Code.is_encodable g.K.Code.is_decodable g.V.Code.is_decodable g.P.Properties.age) g.D.Disk.byte_at l.fn.session.told.witness.me.0 l.session.told.witness.me.0 f)
    × (l.session.told.session ≡ l.fn.session.told.session)
