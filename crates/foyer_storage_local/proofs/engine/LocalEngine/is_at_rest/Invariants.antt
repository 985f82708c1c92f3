use Rattle.std.proofs.Common.{ℕ, ◌<◌}
use Rattle.foyer_core_run.specs.AtRest.{IsFlusherIdle}
use Rattle.foyer_core_laws.specs.Content.{meaning}
use Rattle.foyer_storage_local.proofs.engine.LocalEngine.is_at_rest.Given as goal

abbrev pub invariant-loop-flusher : goal.invariant-loop-flusher
invariant-loop-flusher g l = (f : ℕ) → f < l.flusher → IsFlusherIdle (meaning g.K.Code.encoding g.V.Code.encoding g.K.Code.is_encodable g.V.Code.is_encodable g.K.Code.is_decodable g.V.Code.is_decodable g.P.Properties.age) f l.self.core
