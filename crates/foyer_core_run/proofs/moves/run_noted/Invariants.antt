use Rattle.std.proofs.Common.{◌≡◌, ◌≤◌, ℕ, vec_len, length, ◌++◌}
use Rattle.foyer_core_model.specs.World.{World}
use Rattle.foyer_core_laws.specs.Content.{Content, meaning}
use Rattle.foyer_core_laws.specs.Sizes.{AreValid}
use Rattle.foyer_core_steps.specs.StateOf.{IsStateOf}
use Rattle.foyer_core_laws.specs.Settings.{Settings}
use Rattle.foyer_core_run.specs.Causes.{HasCome}
use Rattle.foyer_core_run.proofs.RunLemmas.{IsGoing}
use Rattle.foyer_core_run.proofs.moves.run_noted.Given as goal

abbrev pub invariant-loop-x : goal.invariant-loop-x
invariant-loop-x g l = record {
  few : vec_len l.kept.replies ≤ length l.yielded;
  rest : l.fn.moves.items ≡ l.yielded ++ l.x-iterator.rest.items;
  known : g.D.Disk.is_known l.fn.disk → g.D.Disk.is_known l.disk;
  lies : (b o n : ℕ) → g.D.Disk.surely_lies l.fn.disk b o n → g.D.Disk.surely_lies l.disk b o n;
  counted : g.D.Disk.faults l.fn.disk ≤ g.D.Disk.faults l.disk;
  going : g.D.Disk.is_known l.fn.disk → (s : Settings) (sound : AreValid s) (w : World Content)
      → IsStateOf (meaning g.K.Code.encoding g.V.Code.encoding g.K.Code.is_encodable g.V.Code.is_encodable g.K.Code.is_decodable g.V.Code.is_decodable g.P.Properties.age) s l.fn.core w.core
      → ((b o : ℕ) → w.bytes b o ≡ g.D.Disk.byte_at l.fn.disk b o)
      → IsGoing (meaning g.K.Code.encoding g.V.Code.encoding g.K.Code.is_encodable g.V.Code.is_encodable g.K.Code.is_decodable g.V.Code.is_decodable g.P.Properties.age) s sound
      (HasCome g.D.Disk.surely_lies g.D.Disk.faults l.fn.disk l.disk) l.kept.has_failed w l.yielded l.kept.tickets.items l.kept.issued.items l.kept.scans.items l.kept.cleans.items l.kept.replies.items l.core (g.D.Disk.byte_at l.disk);
}
