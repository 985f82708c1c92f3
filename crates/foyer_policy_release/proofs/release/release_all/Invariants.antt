use Rattle.std.specs.Prelude.{◌≡◌}
use Rattle.foyer_policy_release.proofs.release.release_all.Given as goal

abbrev pub invariant-loop-at : goal.invariant-loop-at
invariant-loop-at g l = (l.releases.count ≡ l.at) × (l.releases.pieces ≡ l.fn.pieces)
