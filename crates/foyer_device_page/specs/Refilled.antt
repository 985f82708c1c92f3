-- Bytes written over all others, as many as there were.
use Rattle.std.specs.Prelude.{◌≡◌, ℕ, List, ◌++◌, length, take, drop}
use Rattle.std.proofs.Common.{arith}
use Rattle.std.proofs.lemmas.Grind.{common_steps}

abbrev pub refilled : List ℕ → List ℕ → List ℕ
refilled old bytes = take (length old) (bytes ++ drop (length bytes) old)

pub refilled-same : (old bytes : List ℕ) → length bytes ≡ length old → refilled old bytes ≡ bytes
refilled-same old bytes same = grind (arith, common_steps)
