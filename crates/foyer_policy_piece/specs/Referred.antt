-- What contracts see of a reference to a piece.
use Rattle.std.specs.Prelude.{ℕ}
use Rattle.foyer_policy_piece.specs.Record.{Record}

-- a piece, and the number of its insertion into a keeper; 0 is of none
pub record Referred (K V P : Type 0) : Type 0 where
  pub piece : Record K V P
  pub number : ℕ
