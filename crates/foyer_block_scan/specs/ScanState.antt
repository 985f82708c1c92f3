-- The position of a scan.
use Rattle.std.specs.Prelude.{ℕ, Option}
use Rattle.foyer_format_layout.specs.Position.{Sizes}

-- a scan: of which block and filling, its sizes, and the offset that is to be read next, until it has ended
pub record Scan : Type 0 where
  pub block : ℕ
  pub filling : ℕ
  pub sizes : Sizes
  pub blob_offset : Option ℕ
