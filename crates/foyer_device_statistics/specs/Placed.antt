-- A seat and the counters that it is at.
use Rattle.atomic_table.specs.Seated.{TableId}
use Rattle.foyer_device_throttle.specs.declared.throttle.Throttle.{Throttle}
use Rattle.foyer_device_statistics.specs.declared.view.View.{View}

-- whose seat it is, and what it knows
pub record Placed : Type 0 where
  pub table : TableId
  pub view : View

-- which counters these are, and the limits
pub record Counters : Type 0 where
  pub table : TableId
  pub limits : Throttle

-- a seat beside the counters that it is at
pub record Seated : Type 0 where
  pub table : TableId
  pub limits : Throttle
  pub view : View
