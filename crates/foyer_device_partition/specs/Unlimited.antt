-- The limits of a device that was given none.
use Rattle.std.specs.Prelude.{None}
use Rattle.foyer_device_throttle.specs.declared.throttle.Throttle.{Throttle}
use Rattle.foyer_device_throttle.specs.declared.iops.IopsCounter.TheVariants.{PerIo}

abbrev pub unlimited : Throttle
unlimited = record { write_iops = None; read_iops = None; write_throughput = None; read_throughput = None; iops_counter = PerIo }
