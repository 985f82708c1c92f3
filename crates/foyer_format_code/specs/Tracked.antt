-- What a counting writer shows: the writer that it writes into, and its count.
use Rattle.std.specs.Prelude.{ℕ}
use Rattle.foyer_format_code.specs.declared.sinks.TrackedWriter.{TrackedWriter}

module _ {W : Type 0} where
  abbrev pub inner_of : TrackedWriter W → W
  inner_of t = t.inner

  abbrev pub written_of : TrackedWriter W → ℕ
  written_of t = t.written
