-- Pages of 4096 bytes.
use Rattle.std.specs.Prelude.{ℕ, ◌+◌, ◌*◌, ◌/◌}

-- n rounded up to a multiple of 4096
unfoldable pub page_up : ℕ → ℕ
page_up n = (n + 4095) / 4096 * 4096
