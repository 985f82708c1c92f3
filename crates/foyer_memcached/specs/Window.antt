-- What a window holds of its connection.
use Rattle.std.specs.Prelude.{ℕ, List}
use Rattle.foyer_memcached.specs.declared.window.Window.{Window}

module _ {A : Type 0} where
  -- the bytes that were read and not taken, and how many that weren't read yet are passed over
  abbrev pub held : Window A → List ℕ × ℕ
  held w = (w.bytes.items, w.over)
