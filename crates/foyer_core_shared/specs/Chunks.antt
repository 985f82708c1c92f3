-- Notes in chunks.
use Rattle.std.specs.Prelude.{List, [], ◌∷◌, ◌++◌}
use Rattle.std.specs.declared.vec.Vec.{Vec}

-- those of the full chunks, and behind them those of the last
abbrev pub all_of : {X A : Type 0} → List (Vec X A) → List X → List X
all_of [] last = last
all_of (chunk ∷ chunks) last = chunk.items ++ all_of chunks last
