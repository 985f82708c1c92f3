-- The bytes that answer which program this is.
use Rattle.std.specs.Prelude.{ℕ, List, ◌++◌, codes}
use Rattle.foyer_frames.specs.declared.request.Limits.{Limits}
use Rattle.foyer_frames.specs.Numbers.{number_bytes}

-- the program's name and the end of a line, the version of the frames, the limits of a key and of a value, the program's own version
abbrev pub greeting : Limits → List ℕ → List ℕ
greeting limits version = codes "foyerpipe\n" ++ (number_bytes 1 ++ (number_bytes limits.key ++ (number_bytes limits.value ++ version)))
