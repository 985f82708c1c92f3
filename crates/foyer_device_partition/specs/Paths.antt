-- The names of a device's files.
use Rattle.std.specs.Prelude.{ℕ, zero, suc, ◌-◌, List, [], ◌∷◌, ◌++◌, codes, decimal, length, replicate}

-- the digits of a number, with zeros before them up to eight
abbrev pub eight_digits : ℕ → List ℕ
eight_digits n = replicate (8 - length (decimal n)) 48 ++ decimal n

-- the path of a partition's file in a directory at a path
abbrev pub partition_path : List ℕ → ℕ → List ℕ
partition_path dir id = dir ++ (codes "/foyer-storage-direct-fs-" ++ eight_digits id)

-- those of the files of the first partitions, so many
abbrev pub first_paths : List ℕ → ℕ → List (List ℕ)
first_paths dir zero = []
first_paths dir (suc n) = first_paths dir n ++ partition_path dir n ∷ []
