-- A line of the protocol: where it ends, its words, and the numbers that words write.
use Rattle.std.specs.Prelude.{ℕ, ◌+◌, ◌-◌, ◌*◌, ◌^◌, List, [], ◌∷◌, length, take, slice_index, nat_lt, Option, Some, None, ◌==◌, if◌then◌else◌}
use Rattle.std.specs.Char.{is_ascii_digit}

-- ---- lines

abbrev pub longer : ℕ → Option (List ℕ × List ℕ) → Option (List ℕ × List ℕ)
longer b None = None
longer b (Some x) = Some (b ∷ x.0, x.1)

-- the bytes before the first line feed, and those behind it
unfoldable pub line_at : List ℕ → Option (List ℕ × List ℕ)
line_at [] = None
line_at (b ∷ bs) = if b == 10 then Some ([], bs) else longer b (line_at bs)

-- a line without the carriage return that may end it
abbrev pub without_return : List ℕ → List ℕ
without_return line = if slice_index line (length line - 1) == 13 then take (length line - 1) line else line

-- ---- words

abbrev pub begun_by : ℕ → List (List ℕ) → List (List ℕ)
begun_by b [] = (b ∷ []) ∷ []
begun_by b (w ∷ ws) = (b ∷ w) ∷ ws

-- the pieces before, between and behind the blanks of a line
unfoldable pub pieces : List ℕ → List (List ℕ)
pieces [] = [] ∷ []
pieces (b ∷ bs) = if b == 32 then [] ∷ pieces bs else begun_by b (pieces bs)

-- those that aren't empty
unfoldable pub not_empty : List (List ℕ) → List (List ℕ)
not_empty [] = []
not_empty ([] ∷ ws) = not_empty ws
not_empty ((b ∷ bs) ∷ ws) = (b ∷ bs) ∷ not_empty ws

-- a line's words are its pieces that aren't empty
unfoldable pub words : List ℕ → List (List ℕ)
words line = not_empty (pieces line)

-- ---- numbers

-- the number that decimal digits write behind those of n
unfoldable pub decimal_after : ℕ → List ℕ → Option ℕ
decimal_after n [] = Some n
decimal_after n (d ∷ ds) = if is_ascii_digit d then decimal_after (n * 10 + (d - 48)) ds else None

abbrev pub in_64_bits : Option ℕ → Option ℕ
in_64_bits None = None
in_64_bits (Some n) = if nat_lt n (2 ^ 64) then Some n else None

-- the number that a word writes: decimal digits, at least one, and a value of 64 bits
unfoldable pub number_of : List ℕ → Option ℕ
number_of [] = None
number_of (d ∷ ds) = in_64_bits (decimal_after 0 (d ∷ ds))
