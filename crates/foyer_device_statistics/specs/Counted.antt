-- The rule of the counters, and what a step says.
use Rattle.std.specs.Prelude.{◌≡◌, ◌≢◌, ℕ, ◌+◌, ◌%◌, ◌^◌, ◌<◌, ◌≤◌, max, List, [], ◌∷◌, length, slice_index_or, slice_set}
use mathlib.Core.Option.{some}
use lib.ListN.{get_elem?}
use Rattle.atomic_table.specs.Table.{State, Me, Step}
use Rattle.foyer_device_statistics.specs.declared.view.View.{View}
use Rattle.foyer_device_statistics.specs.declared.state.IoState.{IoState}
use Rattle.foyer_device_statistics.specs.declared.state.Totals.{Totals}

abbrev pub view : ℕ → List ℕ → List ℕ → View
view parts recorded saw = record { parts = parts; recorded = recorded; saw = saw }

abbrev pub zeros : List ℕ
zeros = 0 ∷ 0 ∷ 0 ∷ 0 ∷ []

abbrev pub at : ℕ → List ℕ → ℕ
at i xs = slice_index_or xs i 0

-- f of each, added up
abbrev pub total : (View → ℕ) → List View → ℕ
total f [] = 0
total f (v ∷ vs) = f v + total f vs

-- what all seats recorded on a counter
abbrev pub sum_of : ℕ → List View → ℕ
sum_of i views = total (λ v. at i v.recorded) views

-- a seat has all four counters, has seen no more than was recorded, and has recorded nothing if it has no part
abbrev pub Fits : List View → View → Type 0
Fits views v =
    (length v.recorded ≡ 4) × (length v.saw ≡ 4)
    × ((i : ℕ) → at i v.saw ≤ sum_of i views)
    × (v.parts ≡ 0 → (i : ℕ) → at i v.recorded ≡ 0)

-- each counter is what all seats recorded on it
abbrev pub Counted : State (Unit {0}) View → Type 0
Counted s =
    (length s.words ≡ 4)
    × (total (λ v. v.parts) s.views ≡ 2 ^ 32)
    × ((i : ℕ) → i < 4 → at i s.words ≡ sum_of i s.views % 2 ^ 64)
    × ((id : ℕ) (v : View) → get_elem? s.views id ≡ some v → Fits s.views v)

-- what the seat recorded on one counter grows
abbrev pub Grows : ℕ → ℕ → View → View → Type 0
Grows i n v w = w ≡ view v.parts (slice_set v.recorded i (at i v.recorded + n)) v.saw

abbrev pub Adds : Step (Unit {0}) → Me (Unit {0}) View → ℕ → Me (Unit {0}) View → Type 0
Adds st me n w = Grows st.word st.first me.0 w.0 × (w.1 ≡ me.1)

-- n is a sum that was seen, modulo 2^64. The sum is no less than the seat had recorded or seen. If the seat has every
-- part, the sum is all that was recorded.
abbrev pub Reads : ℕ → ℕ → View → View → Type 0
Reads i n v w =
    (n ≡ at i w.saw % 2 ^ 64) × (at i v.recorded ≤ at i w.saw) × (at i v.saw ≤ at i w.saw)
    × (v.parts ≡ 2 ^ 32 → at i w.saw ≡ at i v.recorded)

-- one counter was read, and no other was
abbrev pub Sees : ℕ → ℕ → View → View → Type 0
Sees i n v w = (w ≡ view v.parts v.recorded (slice_set v.saw i (at i w.saw))) × Reads i n v w

abbrev pub Loads : Step (Unit {0}) → Me (Unit {0}) View → ℕ → Me (Unit {0}) View → Type 0
Loads st me n w = Sees st.word n me.0 w.0 × (w.1 ≡ me.1)

-- counters were read: the seat has its parts and what it recorded, and has seen no less
abbrev pub SeesMore : View → View → Type 0
SeesMore v w = (w.parts ≡ v.parts) × (w.recorded ≡ v.recorded) × ((i : ℕ) → at i v.saw ≤ at i w.saw)

-- two counters were read, and no other was
abbrev pub SeesTwo : ℕ → ℕ → ℕ → ℕ → View → View → Type 0
SeesTwo i j a b v w =
    SeesMore v w × Reads i a v w × Reads j b v w × ((k : ℕ) → k ≢ i → k ≢ j → at k w.saw ≡ at k v.saw)

-- the four counters are those of the state
abbrev pub SeesState : IoState → View → View → Type 0
SeesState s v w =
    SeesMore v w × Reads 0 s.disk_write_bytes v w × Reads 1 s.disk_read_bytes v w × Reads 2 s.disk_write_ios v w
    × Reads 3 s.disk_read_ios v w

-- the seat that has every part has recorded these, and saw no more
abbrev pub AreTotals : Totals → View → Type 0
AreTotals t v =
    (t.disk_write_bytes ≡ at 0 v.recorded % 2 ^ 64) × (t.disk_read_bytes ≡ at 1 v.recorded % 2 ^ 64)
    × (t.disk_write_ios ≡ at 2 v.recorded % 2 ^ 64) × (t.disk_read_ios ≡ at 3 v.recorded % 2 ^ 64)
    × ((i : ℕ) → i < 4 → at i v.saw ≤ at i v.recorded)

abbrev pub first_view : View
first_view = view (2 ^ 32) zeros zeros

-- two lists of sums, added, and the greater of each
abbrev pub plus : List ℕ → List ℕ → List ℕ
plus [] ys = []
plus (x ∷ xs) [] = x ∷ xs
plus (x ∷ xs) (y ∷ ys) = (x + y) ∷ plus xs ys

abbrev pub higher : List ℕ → List ℕ → List ℕ
higher [] ys = []
higher (x ∷ xs) [] = x ∷ xs
higher (x ∷ xs) (y ∷ ys) = max x y ∷ higher xs ys

abbrev pub both : View → View → View
both v w = view (v.parts + w.parts) (plus v.recorded w.recorded) (higher v.saw w.saw)

abbrev pub spent : View
spent = view 0 zeros zeros

-- these amounts were added to what the seat recorded
abbrev pub Records : View → List ℕ → View → Type 0
Records v ns w = w ≡ view v.parts (plus v.recorded ns) v.saw
