-- What records of one value, with numbers as keys, take in buffers.
use Rattle.std.specs.Prelude.{◌≡◌, ◌⊎◌, ℕ, ◌+◌, ◌*◌, ◌^◌, ◌<◌, ◌≤◌}
use Rattle.foyer_device_page.specs.declared.error.Error.{Error}
use Rattle.foyer_device_page.specs.declared.error.Error.TheVariants as error
use Rattle.foyer_format_layout.specs.Page.{page_up}

-- the length of a record: its header, a value of n bytes behind its length, and a number
abbrev pub record_len : ℕ → ℕ
record_len n = 36 + (8 + n + 8)

-- the most that a record may take: 16 MiB without a page
abbrev pub greatest : ℕ
greatest = 16773120

-- So many bytes are those of count records of a value of n bytes, each record padded to whole pages. The
-- count is at most this many records. It is 0 if a record takes more than it may.
pub record AreRecords (n records bytes : ℕ) : Type 0 where
  pub count : ℕ
  pub few : count ≤ records
  pub fits : 0 < count → page_up (record_len n) ≤ greatest
  pub sum : bytes ≡ count * page_up (record_len n)

-- Why not all records were laid out: an allocation was refused, one takes more than it may, or all of them
-- take more than 64 bits count.
abbrev pub IsStop : (n records : ℕ) → Error → Type 0
IsStop n records e =
    (e ≡ error.Memory) ⊎ (((e ≡ error.BufferSizeLimit) × (greatest < page_up (record_len n)))
    ⊎ ((e ≡ error.OutOfRange) × (2 ^ 64 ≤ records * page_up (record_len n))))
