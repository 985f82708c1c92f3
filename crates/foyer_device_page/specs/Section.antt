-- A range of a buffer that may have several owners.
use Rattle.std.specs.Prelude.{ℕ, ◌+◌, List, length, slice_range, Bool, nat_eq, ◌&&◌}
use Rattle.std.specs.Cmp.{IsPartialEquivalence, IsEquivalence, partial_equiv_from_equiv, on_equiv, and_equiv, nat_eq_equiv}
use Rattle.std.specs.Cmp.Lexicographic.{pointwise, nat_list_eq_equiv}

-- all bytes of the buffer, and the range
pub record Section : Type 0 where
  pub whole : List ℕ
  pub start : ℕ
  pub end : ℕ

-- the bytes of the range
abbrev pub bytes_of : Section → List ℕ
bytes_of s = slice_range s.whole s.start s.end

-- the range is all of the buffer
abbrev pub all_of : List ℕ → Section
all_of bytes = record { whole = bytes; start = 0; end = length bytes }

-- the range from start to end, both counted from the start of this one
abbrev pub part_of : Section → (start end : ℕ) → Section
part_of s start end = record { whole = s.whole; start = s.start + start; end = s.start + end }

-- equal buffers, and the same range
abbrev pub section_eq : Section → Section → Bool
section_eq s t = pointwise nat_eq s.whole t.whole && (nat_eq s.start t.start && nat_eq s.end t.end)

pub section_equiv : IsEquivalence section_eq
section_equiv =
    and_equiv (on_equiv (λ (s : Section). s.whole) nat_list_eq_equiv)
    (and_equiv (on_equiv (λ (s : Section). s.start) nat_eq_equiv) (on_equiv (λ (s : Section). s.end) nat_eq_equiv))

pub section_per : IsPartialEquivalence section_eq
section_per = partial_equiv_from_equiv section_equiv
