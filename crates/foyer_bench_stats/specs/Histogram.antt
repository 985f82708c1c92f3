-- What a histogram shows.
use Rattle.std.specs.Prelude.{◌≡◌, ℕ, ◌+◌, ◌*◌, ◌<◌, ◌≤◌, List, length, sum, take, max, min, slice_index, slice_set}
use Rattle.foyer_bench_stats.specs.Buckets.{IsBucketOf, highest_of}

-- how many numbers each bucket has, and the greatest number
pub record Noted : Type 0 where
  pub counts : List ℕ
  pub greatest : ℕ

-- nothing is noted
abbrev pub HasNothing : Noted → Type 0
HasNothing h = (length h.counts ≡ 3776) × (sum h.counts ≡ 0) × (h.greatest ≡ 0)

-- One number more is noted, in its bucket, and nothing else is changed.
pub record NotesOne (value : ℕ) (h after : Noted) : Type 0 where
  pub bucket : ℕ
  pub is_its_own : IsBucketOf value bucket
  pub counts : after.counts ≡ slice_set h.counts bucket (slice_index h.counts bucket + 1)
  pub greatest : after.greatest ≡ max h.greatest value

-- both are noted, bucket by bucket
pub record NotesBoth (h other after : Noted) : Type 0 where
  pub counts : (k : ℕ) → k < 3776 → slice_index after.counts k ≡ slice_index h.counts k + slice_index other.counts k
  pub greatest : after.greatest ≡ max h.greatest other.greatest

-- The bucket is the least up to which so many thousandths of all numbers lie, and the number is its end, or the greatest one.
pub record IsPercentile (h : Noted) (thousandths value : ℕ) : Type 0 where
  pub bucket : ℕ
  pub one_of_all : bucket < length h.counts
  pub fewer_below : 1000 * sum (take bucket h.counts) < thousandths * sum h.counts
  pub enough_with_it : thousandths * sum h.counts ≤ 1000 * sum (take (bucket + 1) h.counts)
  pub end : value ≡ min (highest_of bucket) h.greatest
