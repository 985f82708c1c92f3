-- The quota of a limit.
use Rattle.std.specs.Prelude.{◌≡◌, ℕ, ℤ, pos, negsuc, ◌+◌, ◌-◌, ◌*◌, ◌≤◌, ◌+ℤ◌, ◌-ℤ◌, max, List, [], ◌∷◌, ◌++◌, map, All}
use Rattle.std.specs.Int.{div_ceil, int_min}

-- what comes to a limit: so many units are recorded, or it is polled at a moment
pub data Event : Type 0 where
  Recorded : ℕ → Event
  Polled : ℕ → Event

-- billionths of a unit, and the last moment up to which it was filled
pub record Quota : Type 0 where
  pub billionths : ℤ
  pub moment : ℕ

abbrev pub billion : ℕ
billion = 1_000_000_000

-- at the moment at which the counting begins
abbrev pub fresh : ℕ → Quota
fresh now = record { billionths = pos 0; moment = now }

-- Recording lessens it. A poll fills it by the limit for each second since the last moment, up to the limit; one at an
-- earlier moment fills nothing.
abbrev pub after : ℕ → Quota → Event → Quota
after limit q (Recorded n) = record { billionths = q.billionths -ℤ pos (n * billion); moment = q.moment }
after limit q (Polled now) = record {
  billionths = int_min (q.billionths +ℤ pos ((now - q.moment) * limit)) (pos (limit * billion));
  moment = max q.moment now;
}

-- what all of them leave, in order
abbrev pub after_all : ℕ → Quota → List Event → Quota
after_all limit q [] = q
after_all limit q (e ∷ es) = after_all limit (after limit q e) es

-- the units that they record together
abbrev pub recorded_by : List Event → ℕ
recorded_by [] = 0
recorded_by (Recorded n ∷ es) = n + recorded_by es
recorded_by (Polled now ∷ es) = recorded_by es

-- the nanoseconds, rounded up, in which the limit fills what is missing
abbrev pub wait : ℕ → ℤ → ℕ
wait limit (pos n) = 0
wait limit (negsuc n) = div_ceil (n + 1) limit

-- polls up to a moment, none recorded between them, leave what the last one alone leaves
abbrev pub LastPollCounts : Type 0
LastPollCounts =
    (limit : ℕ) (q : Quota) (nows : List ℕ) (now : ℕ) → All (λ t. t ≤ now) nows
    → after_all limit q (map (λ t. Polled t) nows ++ Polled now ∷ []) ≡ after limit q (Polled now)
