-- Of accesses one after the other, of which it is sure that they came.
use Rattle.std.proofs.Common.{◌≡◌, ◌≢◌, ◌-◌, ◌^◌, ◌<◌, ◌≤◌, ◌⊎◌, ℕ, inl, inr, arith}
use Rattle.foyer_io_disk.specs.Disk.{HasFailed, HasFailedNone, SurelyCame}

-- none failed before a count on the way
pub none_before : (old mid new : ℕ) → old ≤ mid → mid ≤ new → HasFailedNone old new → HasFailedNone old mid
none_before old mid new up on none = let same = none.0 in (omega arith, none.1)

-- nor behind it
pub none_behind : (old mid new : ℕ) → old ≤ mid → mid ≤ new → HasFailedNone old new → HasFailedNone mid new
none_behind old mid new up on none =
    let same = none.0 in
    let end = none.1 in
    (omega arith, (λ is. end (omega (arith, same, up, on, is))))

-- that one failed and that none did exclude each other
pub not_both : (old new : ℕ) → HasFailed old new → HasFailedNone old new → ⊥
not_both old new (inl lt) none = let same = none.0 in omega arith
not_both old new (inr end) none = none.1 end

module _ (has lies : ℕ → ℕ → ℕ → Type 0) (old mid new : ℕ) (up : old ≤ mid) (on : mid ≤ new) where
  -- what surely came up to the end came up to a count on the way
  pub came_before : (b o n : ℕ) → SurelyCame has lies old new b o n → SurelyCame has lies old mid b o n
  came_before b o n (inl is) = inl is
  came_before b o n (inr both) = inr (none_before old mid new up on both.0, both.1)

  -- and behind it, of a disk that has what it had
  pub came_behind : (has' lies' : ℕ → ℕ → ℕ → Type 0) → ((b o n : ℕ) → has b o n → has' b o n) → ((b o n : ℕ) → lies b o n → lies' b o n)
      → (b o n : ℕ) → SurelyCame has lies old new b o n → SurelyCame has' lies' mid new b o n
  came_behind has' lies' having lying b o n (inl is) = inl (having b o n is)
  came_behind has' lies' having lying b o n (inr both) = inr (none_behind old mid new up on both.0, lying b o n both.1)
