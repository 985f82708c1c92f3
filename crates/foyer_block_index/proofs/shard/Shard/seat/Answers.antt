use Rattle.std.proofs.Common.{◌≡◌, ◌⊎◌, inl, inr, ℕ, zero, suc, [], ◌∷◌, refl, sym, subst, true, ◌<◌, slice_index_or, arith}
use Rattle.std.specs.List.{Contains}
use Rattle.foyer_block_index.specs.Entries.{hashes}
use Rattle.foyer_block_index.specs.Probe.{HasPlace}
use Rattle.foyer_block_index.specs.Shards.{Has}
use Rattle.foyer_block_index.proofs.shard.Shard.seat.Goals as goal

only_one : (h q k : ℕ) → k < 1 → slice_index_or (h ∷ []) k q ≡ q → q ≡ h
only_one h q zero lt at = sym at
only_one h q (suc k) lt at = absurd (omega arith)

pub returns-clause-only : goal.returns-clause-only
returns-clause-only g c = λ other has. go other (c.merge.ensures.only other has)
  where
    go : (other : ℕ) → Has c.reserve.new.self other ⊎ Contains (c.args.hash ∷ []) other → Has c.args.self.now other ⊎ ((other ≡ c.args.hash) × (true ≡ true))
    go other (inl had) = inl (subst (λ l. HasPlace (hashes l) other) c.reserve.ensures.same had)
    go other (inr new) = inr (only_one c.args.hash other new.0 new.1 new.2, refl)
