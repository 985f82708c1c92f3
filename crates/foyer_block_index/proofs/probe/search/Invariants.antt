use Rattle.std.proofs.Common.{◌≡◌, ℕ, ◌+◌, ◌<◌, ◌≤◌, ◌^◌, length, slice_index}
use Rattle.foyer_block_index.proofs.probe.search.Given as goal

-- the hash is nowhere before `low`, nor from `low + size` on; what the turns left over suffice for
abbrev pub invariant-halving : goal.invariant-halving
invariant-halving l = record {
  hashes : l.probe.hashes ≡ l.fn.probe.hashes;
  within : l.low + l.size ≤ length l.fn.probe.hashes;
  below : (k : ℕ) → k < l.low → slice_index l.fn.probe.hashes k < l.hash;
  above : (k : ℕ) → l.low + l.size ≤ k → k < length l.fn.probe.hashes → l.hash < slice_index l.fn.probe.hashes k;
  turns : (digits : ℕ) → length l.fn.probe.hashes < 2 ^ digits → (left : ℕ) × (l.size < 2 ^ left) × (l.probe.turns + left ≤ l.fn.probe.turns + digits);
}

abbrev pub decreases-halving : goal.decreases-halving
decreases-halving l = l.size
