use Rattle.std.proofs.Common.{◌≡◌, ℕ, IsSome, slice_get, vec_len}
use Rattle.foyer_block_recover.specs.Sources.{listing_in}
use Rattle.foyer_storage_workers.proofs.recover.add_all.Given as goal

abbrev pub invariant-each_listing : goal.invariant-each_listing
invariant-each_listing g l = record {
  stay : (b : ℕ) → IsSome (listing_in (slice_get l.fn.listings.slots.items b)) → slice_get l.listings.slots.items b ≡ slice_get l.fn.listings.slots.items b;
  room : vec_len l.listings.slots ≡ vec_len l.fn.listings.slots;
}
