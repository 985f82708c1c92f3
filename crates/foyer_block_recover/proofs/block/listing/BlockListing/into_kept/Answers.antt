use Rattle.std.proofs.Common.{subst}
use Rattle.foyer_format_layout.specs.Each.{Each}
use Rattle.foyer_block_recover.specs.Sources.{Listing, IsWithinBlock}
use Rattle.foyer_block_recover.proofs.block.listing.BlockListing.into_kept.Goals as goal

pub returns-clause-within : goal.returns-clause-within
returns-clause-within g c = subst (λ (x : Listing). Each (IsWithinBlock x.sizes x.block) x.kept) c.self.view_is c.self.invariant.1
