use Rattle.foyer_block_recover.proofs.SourcesLemmas.{listings_are_sources}
use Rattle.foyer_block_recover.proofs.laws.listings_are_sources.Goals as goal

pub returns : goal.returns
returns c = listings_are_sources
