use Rattle.std.proofs.Common.{◌≡◌, ◌∙◌}
use Rattle.foyer_list.proofs.ListingLemmas.{kept_as}
use Rattle.foyer_list.proofs.listing.list_block.Goals as goal

pub returns-clause-listed : goal.returns-clause-listed
returns-clause-listed g c = λ known.
    let is = c.in_ok-entries.ensures.listed known in
    record {
      listed = is;
      kept = c.count_kept-kept.ensures ∙ kept_as c.args.block is.listed c.deref.result.now (c.deref.ensures.value ∙ is.are);
    }
