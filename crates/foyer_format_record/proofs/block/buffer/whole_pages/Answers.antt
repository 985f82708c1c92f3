use Rattle.std.proofs.Common.{rules}
use Rattle.foyer_format_layout.specs.Page.{page_up}
use Rattle.foyer_format_record.proofs.block.buffer.whole_pages.Goals as goal

pub returns : goal.returns
unfolding page_up
returns c = search rules depth 1
