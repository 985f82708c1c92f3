use Rattle.std.proofs.Common.{rules}
use Rattle.foyer_format_layout.specs.Page.{page_up}
use Rattle.foyer_ffi.proofs.placing.buffer_size.Goals as goal

pub returns-then-len-le-SHORT-clause-room : goal.returns-then-len-le-SHORT-clause-room
unfolding page_up
returns-then-len-le-SHORT-clause-room c = search rules depth 1
