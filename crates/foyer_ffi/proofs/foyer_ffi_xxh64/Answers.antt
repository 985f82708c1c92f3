use Rattle.std.proofs.Common.{rules}
use Rattle.foyer_ffi.proofs.foyer_ffi_xxh64.Goals as goal

pub returns : goal.returns
returns c = search rules depth 1
