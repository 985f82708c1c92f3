use Rattle.std.proofs.Common.{rules}
use Rattle.foyer_device_page.proofs.Parts.{parts}
use Rattle.foyer_device_page.proofs.io.bytes.slices.IoSlice.slice.Goals as goal

pub returns-clause-part : goal.returns-clause-part
returns-clause-part g c = search (rules, parts) depth 1

pub returns-clause-bytes : goal.returns-clause-bytes
returns-clause-bytes g c = search (rules, parts) depth 1

pub invariant_of-result : goal.invariant_of-result
invariant_of-result g c = search (rules, parts) depth 1
