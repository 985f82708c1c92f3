use Rattle.std.proofs.Common.{arith, ap, ℕ, ◌-◌, ◌/◌, rules}
use Rattle.foyer_format_blob.proofs.blob.BlobIndex.new.Goals as goal

pub invariant_of-result : goal.invariant_of-result
invariant_of-result g c =
    let len = c.len.ensures in
    (omega (arith, len.value, len.pages, c.requires.some), c.requires.small, ap (λ (n : ℕ). (n - 12) / 24) len.value, omega arith)

pub returns-clause-empty : goal.returns-clause-empty
returns-clause-empty g c = search rules depth 1
