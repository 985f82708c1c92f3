use Rattle.std.proofs.Common.{rules}
use Rattle.foyer_cli.proofs.lines.Lines.next_whole.Goals as goal

pub invariant_of-self : goal.invariant_of-self
invariant_of-self g c = search rules depth 1
