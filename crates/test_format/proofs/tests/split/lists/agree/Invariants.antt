use Rattle.std.proofs.Common.{◌≡◌}
use Rattle.test_format.proofs.tests.split.lists.agree.Given as goal

abbrev pub invariant-lists : goal.invariant-lists
invariant-lists l = l.ctx.sizes ≡ l.fn.ctx.sizes
