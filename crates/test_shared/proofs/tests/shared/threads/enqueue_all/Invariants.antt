use Rattle.std.proofs.Common.{◌≡◌}
use Rattle.test_shared.proofs.tests.shared.threads.enqueue_all.Given as goal

-- the session keeps its parts
abbrev pub invariant-times : goal.invariant-times
invariant-times g l = l.session.shares.parts ≡ l.fn.session.shares.parts
