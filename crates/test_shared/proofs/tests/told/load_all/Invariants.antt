use Rattle.std.proofs.Common.{◌≡◌, []}
use Rattle.test_shared.proofs.tests.told.load_all.Given as goal

-- the session is of the history and has its parts
abbrev pub invariant-loads : goal.invariant-loads
invariant-loads g l = (l.session.witness.table_id ≡ g.J.HistoryName.table) × (l.session.witness.me.1 ≡ []) × (l.session.session.shares.parts ≡ l.fn.session.session.shares.parts)
