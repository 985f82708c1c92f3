use Rattle.std.proofs.Common.{◌≡◌, ◌<◌, []}
use Rattle.foyer_core_chronicle.specs.Rights.{times}
use Rattle.foyer_core_told.specs.ToldRights.{writes_right}
use Rattle.test_shared.proofs.tests.told.put_all.Given as goal

-- the session is of the history, has its parts, and the flusher's right
abbrev pub invariant-values : goal.invariant-values
invariant-values g l =
    (l.session.witness.table_id ≡ g.J.HistoryName.table) × (l.session.witness.me.1 ≡ []) × (l.session.session.shares.parts ≡ l.fn.session.session.shares.parts)
    × (0 < times (writes_right 0) l.session.witness.me.0.has)
