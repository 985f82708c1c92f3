use Rattle.std.proofs.Common.{◌≡◌, ◌+◌, ◌<◌, []}
use Rattle.foyer_core_chronicle.specs.Rights.{times}
use Rattle.foyer_core_told.specs.ToldRights.{writes_right}
use Rattle.test_shared.proofs.tests.told.run.Given as goal

-- both sessions are of the history, and have parts; the first has its flusher's right
abbrev pub invariant-values : goal.invariant-values
invariant-values g l =
    ((l.one.witness.table_id ≡ g.J.HistoryName.table) × (l.one.witness.me.1 ≡ []) × (l.one.session.shares.parts + 1 ≡ 4294967296) × (0 < times (writes_right 0) l.one.witness.me.0.has))
    × ((l.two.witness.table_id ≡ g.J.HistoryName.table) × (l.two.witness.me.1 ≡ []) × (l.two.session.shares.parts ≡ 1))
