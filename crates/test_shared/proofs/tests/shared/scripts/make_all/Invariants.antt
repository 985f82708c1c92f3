use Rattle.std.proofs.Common.{◌≡◌}
use Rattle.test_shared.proofs.tests.shared.scripts.make_all.Given as goal

-- each session keeps its parts
abbrev pub invariant-loop-word : goal.invariant-loop-word
invariant-loop-word g l =
    (goal.iterator-loop-word g).can_next l.word-iterator
    × (goal.iterator-loop-word g).is_finite l.word-iterator
    × (l.first.shares.parts ≡ l.fn.first.shares.parts)
    × (l.second.shares.parts ≡ l.fn.second.shares.parts)
