use Rattle.std.specs.Prelude.{◌≡◌}
use Rattle.foyer_storage_workers.proofs.workers.answering.answer_all.Given as goal

abbrev pub invariant-loop-at : goal.invariant-loop-at
invariant-loop-at g l = (l.answers.count ≡ l.at) × (l.answers.ids ≡ l.fn.ids)
