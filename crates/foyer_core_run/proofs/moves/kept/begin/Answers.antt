use Rattle.foyer_core_run.proofs.moves.kept.begin.Goals as goal

pub returns-clause-issued : goal.returns-clause-issued
returns-clause-issued g c = c.in_ok-none_due.ensures.none

pub returns-clause-scans : goal.returns-clause-scans
returns-clause-scans g c = c.in_ok-none_due-2.ensures.none
