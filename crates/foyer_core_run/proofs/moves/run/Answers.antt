use Rattle.foyer_core_run.proofs.moves.run.Goals as goal

pub returns-clause-runs : goal.returns-clause-runs
returns-clause-runs g c = λ known s sound w stands same. (c.in_ok-kept.ensures.runs known s sound w stands same).run

pub returns-clause-honest : goal.returns-clause-honest
returns-clause-honest g c = λ known s sound w stands same. let noted = c.in_ok-kept.ensures.runs known s sound w stands same in (noted.run, noted.causes)
