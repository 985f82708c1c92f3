use Rattle.foyer_bench.proofs.bench.bench_words.Goals as goal

pub returns-in-Ok : goal.returns-in-Ok
returns-in-Ok g c = record { usage = λ none. absurd (none c.in-Ok.options c.in-Ok.plan c.in-Ok.ensures.ok) }
