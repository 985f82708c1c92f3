use Rattle.foyer_storage_build.proofs.builder.open.Given as goal

abbrev pub invariant-each_worker : goal.invariant-each_worker
invariant-each_worker g l = g.N.EngineConfig.may_begin l.fn.engine l.fn.context l.opening
