use Rattle.std.proofs.Common.{◌≡◌, ◌-◌, List, drop, length, map, string_bytes, take, arith}
use Rattle.std.proofs.lemmas.List.{length-drop, take_all}
use Rattle.foyer_bench_stats.specs.BenchPlans.{ArePlanWords, AreRefused}
use Rattle.foyer_bench.proofs.words.read_words.Goals as goal

rest_is : {X : Type 0} (words : List X) → take (length words - 3) (drop 3 words) ≡ drop 3 words
rest_is words = take_all (length words - 3) (drop 3 words) (omega (arith, length-drop 3 words))

pub returns-in-Ok-clause-ok : goal.returns-in-Ok-clause-ok
returns-in-Ok-clause-ok g c =
    let read : ArePlanWords (map string_bytes (take (length c.args.words.now - 3) (drop 3 c.args.words.now))) c.in-Ok.plan = c.in-Ok.ensures.read in
    record { sizes = c.in-Some.ensures; is_plan = rw (rest_is c.args.words.now) at read }

pub returns-in-Err-clause-refused : goal.returns-in-Err-clause-refused
returns-in-Err-clause-refused g c =
    let read : AreRefused (map string_bytes (take (length c.args.words.now - 3) (drop 3 c.args.words.now))) c.in-Err.refusal = c.in-Err.ensures.read in
    rw (rest_is c.args.words.now) at read
