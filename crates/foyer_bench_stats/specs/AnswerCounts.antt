-- How many calls were answered how.
use Rattle.std.specs.Prelude.{◌≡◌, ℕ, ◌+◌, ◌-◌, ◌^◌, min}
use Rattle.foyer_bench_stats.specs.declared.answers.Answers.{Answers}
use Rattle.foyer_bench_stats.specs.declared.answers.PutAnswer.{PutAnswer}
use Rattle.foyer_bench_stats.specs.declared.answers.PutAnswer.TheVariants as put_answer
use Rattle.foyer_bench_stats.specs.declared.answers.GetAnswer.{GetAnswer}
use Rattle.foyer_bench_stats.specs.declared.answers.GetAnswer.TheVariants as get_answer

-- a sum, as a number of 64 bits that stays at the greatest one
abbrev pub capped_sum : ℕ → ℕ → ℕ
capped_sum a b = min (a + b) (2 ^ 64 - 1)

abbrev pub no_answers : Answers
no_answers = record { puts = 0; queued = 0; dropped = 0; put_faults = 0; gets = 0; hits = 0; wrong = 0; misses = 0; get_faults = 0 }

-- with one put more
abbrev pub put : PutAnswer → Answers → Answers
put put_answer.Queued a = record a { puts = capped_sum a.puts 1; queued = capped_sum a.queued 1 }
put put_answer.Dropped a = record a { puts = capped_sum a.puts 1; dropped = capped_sum a.dropped 1 }
put put_answer.Fault a = record a { puts = capped_sum a.puts 1; put_faults = capped_sum a.put_faults 1 }

-- with one get more
abbrev pub got : GetAnswer → Answers → Answers
got get_answer.Hit a = record a { gets = capped_sum a.gets 1; hits = capped_sum a.hits 1 }
got get_answer.Wrong a = record a { gets = capped_sum a.gets 1; wrong = capped_sum a.wrong 1 }
got get_answer.Miss a = record a { gets = capped_sum a.gets 1; misses = capped_sum a.misses 1 }
got get_answer.Fault a = record a { gets = capped_sum a.gets 1; get_faults = capped_sum a.get_faults 1 }

-- of both
abbrev pub both : Answers → Answers → Answers
both a b = record {
  puts = capped_sum a.puts b.puts;
  queued = capped_sum a.queued b.queued;
  dropped = capped_sum a.dropped b.dropped;
  put_faults = capped_sum a.put_faults b.put_faults;
  gets = capped_sum a.gets b.gets;
  hits = capped_sum a.hits b.hits;
  wrong = capped_sum a.wrong b.wrong;
  misses = capped_sum a.misses b.misses;
  get_faults = capped_sum a.get_faults b.get_faults;
}

-- each put was queued or dropped, each get a hit or a miss
pub record IsWell (a : Answers) : Type 0 where
  pub none_wrong : a.wrong ≡ 0
  pub no_put_faults : a.put_faults ≡ 0
  pub no_get_faults : a.get_faults ≡ 0
  pub puts : capped_sum a.queued a.dropped ≡ a.puts
  pub gets : capped_sum a.hits a.misses ≡ a.gets
