-- Which request an answer is to.
use Rattle.std.specs.Prelude.{ℕ}
use Rattle.foyer_pipe.specs.declared.answers.Answered.{Answered}
use Rattle.foyer_pipe.specs.declared.answers.Answered.TheVariants as answered

abbrev pub number_of : Answered → ℕ
number_of (answered.Replied replied) = replied.number
number_of (answered.Left left) = left.number
