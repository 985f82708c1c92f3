use Rattle.std.proofs.Common.{◌≡◌, true}
use Rattle.foyer_core_written.proofs.Past.{past_stays_lem}
use Rattle.foyer_core_written.proofs.Flown.{returns_queued_lem}
use Rattle.foyer_core_written.proofs.Written.{queued_are_written_lem}
use Rattle.foyer_core_written.proofs.queued_are_written.Goals as goal

-- src/lib.rt:12:1
pub returns-clause-written : goal.returns-clause-written
returns-clause-written g c = λ rules splits is_value. queued_are_written_lem rules (λ f rs ss. splits f rs ss ≡ true) (λ v. is_value v ≡ true)

pub returns-clause-stays : goal.returns-clause-stays
returns-clause-stays g c = λ rules splits is_value. past_stays_lem rules (λ f rs ss. splits f rs ss ≡ true) (λ v. is_value v ≡ true)

pub returns-clause-returns : goal.returns-clause-returns
returns-clause-returns g c = λ rules splits is_value. returns_queued_lem rules (λ f rs ss. splits f rs ss ≡ true) (λ v. is_value v ≡ true)
