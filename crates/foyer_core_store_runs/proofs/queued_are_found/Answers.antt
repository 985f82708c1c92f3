use Rattle.std.proofs.Common.{◌≡◌, true}
use Rattle.foyer_core_store_runs.proofs.QueuedFound.{queued_are_found_lem}
use Rattle.foyer_core_store_runs.proofs.queued_are_found.Goals as goal

pub returns : goal.returns
returns g c = λ same key_of hash_of rules splits is_value. queued_are_found_lem same key_of hash_of rules (λ f rs ss. splits f rs ss ≡ true) (λ v. is_value v ≡ true)
