use Rattle.std.proofs.Common.{◌≡◌, true}
use Rattle.foyer_core_model.proofs.Replies.{in_turn_replies_lem}
use Rattle.foyer_core_model.proofs.in_turn_replies.Goals as goal

pub returns : goal.returns
returns g c = λ rules splits is_value. in_turn_replies_lem rules (λ f rs ss. splits f rs ss ≡ true) (λ v. is_value v ≡ true)
