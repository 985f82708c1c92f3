use Rattle.std.proofs.Common.{inr, refl}
use Rattle.foyer_block_recover.specs.Recovery.{opened_of}
use Rattle.foyer_list.proofs.verdict.winners.Goals as goal

pub returns-clause-found : goal.returns-clause-found
returns-clause-found g c = λ known. record {
  opened = opened_of c.in_ok-recovered.recovered;
  is = c.in_ok-recovered.ensures.recovered (inr known);
  same = λ hash. refl;
}
