use Rattle.foyer_core_flusher.specs.Seen.{seen}
use Rattle.foyer_core_flusher.proofs.LoggedLemmas.{noted}
use Rattle.foyer_core_flusher.proofs.flusher.Flusher.log.Goals as goal

pub returns : goal.returns
returns g c = λ m s sound f it slots blocks stands.
    noted m s sound f it (seen c.args.self.now) slots blocks stands c.in-Some.batch c.in-Some.is c.args.went_well _
