use Rattle.foyer_format_buffer.proofs.HoldsLemmas.{holds_fills, each_some}
use Rattle.foyer_format_buffer.proofs.laws.written_holds.Goals as goal

pub returns : goal.returns
returns g c = λ s whole B start f h es infos parts sizes room each fills holds.
    holds_fills s whole sizes B start f es infos parts h room (each_some s infos each) fills holds
