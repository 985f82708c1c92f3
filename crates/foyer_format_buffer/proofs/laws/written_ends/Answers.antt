use Rattle.foyer_format_buffer.proofs.EndsLemmas.{written_ends_lem}
use Rattle.foyer_format_buffer.proofs.HoldsLemmas.{each_some}
use Rattle.foyer_format_buffer.proofs.laws.written_ends.Goals as goal

pub returns : goal.returns
returns g c = λ s whole B start f h es all infos parts sizes room each fills some holds lists.
    written_ends_lem s whole sizes B start f h es all infos parts room (each_some s infos each) fills some holds lists
