use Rattle.foyer_memcached.proofs.Lines.{line_found, no_line}
use Rattle.foyer_memcached.proofs.words.split_line.Goals as goal

pub returns-in_err-end : goal.returns-in_err-end
returns-in_err-end c = rw c.from_residual.ensures (no_line c.args.bytes.now c.in_err-end.ensures)

pub returns : goal.returns
returns c = line_found c.in_ok-end.end c.args.bytes.now c.in_ok-end.ensures
