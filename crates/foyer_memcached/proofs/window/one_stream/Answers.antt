use Rattle.foyer_memcached.proofs.Streams.{again}
use Rattle.foyer_memcached.proofs.window.one_stream.Goals as goal

pub returns : goal.returns
returns c = again
