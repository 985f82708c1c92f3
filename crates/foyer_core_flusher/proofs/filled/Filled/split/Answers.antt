use Rattle.std.proofs.Common.{refl}
use Rattle.foyer_device_page.specs.Section.{bytes_of}
use Rattle.foyer_core_flusher.specs.Filled.{IsShared}
use Rattle.foyer_core_flusher.proofs.FilledLemmas.{finished_of, each_fits, ok_more}
use Rattle.foyer_core_flusher.proofs.filled.Filled.split.Goals as goal

pub split-requires-clause-each : goal.split-requires-clause-each
split-requires-clause-each g c =
    each_fits c.args.ctx.now.sizes c.args.self.now c.in_ok-bytes.bytes c.in_ok-bytes.infos.items c.in_ok-bytes.ensures.shared c.requires

pub split-requires-clause-within : goal.split-requires-clause-within
split-requires-clause-within g c =
    let is : IsShared c.args.self.now c.in_ok-bytes.bytes c.in_ok-bytes.infos.items = c.in_ok-bytes.ensures.shared in
    is.shared.within

pub returns-clause-split : goal.returns-clause-split
returns-clause-split g c =
    let is : IsShared c.args.self.now c.in_ok-bytes.bytes c.in_ok-bytes.infos.items = c.in_ok-bytes.ensures.shared in
    ok_more c.split.result (λ batch placed. record {
      bytes = bytes_of c.in_ok-bytes.bytes;
      whole = c.in_ok-bytes.bytes;
      infos = c.in_ok-bytes.infos.items;
      same = refl;
      finished = finished_of c.args.self.now c.in_ok-bytes.bytes c.in_ok-bytes.infos.items is;
      laid = placed;
      some = is.some;
    }) c.split.ensures.placed
