use Rattle.std.proofs.Common.{refl}
use Rattle.foyer_format_buffer.proofs.SplitLemmas.{begins_blob}
use Rattle.foyer_format_buffer.proofs.split_progress.SplitProgress.next_blob.Goals as goal

pub returns-clause-going : goal.returns-clause-going
returns-clause-going g c = λ s f all rest o.
    begins_blob s f all rest c.args.self.now _ c.requires.full refl refl refl refl refl refl refl c.reset.ensures.empty c.requires.size refl o
