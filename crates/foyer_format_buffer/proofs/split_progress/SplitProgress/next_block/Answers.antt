use Rattle.std.proofs.Common.{refl}
use Rattle.foyer_format_buffer.proofs.SplitLemmas.{begins_block}
use Rattle.foyer_format_buffer.proofs.split_progress.SplitProgress.next_block.Goals as goal

pub returns-clause-going : goal.returns-clause-going
returns-clause-going g c = λ s f all rest o.
    begins_block s f all rest c.args.info.now _ c.args.self.now _ c.requires.open c.requires.over refl c.in_ok-end_block.ensures.parts c.in_ok-end_block.ensures.blocks
    refl refl refl refl refl c.reset.ensures.empty c.requires.size refl o
