use Rattle.std.proofs.Common.{ℕ, ◌∙◌, ap, length, refl}
use Rattle.std.proofs.lemmas.List.{length-replicate}
use Rattle.foyer_format_layout.specs.Page.{page_up}
use Rattle.foyer_block_tombstone.proofs.block.tombstone.page.PageBuffer.new.Goals as goal

pub invariant_of-result : goal.invariant_of-result
unfolding page_up
invariant_of-result g c = (c.in_ok-shown.ensures.zeros, ap length c.in_ok-spare.ensures.zeros ∙ length-replicate {A = ℕ} 4096 0)

pub returns-clause-new : goal.returns-clause-new
unfolding page_up
returns-clause-new g c = rw c.in_ok-shown.ensures.zeros refl
