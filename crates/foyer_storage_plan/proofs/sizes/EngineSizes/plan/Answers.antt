use Rattle.std.proofs.Common.{refl, arith, rules}
use Rattle.foyer_format_layout.specs.Page.{page_up}
use Rattle.foyer_storage_plan.proofs.PlanLemmas.{small_index}
use Rattle.foyer_storage_plan.proofs.sizes.EngineSizes.plan.Goals as goal

pub whole_pages-requires : goal.whole_pages-requires
unfolding page_up
whole_pages-requires c = let sizes = c.in_ok-check.ensures.sound.0 refl in omega (arith, sizes.offsets_fit)

pub settings-requires-clause-index : goal.settings-requires-clause-index
settings-requires-clause-index c = small_index _ (c.in_ok-check.ensures.sound.0 refl)

pub returns-then-log-free-clause-space : goal.returns-then-log-free-clause-space
returns-then-log-free-clause-space c = search rules depth 1

pub returns-then-blocks-self-clause-sound : goal.returns-then-blocks-self-clause-sound
returns-then-blocks-self-clause-sound c = search rules depth 1
