use Rattle.std.proofs.Common.{◌≡◌, ◌∙◌, ◌++◌, ◌∷◌, [], sym, ap, add-one, arith}
use Rattle.foyer_core_model.specs.Ids.{ids}
use Rattle.foyer_core_steps.proofs.env.Env.list_blocks.Goals as goal

pub each_block-preserved : goal.each_block-preserved
each_block-preserved g c = record {
  ids = c.in_ok-push.ensures.items ∙ ap (λ xs. xs ++ c.each_block.block ∷ []) c.each_block.invariant.ids ∙ ap ids (sym (add-one c.each_block.block));
  pickers = c.each_block.invariant.pickers;
  filter = c.each_block.invariant.filter;
}

pub returns-in_err-push-clause-filter : goal.returns-in_err-push-clause-filter
returns-in_err-push-clause-filter g c = c.each_block.invariant.filter

pub returns-clause-ids : goal.returns-clause-ids
returns-clause-ids g c =
    let all : c.each_block.block ≡ c.args.blocks = omega arith in
    c.each_block.invariant.ids ∙ ap ids all

pub returns-clause-filter : goal.returns-clause-filter
returns-clause-filter g c = c.each_block.invariant.filter

pub returns-in_err-push-clause-pickers : goal.returns-in_err-push-clause-pickers
returns-in_err-push-clause-pickers g c = c.each_block.invariant.pickers

pub returns-clause-pickers : goal.returns-clause-pickers
returns-clause-pickers g c = c.each_block.invariant.pickers
