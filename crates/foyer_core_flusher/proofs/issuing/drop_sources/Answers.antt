use Rattle.std.proofs.Common.{drop, ap, ◌∙◌}
use Rattle.std.proofs.lemmas.List.{drop-drop}
use Rattle.foyer_core_flusher.proofs.issuing.drop_sources.Goals as goal

pub each_place-preserved : goal.each_place-preserved
each_place-preserved g c =
    c.pop_front.ensures.rest ∙ ap (drop 1) c.each_place.invariant ∙ drop-drop 1 c.each_place.counter c.args.sources.now.items
