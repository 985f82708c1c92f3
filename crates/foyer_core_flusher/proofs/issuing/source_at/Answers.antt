use Rattle.std.proofs.Common.{◌≡◌, false, true, refl, arith}
use Rattle.foyer_core_flusher.proofs.IssueLemmas.{source_some, source_none}
use Rattle.foyer_core_flusher.proofs.issuing.source_at.Goals as goal

pub returns-in-Some : goal.returns-in-Some
returns-in-Some g c = source_some c.args.sources.now.items c.args.place c.in-Some.source.now (omega (arith, c.in-Some.ensures.variant.0 refl, c.args.sources.now.ok)) c.in-Some.ensures.lookup

pub returns-in-None : goal.returns-in-None
returns-in-None g c = source_none c.args.sources.now.items c.args.place
    (λ lt. let clash : false ≡ true = c.in-None.ensures.variant.1 (omega (arith, lt, c.args.sources.now.ok)) in absurd (cc))
