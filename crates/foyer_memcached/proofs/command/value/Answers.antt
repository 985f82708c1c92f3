use Rattle.std.proofs.Common.{◌∙◌, sym, refl, arith, true, false}
use Rattle.foyer_memcached.specs.Asked.{flagged_if, storing}
use Rattle.foyer_memcached.proofs.Values.{value_parts}
use Rattle.foyer_memcached.proofs.command.value.Goals as goal

pub returns-then-eq : goal.returns-then-eq
returns-then-eq c =
    value_parts c.args.limits (storing c.args.how) (flagged_if c.args.meta) c.args.rest.now true (omega (arith, c.if-len-how.false)) (omega (arith, c.if-rest-len.false)) c.split_at.result.0.now c.split_at.result.1.now c.split_at-2.result.0.now c.split_at-2.result.1.now c.as_slice.result.now _ _
    c.split_at.ensures.front c.split_at.ensures.back c.split_at-2.ensures.front c.split_at-2.ensures.back c.as_slice.ensures refl c.stored.ensures (sym c.eq.ensures ∙ c.if-eq.true)

pub returns-else-eq : goal.returns-else-eq
returns-else-eq c =
    value_parts c.args.limits (storing c.args.how) (flagged_if c.args.meta) c.args.rest.now false (omega (arith, c.if-len-how.false)) (omega (arith, c.if-rest-len.false)) c.split_at.result.0.now c.split_at.result.1.now c.split_at-2.result.0.now c.split_at-2.result.1.now c.as_slice.result.now c.refusal_for.result _
    c.split_at.ensures.front c.split_at.ensures.back c.split_at-2.ensures.front c.split_at-2.ensures.back c.as_slice.ensures c.refusal_for.ensures refl (sym c.eq.ensures ∙ c.if-eq.false)
