use Rattle.std.proofs.Common.{◌≡◌, ℕ, ◌<◌, ◌+◌, ◌&&◌, Bool, List, length, drop, slice_index_or, sym, ap, ◌∙◌, arith}
use Rattle.std.proofs.lemmas.List.{at_drop_more, at_drop_all}
use Rattle.foyer_core_flusher.specs.Cleared.{are_still}
use Rattle.foyer_core_flusher.specs.Seen.{is_still}
use Rattle.foyer_core_flusher.specs.declared.flusher.Flusher.{Flusher}
use Rattle.foyer_core_flusher.proofs.clearing.are_idle.Goals as goal

-- the next one is asked
asked : {K V P A : Type 0} (xs : List (Flusher K V P A)) (i : ℕ) (d : Flusher K V P A) (b : Bool) → i < length xs
    → are_still xs ≡ are_still (drop i xs) → b ≡ is_still (slice_index_or xs i d) → are_still xs ≡ (b && are_still (drop (i + 1) xs))
asked xs i d b lt are is = are ∙ at_drop_more are_still xs i d lt ∙ ap (λ k. k && are_still (drop (i + 1) xs)) (sym is)

pub returns-then-not-is_idle : goal.returns-then-not-is_idle
returns-then-not-is_idle g c =
    let xs = c.args.flushers.now in
    let i = c.each_flusher.flusher-index in
    sym (asked xs i c.flusher-item.result c.is_idle.result c.each_flusher-test.true c.each_flusher.invariant (c.is_idle.ensures ∙ ap is_still c.flusher-item.is)
    ∙ ap (λ k. k && are_still (drop (i + 1) xs)) c.if-not-is_idle.true)

pub each_flusher-preserved : goal.each_flusher-preserved
each_flusher-preserved g c =
    let xs = c.args.flushers.now in
    let i = c.each_flusher.flusher-index in
    asked xs i c.flusher-item.result c.is_idle.result c.each_flusher-test.true c.each_flusher.invariant (c.is_idle.ensures ∙ ap is_still c.flusher-item.is)
    ∙ ap (λ k. k && are_still (drop (i + 1) xs)) c.if-not-is_idle.false

pub returns : goal.returns
returns g c = sym (c.each_flusher.invariant ∙ at_drop_all are_still c.args.flushers.now c.each_flusher.flusher-index (omega (arith, c.each_flusher-test.false)))
