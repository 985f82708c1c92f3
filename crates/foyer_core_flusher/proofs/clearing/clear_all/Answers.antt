use Rattle.std.proofs.Common.{◌≡◌, ℕ, ◌<◌, ◌≤◌, ◌+◌, ◌++◌, List, length, map, take, drop, slice_set, slice_index_or, sym, ap, ◌∙◌, arith}
use Rattle.std.proofs.lemmas.List.{at_drop_all, append-nil, get_or-map, take_all}
use Rattle.std.proofs.lemmas.List.Edits.{map_over_more}
use Rattle.foyer_core_blocks.proofs.ListLemmas.{map_count, set_map}
use Rattle.foyer_core_flusher.specs.Cleared.{cleared}
use Rattle.foyer_core_flusher.specs.Seen.{Seen, seen}
use Rattle.foyer_core_flusher.specs.declared.flusher.Flusher.{Flusher}
use Rattle.foyer_core_flusher.proofs.clearing.clear_all.Goals as goal

-- one more is cleared
one_more : {K V P A : Type 0} (xs ys : List (Flusher K V P A)) (i : ℕ) (d y : Flusher K V P A) → i < length ys → i < length xs
    → map seen ys ≡ map cleared (take i (map seen xs)) ++ drop i (map seen xs) → seen y ≡ cleared (seen (slice_index_or ys i d))
    → map seen (slice_set ys i y) ≡ map cleared (take (i + 1) (map seen xs)) ++ drop (i + 1) (map seen xs)
one_more {K} {V} {P} {A} xs ys i d y lt there are clears =
    let x : Seen K V P A = seen (slice_index_or ys i d) in
    set_map seen ys i y ∙ ap (slice_set (map seen ys) i) clears
    ∙ map_over_more cleared (map seen xs) (map seen ys) i x (let e : length (map seen xs) ≡ length xs = map_count seen xs in omega arith) are
    (sym (get_or-map seen ys i d x lt))

-- until all are
all_done : {K V P A : Type 0} (xs ys : List (Flusher K V P A)) (i : ℕ)
    → map seen ys ≡ map cleared (take i (map seen xs)) ++ drop i (map seen xs) → length xs ≤ i → map seen ys ≡ map cleared (map seen xs)
all_done xs ys i are over =
    let count : length (map seen xs) ≡ length xs = map_count seen xs in
    let past : length (map seen xs) ≤ i = omega arith in
    are ∙ at_drop_all (λ l. map cleared (take i (map seen xs)) ++ l) (map seen xs) i past
    ∙ append-nil (map cleared (take i (map seen xs))) ∙ ap (map cleared) (take_all i (map seen xs) past)

pub each_flusher-preserved : goal.each_flusher-preserved
each_flusher-preserved g c =
    one_more c.args.flushers.now c.each_flusher.flushers c.each_flusher.flusher-index c.flusher-item.result c.clear.new.self
    (let same : length c.each_flusher.flushers ≡ length c.args.flushers.now = c.each_flusher.auto.flushers in let lt : c.each_flusher.flusher-index < length c.args.flushers.now = c.each_flusher-test.true in omega arith)
    c.each_flusher-test.true c.each_flusher.invariant c.clear.ensures

pub returns : goal.returns
returns g c = all_done c.args.flushers.now c.each_flusher.flushers c.each_flusher.flusher-index c.each_flusher.invariant (omega (arith, c.each_flusher-test.false))
