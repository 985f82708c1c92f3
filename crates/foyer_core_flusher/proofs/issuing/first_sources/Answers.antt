use Rattle.std.proofs.Common.{◌≡◌, ◌+◌, ◌-◌, ◌<◌, ◌≤◌, ◌++◌, ◌∷◌, [], drop, vec_len, vec_capacity, sym, ap, ◌∙◌, arith}
use Rattle.foyer_core_flusher.specs.Issued.{padded, source_in}
use Rattle.foyer_core_flusher.proofs.IssueLemmas.{padded_next, put_behind}
use Rattle.foyer_core_flusher.proofs.issuing.first_sources.Goals as goal

pub each_place-preserved : goal.each_place-preserved
each_place-preserved g c =
    let i = c.each_place.place in
    let n = c.args.count in
    let sources = c.args.sources.now.items in
    let lt : i < n = c.each_place-test.true in
    let long : vec_len c.push_reserved.new.self ≡ vec_len c.each_place.first + 1 = c.push_reserved.ensures.len in
    let same : vec_capacity c.push_reserved.new.self ≡ vec_capacity c.each_place.first = c.push_reserved.ensures.capacity in
    let fits : vec_len c.each_place.first + (n - i) ≤ vec_capacity c.each_place.first = c.each_place.invariant.room in
    record {
      room = omega arith;
      first = ap (λ l. l ++ padded (n - (i + 1)) (drop (i + 1) sources)) (c.push_reserved.ensures.items ∙ ap (λ o. c.each_place.first.items ++ o ∷ []) c.source_at.ensures)
          ∙ sym (put_behind c.each_place.first.items (source_in sources i) (padded (n - (i + 1)) (drop (i + 1) sources)))
          ∙ ap (λ l. c.each_place.first.items ++ l) (sym (padded_next n i sources lt))
          ∙ c.each_place.invariant.first;
    }
