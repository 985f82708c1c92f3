use Rattle.std.proofs.Common.{◌≡◌, ◌+◌, ◌<◌, ◌≤◌, true, is_ok, List, [], ◌∷◌, ◌++◌, length, take, vec_len, vec_capacity, if◌then◌else◌, ap, ◌∙◌, arith}
use Rattle.std.proofs.lemmas.List.{take-append-le}
use Rattle.foyer_block_index.specs.declared.shard.Entry.{Entry}
use Rattle.foyer_block_index.specs.declared.shard.Slot.TheVariants.{Vacant}
use Rattle.foyer_block_index.proofs.shard.lengthen.Goals as goal

pub loop-preserved : goal.loop-preserved
loop-preserved g c =
    let start = c.args.entries.now in
    let len : vec_len c.loop.entries ≡ vec_len start + c.loop.counter = c.loop.invariant.len in
    let capacity : vec_capacity start ≤ vec_capacity c.loop.entries = c.loop.invariant.capacity in
    let grown : vec_capacity c.loop.entries ≤ vec_capacity c.push.new.self = c.push.ensures.capacity in
    let more : c.loop.counter < c.args.count = c.loop-test.true in
    let fits : vec_len start + c.args.count ≤ vec_capacity start = c.requires in
    let room : vec_len c.loop.entries < vec_capacity c.loop.entries = omega arith in
    let went : is_ok c.push.result ≡ true = c.push.ensures.succeeds room in
    let vacant : Entry = record { hash = 0; slot = Vacant } in
    let before : List Entry = c.loop.entries.items in
    let items : c.push.new.self.items ≡ before ++ vacant ∷ [] = c.push.ensures.items ∙ ap (λ b. if b then before ++ vacant ∷ [] else before) went in
    let longer : vec_len c.push.new.self ≡ vec_len c.loop.entries + 1 = c.push.ensures.len ∙ ap (λ b. if b then vec_len c.loop.entries + 1 else vec_len c.loop.entries) went in
    let whole : vec_len c.loop.entries ≡ length before = c.loop.entries.ok.0 in
    let reach : vec_len start ≤ length before = omega arith in
    record {
      front = ap (take (vec_len start)) items ∙ take-append-le (vec_len start) before (vacant ∷ []) reach ∙ c.loop.invariant.front;
      len = omega (arith, longer);
      capacity = omega arith;
    }
